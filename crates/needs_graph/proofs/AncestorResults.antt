-- Whether a test holds for the result of one of a job's ancestors.
use Rattle.std.proofs.Common.{◌≡◌, ℕ, zero, suc, ◌+◌, ◌<◌, List, [], ◌∷◌, Bool, true, false, None, Option, cond, not, ◌||◌, ◌&&◌, length}
use Rattle.std.proofs.Common.{get_or, map, refl, ap, ◌∙◌, arith}
use Rattle.std.specs.List.{Contains, list_all, list_any, filter, range_with_len}
use Rattle.std.proofs.lemmas.Bool.{and_from, and_parts}
use Rattle.std.proofs.lemmas.List.{get_or_default}
use Rattle.std.proofs.lemmas.List.Folds.{Any-from_list_any, list_any_at}
use Rattle.wf_value.specs.declared.outcome.JobResult.{JobResult}
use Rattle.needs_graph.specs.Needs.{IsClosed, is_ancestor, ancestors_of, needs_at, ancestor_results}
use Rattle.needs_graph.proofs.Members.{Has, Contains-from_Has}
use Rattle.needs_graph.proofs.Walks.{is_ancestor-from_walk}
use Rattle.needs_graph.proofs.IndexLists.{Has-filter_range_from}

-- all pass if and only if none fails
pub list_all-not : {X : Type 0} (p : X → Bool) (xs : List X) → list_all p xs ≡ not (list_any (λ x. not (p x)) xs)
list_all-not p [] = refl
list_all-not p (x ∷ xs) =
    elim (p x) as (λ b. (b && list_all p xs) ≡ not (not b || list_any (λ x. not (p x)) xs))
    [ true ↦ list_all-not p xs | false ↦ refl ]

-- if no index below n passes both tests, none that the first selects passes the second
none_passes : (takes passes : ℕ → Bool) (a n : ℕ) → ((k : ℕ) → k < a + n → (takes k && passes k) ≡ false)
    → list_any passes (filter takes (range_with_len a n)) ≡ false
none_passes takes passes a zero each = refl
none_passes takes passes a (suc n) each =
    let rest = none_passes takes passes (a + 1) n (λ k below. each k (omega arith)) in
    elim (takes a)
    as (λ v. (v && passes a) ≡ false
    → list_any passes (cond v (a ∷ filter takes (range_with_len (a + 1) n)) (filter takes (range_with_len (a + 1) n))) ≡ false)
    [ true ↦ λ e. ap (λ b. b || list_any passes (filter takes (range_with_len (a + 1) n))) e ∙ rest | false ↦ λ e. rest ]
    (each a (omega arith))

one_passes : (passes : ℕ → Bool) (xs : List ℕ) (k : ℕ) → Has xs k → passes k ≡ true → list_any passes xs ≡ true
one_passes passes xs k has passes_k =
    let at = Contains-from_Has xs k has in
    list_any_at passes xs at.0 k at.1 (ap passes at.2 ∙ passes_k)

list_any-map : {X Y : Type 0} (p : Y → Bool) (f : X → Y) (xs : List X) → list_any p (map f xs) ≡ list_any (λ x. p (f x)) xs
list_any-map p f [] = refl
list_any-map p f (x ∷ xs) = ap (λ b. p (f x) || b) (list_any-map p f xs)

module _ (needs : List (List ℕ)) (results : List (Option JobResult)) (job : ℕ) (test : Option JobResult → Bool) where
  pub holds_of_none : ((other : ℕ) → other < length needs → (is_ancestor needs job other && test (get_or results other None)) ≡ false)
      → list_any test (ancestor_results needs results job) ≡ false
  holds_of_none each =
      list_any-map test (λ other. get_or results other None) (ancestors_of needs job)
      ∙ none_passes (is_ancestor needs job) (λ other. test (get_or results other None)) 0 (length needs)
      (λ k below. each k (omega arith))

  pub holds_of_one : (other : ℕ) → other < length needs → (is_ancestor needs job other && test (get_or results other None)) ≡ true
      → list_any test (ancestor_results needs results job) ≡ true
  holds_of_one other below both =
      let parts = and_parts (is_ancestor needs job other) (test (get_or results other None)) both in
      list_any-map test (λ other. get_or results other None) (ancestors_of needs job)
      ∙ one_passes (λ other. test (get_or results other None)) (ancestors_of needs job) other
      (Has-filter_range_from (is_ancestor needs job) (length needs) other below parts.0) parts.1

  -- a direct need is an ancestor
  pub holds_of_need : IsClosed needs → list_any (λ need. test (get_or results need None)) (needs_at needs job) ≡ true
      → list_any test (ancestor_results needs results job) ≡ true
  holds_of_need within h =
      let a = Any-from_list_any (λ need. test (get_or results need None)) (needs_at needs job) h in
      let needed : Contains (needs_at needs job) a.1 = (a.0, a.2, get_or_default (needs_at needs job) a.0 _ a.1 a.2 ∙ a.3) in
      holds_of_one a.1 (within job a.1 needed) (and_from _ _ (is_ancestor-from_walk needs within job a.1 ([], needed)) a.4)
