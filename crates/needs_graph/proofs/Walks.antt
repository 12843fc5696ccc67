-- Walks along needs.
use Rattle.std.proofs.Common.{◌≡◌, ℕ, zero, suc, ◌<◌, ◌≤◌, List, [], ◌∷◌, ◌++◌, Bool, true, false, eqb, length, sym, subst, ap, ◌∙◌, ⊎_elim}
use Rattle.std.proofs.Common.{arith, length-append, zero-add}
use Rattle.std.specs.List.{Contains, list_any, range_with_len, IsDistinct, AllByRecursion}
use Rattle.std.proofs.lemmas.Bool.{cases_Bool, or_cases, or_parts, eqb-true, false≢true}
use Rattle.std.proofs.lemmas.List.{get_or_past}
use Rattle.std.proofs.lemmas.Map.Keys.{IsDistinct-tail, IsDistinct-cons}
use Rattle.std.proofs.lemmas.List.Folds.{Any-from_list_any, list_any_at}
use Rattle.std.proofs.lemmas.List.FromFn.{length-range_with_len, get_or-range_with_len}
use Rattle.std.proofs.lemmas.Map.Steps.{length-le_from_distinct_below}
use Rattle.needs_graph.specs.Needs.{needs_at, IsWalk, HasWalk, walk_ends, is_ancestor, IsClosed}
use Rattle.needs_graph.proofs.Members.{Has, Contains-from_Has, Has-from_Contains, Has-flat_map, Has-flat_map_from}

-- ---- joined walks

pub walk-append : (needs : List (List ℕ)) (from mid to : ℕ) (xs ys : List ℕ) → IsWalk needs from xs mid → IsWalk needs mid ys to
    → IsWalk needs from (xs ++ mid ∷ ys) to
walk-append needs from mid to [] ys v w = (v, w)
walk-append needs from mid to (x ∷ xs) ys v w = (v.0, walk-append needs x mid to xs ys v.1 w)

pub joined : (needs : List (List ℕ)) (from mid to : ℕ) → HasWalk needs from mid → HasWalk needs mid to → HasWalk needs from to
joined needs from mid to v w = (v.0 ++ mid ∷ w.0, walk-append needs from mid to v.0 w.0 v.1 w.1)

-- ---- the ends of walks

pub walk_from_ends : (needs : List (List ℕ)) (n from to : ℕ) → Has (walk_ends needs n from) to → HasWalk needs from to
walk_from_ends needs zero from to h = ([], Contains-from_Has (needs_at needs from) to h)
walk_from_ends needs (suc n) from to h =
    let e = Has-flat_map_from (walk_ends needs n) (needs_at needs from) to h in
    let w = walk_from_ends needs n e.0 to e.2 in
    (e.0 ∷ w.0, (Contains-from_Has (needs_at needs from) e.0 e.1, w.1))

pub ends_from_walk : (needs : List (List ℕ)) (between : List ℕ) (from to : ℕ) → IsWalk needs from between to
    → Has (walk_ends needs (length between) from) to
ends_from_walk needs [] from to w = Has-from_Contains (needs_at needs from) to w
ends_from_walk needs (next ∷ between) from to w =
    Has-flat_map (walk_ends needs (length between)) (needs_at needs from) next to (Has-from_Contains (needs_at needs from) next w.0)
    (ends_from_walk needs between next to w.1)

-- ---- a walk that visits no job twice

abbrev pub Apart : List ℕ → Type 0
Apart = IsDistinct eqb

abbrev pub ShortWalk : List (List ℕ) → ℕ → ℕ → Type 0
ShortWalk needs from to = (between : List ℕ) × IsWalk needs from between to × Apart (between ++ to ∷ [])

alone : (x : ℕ) → Apart (x ∷ [])
unfolding IsDistinct
alone x = (tt, tt)

-- one step to a job on a short walk, and on from there
cut : (needs : List (List ℕ)) (from next at to : ℕ) (between : List ℕ) → Contains (needs_at needs from) next → IsWalk needs at between to
    → Apart (between ++ to ∷ []) → Has (between ++ to ∷ []) next → ShortWalk needs from to
cut needs from next at to [] step w apart h =
    let P : ℕ → Type 0 = λ n. Contains (needs_at needs from) n in
    ⊎_elim (λ e. ([], subst P (eqb-true next to e) step, alone to)) (λ r. absurd (false≢true r)) (or_cases _ _ h)
cut needs from next at to (b ∷ bs) step w apart h =
    let P : ℕ → Type 0 = λ n. Contains (needs_at needs from) n in
    ⊎_elim (λ e. (b ∷ bs, (subst P (eqb-true next b e) step, w.1), apart))
    (λ r. cut needs from next b to bs step w.1 (IsDistinct-tail eqb b _ apart) r) (or_cases _ _ h)

none_from_false : (test : ℕ → Bool) (xs : List ℕ) → list_any test xs ≡ false → AllByRecursion (λ y. test y ≡ false) xs
none_from_false test [] h = tt
none_from_false test (x ∷ xs) h = let parts = or_parts _ _ h in (parts.0, none_from_false test xs parts.1)

pub short_from_walk : (needs : List (List ℕ)) (between : List ℕ) (from to : ℕ) → IsWalk needs from between to → ShortWalk needs from to
short_from_walk needs [] from to w = ([], w, alone to)
short_from_walk needs (next ∷ between) from to w =
    let s = short_from_walk needs between next to w.1 in
    ⊎_elim (λ e. cut needs from next next to s.0 w.0 s.1 s.2 e)
    (λ e. (next ∷ s.0, (w.0, s.1), IsDistinct-cons eqb next _ (none_from_false (eqb next) _ e) s.2))
    (cases_Bool (list_any (eqb next) (s.0 ++ to ∷ [])))

-- ---- the jobs that a walk visits

walk_stays_within : (needs : List (List ℕ)) → IsClosed needs → (between : List ℕ) (from to q : ℕ) → IsWalk needs from between to
    → Has (between ++ to ∷ []) q → q < length needs
walk_stays_within needs closed [] from to q w h =
    ⊎_elim (λ e. let P : ℕ → Type 0 = λ n. n < length needs in subst P (sym (eqb-true q to e)) (closed from to w))
    (λ r. absurd (false≢true r)) (or_cases _ _ h)
walk_stays_within needs closed (b ∷ bs) from to q w h =
    ⊎_elim (λ e. let P : ℕ → Type 0 = λ n. n < length needs in subst P (sym (eqb-true q b e)) (closed from b w.0))
    (λ r. walk_stays_within needs closed bs b to q w.1 r) (or_cases _ _ h)

pub walk_end_below : (needs : List (List ℕ)) → IsClosed needs → (between : List ℕ) (from to : ℕ) → IsWalk needs from between to
    → to < length needs
walk_end_below needs closed [] from to w = closed from to w
walk_end_below needs closed (b ∷ bs) from to w = walk_end_below needs closed bs b to w.1

-- no walk starts at an index past the jobs
pub no_walk_past : (needs : List (List ℕ)) (from to : ℕ) → length needs ≤ from → HasWalk needs from to → ⊥
no_walk_past needs from to past w =
    let none : needs_at needs from ≡ [] = get_or_past needs from [] past in
    let P : List ℕ → ℕ → Type 0 = λ xs x. Has xs x in
    elim w.0
    as (λ between. IsWalk needs from between to → ⊥) [
      | [] ↦ λ step. false≢true (subst (λ (xs : List ℕ). P xs to) none (Has-from_Contains _ to step))
      | next ∷ between ↦ λ steps. false≢true (subst (λ (xs : List ℕ). P xs next) none (Has-from_Contains _ next steps.0))
    ]
    w.1

-- ---- the test for an ancestor, and walks

pub walk_from_is_ancestor : (needs : List (List ℕ)) (from to : ℕ) → is_ancestor needs from to ≡ true → HasWalk needs from to
walk_from_is_ancestor needs from to h =
    let a = Any-from_list_any (λ n. list_any (eqb to) (walk_ends needs n from)) (range_with_len 0 (length needs)) h in
    walk_from_ends needs a.1 from to a.4

any_in_range : (test : ℕ → Bool) (n i : ℕ) → i < n → test i ≡ true → list_any test (range_with_len 0 n) ≡ true
any_in_range test n i below h =
    list_any_at test (range_with_len 0 n) i 0 (rw length-range_with_len below) (ap test (get_or-range_with_len 0 n i 0 below ∙ zero-add i)
    ∙ h)

pub is_ancestor-from_walk : (needs : List (List ℕ)) → IsClosed needs → (from to : ℕ) → HasWalk needs from to
    → is_ancestor needs from to ≡ true
is_ancestor-from_walk needs closed from to w =
    let s = short_from_walk needs w.0 from to w.1 in
    let few = length-le_from_distinct_below (s.0 ++ to ∷ []) (length needs) s.2 (λ q h. walk_stays_within needs closed s.0 from to q s.1 h)
    in
    let fewer : length s.0 < length needs = omega (arith, length-append s.0 (to ∷ [])) in
    any_in_range (λ n. list_any (eqb to) (walk_ends needs n from)) (length needs) (length s.0) fewer (ends_from_walk needs s.0 from to s.1)
