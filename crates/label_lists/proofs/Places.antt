-- The indices of increasing runs.
use Rattle.std.proofs.Common.{◌≡◌, ◌≢◌, ℕ, ◌+◌, ◌<◌, ◌≤◌, ◌||◌, List, [], ◌∷◌, ◌++◌, length, Bool, true, false, cond, nat_eq, nat_lt, is_some, not, None, Some, Ok, Err, get_or, refl, sym, ap, ◌∙◌, arith, inl, inr}
use Rattle.std.specs.List.{position_or_len}
use Rattle.std.specs.List.Sorted.{IsBinarySearchResult}
use Rattle.std.specs.Ordering.{nat_cmp}
use Rattle.std.proofs.lemmas.Bool.{cases_lt}
use Rattle.std.proofs.lemmas.Bool.Decides.{nat_tests}
use Rattle.std.proofs.lemmas.Grind.{common_steps}
use Rattle.std.proofs.lemmas.List.Folds.{position_or_len_push}
use Rattle.std.proofs.lemmas.List.Quantifiers.{position-Some}
use Rattle.std.proofs.lemmas.List.Sorted.{searched}
use Rattle.std.proofs.lemmas.List.Sums.{position_or_len_is, prefix_len-le-length}
use Rattle.label_lists.specs.inner.Requesting.{Begins}
use Rattle.label_lists.specs.Requesting.{index_of}

abbrev pub Rises : List ℕ → Type 0
Rises runs = (i j : ℕ) → i < j → j < length runs → get_or runs i 0 < get_or runs j 0

pub no_less : (runs : List ℕ) → Rises runs → (i j : ℕ) → i ≤ j → j < length runs → get_or runs i 0 ≤ get_or runs j 0
no_less runs rises i j le within = elim (cases_lt i j) [
  | inl less ↦ let up = rises i j less within in omega (arith, up)
  | inr from ↦ let same : i ≡ j = omega (arith, le, from) in omega (arith, ap (λ k. get_or runs k 0) same)
]

-- ---- the index of one run

pub place_found : (runs : List ℕ) (i run : ℕ) → Rises runs → i < length runs → get_or runs i 0 ≡ run → index_of runs run ≡ Some i
place_found runs i run rises within at =
    let is : position_or_len (nat_eq run) runs ≡ i =
    position_or_len_is (nat_eq run) runs i 0 (omega (arith, within)) (λ k lt. let less = rises k i lt within in grind (arith, nat_tests)) (λ _. grind (arith, nat_tests)) in
    let test : nat_lt i (length runs) ≡ true = grind (arith, nat_tests) in
    ap (λ n. cond (nat_lt n (length runs)) (Some n) None) is ∙ ap (λ b. cond b (Some i) None) test

pub place_missing : (runs : List ℕ) (run : ℕ) → ((k : ℕ) → k < length runs → get_or runs k 0 ≢ run) → index_of runs run ≡ None
place_missing runs run none =
    let is : position_or_len (nat_eq run) runs ≡ length runs =
    position_or_len_is (nat_eq run) runs (length runs) 0 (omega arith) (λ k lt. let other = none k lt in grind (arith, nat_tests)) (λ no. absurd (omega (arith, no))) in
    let test : nat_lt (length runs) (length runs) ≡ false = grind (arith, nat_tests) in
    ap (λ n. cond (nat_lt n (length runs)) (Some n) None) is ∙ ap (λ b. cond b (Some (length runs)) None) test

pub record StandsAt (runs : List ℕ) (run i : ℕ) : Type 0 where
  pub within : i < length runs
  pub at : get_or runs i 0 ≡ run

pub place_there : (runs : List ℕ) (run i : ℕ) → index_of runs run ≡ Some i → StandsAt runs run i
place_there runs run i is =
    let three = position-Some (nat_eq run) runs i 0 is in
    let test = three.1 in
    record { within = three.0; at = grind (arith, nat_tests) }

-- ---- the result of a search

module _ (runs : List ℕ) (rises : Rises runs) (run i : ℕ) where
  pub found : IsBinarySearchResult (λ y. nat_cmp y run) runs (Ok i) → index_of runs run ≡ Some i
  found is = let s = searched runs run (Ok i) is (no_less runs rises) in place_found runs i run rises s.0 s.1

  pub missing : IsBinarySearchResult (λ y. nat_cmp y run) runs (Err i) → index_of runs run ≡ None
  missing is =
      let s = searched runs run (Err i) is (no_less runs rises) in
      place_missing runs run (λ k within. elim (cases_lt k i) [
        | inl less ↦ let small = s.1 k less in omega (arith, small)
        | inr from ↦ let great = s.2 k from within in omega (arith, great)
      ])

  pub begins_at : IsBinarySearchResult (λ y. nat_cmp y run) runs (Ok i) → Begins runs run i
  begins_at is =
      let s = searched runs run (Ok i) is (no_less runs rises) in
      record {
        before = (λ k less within. let up = rises k i less s.0 in omega (arith, up, s.1));
        suffix = (λ k from within. let up = no_less runs rises i k from within in omega (arith, up, s.1));
      }

  pub begins_after : IsBinarySearchResult (λ y. nat_cmp y run) runs (Err i) → Begins runs run i
  begins_after is =
      let s = searched runs run (Err i) is (no_less runs rises) in
      record {
        before = (λ k less within. s.1 k less);
        suffix = (λ k from within. let great = s.2 k from within in omega (arith, great));
      }

-- ---- one more run

pub rises_pushed : (runs : List ℕ) (run : ℕ) → Rises runs → Begins runs run (length runs) → Rises (runs ++ run ∷ [])
rises_pushed runs run rises begins i j less within = elim (cases_lt j (length runs)) [
  | inl old ↦ let up = rises i j less old in grind (arith, common_steps)
  | inr last ↦
      let here : j ≡ length runs = grind (arith, common_steps) in
      let small = begins.before i (omega (arith, less, here)) (omega (arith, less, here)) in
      grind (arith, common_steps)
]

-- whether a run has an index
requests_by_len : (runs : List ℕ) (r : ℕ) → is_some (index_of runs r) ≡ nat_lt (position_or_len (nat_eq r) runs) (length runs)
requests_by_len runs r = by (nat_lt (position_or_len (nat_eq r) runs) (length runs))
  where
    by : (b : Bool) → is_some (cond b (Some (position_or_len (nat_eq r) runs)) None) ≡ b
    by true = refl
    by false = refl

pub requests_pushed : (runs : List ℕ) (run r : ℕ) → is_some (index_of (runs ++ run ∷ []) r) ≡ nat_eq r run || is_some (index_of runs r)
requests_pushed runs run r =
    let most = prefix_len-le-length (λ x. not (nat_eq r x)) runs in
    let pushed = position_or_len_push (nat_eq r) runs run in
    requests_by_len (runs ++ run ∷ []) r ∙ (elim (cases_lt (position_or_len (nat_eq r) runs) (length runs)) [
      | inl less ↦
          let test : nat_eq (position_or_len (nat_eq r) runs) (length runs) ≡ false = grind (arith, nat_tests) in
          let same : position_or_len (nat_eq r) (runs ++ run ∷ []) ≡ position_or_len (nat_eq r) runs =
          pushed ∙ ap (λ b. cond b (length runs + cond (nat_eq r run) 0 1) (position_or_len (nat_eq r) runs)) test in
          grind (arith, nat_tests, common_steps)
      | inr end ↦
          let test : nat_eq (position_or_len (nat_eq r) runs) (length runs) ≡ true = grind (arith, nat_tests) in
          let last : position_or_len (nat_eq r) (runs ++ run ∷ []) ≡ length runs + cond (nat_eq r run) 0 1 =
          pushed ∙ ap (λ b. cond b (length runs + cond (nat_eq r run) 0 1) (position_or_len (nat_eq r) runs)) test in
          grind (arith, nat_tests, common_steps)
    ]) ∙ sym (ap (λ b. nat_eq r run || b) (requests_by_len runs r))

pub requests_already : (runs : List ℕ) (run i r : ℕ) → index_of runs run ≡ Some i → is_some (index_of runs r) ≡ nat_eq r run || is_some (index_of runs r)
requests_already runs run i r there = by (nat_eq r run) refl
  where
    by : (b : Bool) → nat_eq r run ≡ b → is_some (index_of runs r) ≡ b || is_some (index_of runs r)
    by true is = let same : r ≡ run = grind (arith, nat_tests) in ap (λ k. is_some (index_of runs k)) same ∙ ap is_some there
    by false is = refl
