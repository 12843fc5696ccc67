-- The runs that may have a ready leg, from the marks at their indices.
use Rattle.std.proofs.Common.{◌≡◌, ℕ, ◌+◌, ◌<◌, ◌≤◌, ◌++◌, ◌∷◌, [], List, length, Bool, true, false, nat_eq, if◌then◌else◌, Option, None, Some, get_or, refl, sym, ap, subst, ◌∙◌, arith, inl, inr}
use Rattle.std.specs.Option.{option_map_or}
use Rattle.std.proofs.lemmas.Bool.{cases_eq, cases_lt, true≢false}
use Rattle.std.proofs.lemmas.Bool.Decides.{nat_tests}
use Rattle.std.proofs.lemmas.Grind.{common_steps}
use Rattle.std.proofs.lemmas.List.{get_or_default}
use Rattle.run_marks.specs.First.{IsFirstFrom}
use Rattle.run_marks.specs.Marked.{Covers, Puts, SameMarks, is_marked}
use Rattle.label_lists.specs.Requesting.{RequestingState, may_offer_in, index_of}
use Rattle.label_lists.specs.inner.Requesting.{Begins, IsOrdered, PutsRun}
use Rattle.label_lists.proofs.Places.{Rises, StandsAt, no_less, place_found, place_there, rises_pushed}

-- the mark at the index of a run, if it has one
abbrev pub offer_at : List ℕ → Option ℕ → Bool
offer_at marks index = option_map_or (is_marked marks) index false

abbrev pub state_of : List ℕ → List ℕ → RequestingState
state_of runs marks = record { runs = runs; marks = marks }

-- ---- setting a mark

module _ (to : Bool) (runs old new : List ℕ) (run index : ℕ) (there : index_of runs run ≡ Some index) (puts : Puts to index old new) where
  pub puts_run : PutsRun to run (state_of runs old) (state_of runs new)
  puts_run r = by (nat_eq r run) refl (index_of runs r) refl
    where
      by : (b : Bool) → nat_eq r run ≡ b → (o : Option ℕ) → index_of runs r ≡ o
          → offer_at new (index_of runs r) ≡ (if b then to else offer_at old (index_of runs r))
      by true is o at =
          let same : r ≡ run = grind (arith, nat_tests) in
          let test : nat_eq index index ≡ true = grind (arith, nat_tests) in
          ap (λ k. offer_at new (index_of runs k)) same ∙ ap (offer_at new) there ∙ puts index ∙ ap (λ b. if b then to else is_marked old index) test
      by false is None at = ap (offer_at new) at ∙ sym (ap (offer_at old) at)
      by false is (Some i) at =
          let here = place_there runs r i at in
          let own = place_there runs run index there in
          let test : nat_eq i index ≡ false = apart i here.at own.at in
          ap (offer_at new) at ∙ puts i ∙ ap (λ b. if b then to else is_marked old i) test ∙ sym (ap (offer_at old) at)
        where
          apart : (i : ℕ) → get_or runs i 0 ≡ r → get_or runs index 0 ≡ run → nat_eq i index ≡ false
          apart i at own = elim (cases_eq i index) [
            | inl same ↦ let one : r ≡ run = sym at ∙ ap (λ k. get_or runs k 0) same ∙ own in grind (arith, nat_tests)
            | inr other ↦ grind (arith, nat_tests)
          ]

-- ---- the first one from an index on

module _ (runs marks : List ℕ) (run from : ℕ) (begins : Begins runs run from) where
  passed : (r i : ℕ) → run ≤ r → index_of runs r ≡ Some i → from ≤ i
  passed r i le at =
      let here = place_there runs r i at in
      elim (cases_lt i from) [
        | inl less ↦ let small = begins.before i less here.within in absurd (omega (arith, small, here.at, le))
        | inr far ↦ far
      ]

  pub none_found : IsFirstFrom (is_marked marks) from None → IsFirstFrom (may_offer_in (state_of runs marks)) run None
  none_found none r le = by (index_of runs r) refl
    where
      by : (o : Option ℕ) → index_of runs r ≡ o → offer_at marks (index_of runs r) ≡ false
      by None at = ap (offer_at marks) at
      by (Some i) at = ap (offer_at marks) at ∙ none i (passed r i le at)

  pub first_found : (p x : ℕ) → IsOrdered runs marks → IsFirstFrom (is_marked marks) from (Some p) → x ≡ get_or runs p x
      → IsFirstFrom (may_offer_in (state_of runs marks)) run (Some x)
  first_found p x ordered first is =
      subst (λ y. IsFirstFrom (may_offer_in (state_of runs marks)) run (Some y)) (get_or_default runs p 0 x within ∙ sym is) (
        begins.suffix p first.0 within,
        ap (offer_at marks) here ∙ first.1,
        λ r le less. by r le less (index_of runs r) refl,
      )
    where
      within : p < length runs
      within = elim (cases_lt p (length runs)) [
        | inl less ↦ less
        | inr past ↦ absurd (true≢false (sym first.1 ∙ ordered.none_after p past))
      ]

      here : index_of runs (get_or runs p 0) ≡ Some p
      here = place_found runs p (get_or runs p 0) ordered.rises within refl

      by : (r : ℕ) → run ≤ r → r < get_or runs p 0 → (o : Option ℕ) → index_of runs r ≡ o → offer_at marks (index_of runs r) ≡ false
      by r le less None at = ap (offer_at marks) at
      by r le less (Some i) at = ap (offer_at marks) at ∙ first.2 i (passed r i le at) (before i (place_there runs r i at))
        where
          before : (i : ℕ) → StandsAt runs r i → i < p
          before i stands = elim (cases_lt i p) [
            | inl early ↦ early
            | inr late ↦ let up = no_less runs ordered.rises p i late stands.within in absurd (omega (arith, up, less, stands.at))
          ]

-- ---- one more run

module _ (runs old new : List ℕ) (run : ℕ) (ordered : IsOrdered runs old) (same : SameMarks old new) (begins : Begins runs run (length runs)) where
  pushed_rises : Rises (runs ++ run ∷ [])
  pushed_rises = rises_pushed runs run ordered.rises begins

  still_there : (r i : ℕ) → index_of runs r ≡ Some i → index_of (runs ++ run ∷ []) r ≡ Some i
  still_there r i at =
      let here = place_there runs r i at in
      let within = here.within in
      let of = here.at in
      place_found (runs ++ run ∷ []) i r pushed_rises (grind (arith, common_steps)) (grind (arith, common_steps))

  pub offers_pushed : (r : ℕ) → may_offer_in (state_of (runs ++ run ∷ []) new) r ≡ may_offer_in (state_of runs old) r
  offers_pushed r = by (index_of runs r) refl (index_of (runs ++ run ∷ []) r) refl
    where
      by : (o : Option ℕ) → index_of runs r ≡ o → (o' : Option ℕ) → index_of (runs ++ run ∷ []) r ≡ o'
          → offer_at new (index_of (runs ++ run ∷ []) r) ≡ offer_at old (index_of runs r)
      by (Some i) at o' at' = ap (offer_at new) (still_there r i at) ∙ same i ∙ sym (ap (offer_at old) at)
      by None at None at' = ap (offer_at new) at' ∙ sym (ap (offer_at old) at)
      by None at (Some i) at' = ap (offer_at new) at' ∙ same i ∙ ordered.none_after i (elim (cases_lt i (length runs)) [
        | inl less ↦
            let here = place_there (runs ++ run ∷ []) r i at' in
            let of = here.at in
            let found = place_found runs i r ordered.rises less (grind (arith, common_steps)) in
            absurd (let no : Some i ≡ None = sym found ∙ at in cc)
        | inr far ↦ far
      ]) ∙ sym (ap (offer_at old) at)

  pub ordered_pushed : (from : ℕ) → from ≡ length runs → Covers new (from + 1) → IsOrdered (runs ++ run ∷ []) new
  ordered_pushed from is covers = record {
    rises = pushed_rises;
    covers = (grind (arith, common_steps));
    none_after = (λ i past. same i ∙ ordered.none_after i (grind (arith, common_steps)));
  }
