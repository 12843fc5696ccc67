-- The marks of the lists for which some run may have a ready leg.
use Rattle.std.proofs.Common.{◌≡◌, ℕ, ◌+◌, ◌≤◌, ◌<◌, ◌++◌, ◌∷◌, [], List, length, Bool, true, false, if◌then◌else◌, Option, None, Some, IfSome, true≢false, inl, inr, refl, sym, ◌∙◌, arith}
use Rattle.std.proofs.lemmas.Bool.{cases_lt}
use Rattle.std.proofs.lemmas.Grind.{common_steps}
use Rattle.run_marks.specs.First.{IsFirstFrom}
use Rattle.run_marks.specs.Marked.{Covers, SameMarks, is_marked}
use Rattle.label_lists.specs.Requesting.{RequestingState}
use Rattle.label_lists.specs.inner.Known.{AreMarked}
use Rattle.label_lists.specs.Known.{IsBefore, offers_at}
use Rattle.label_lists.proofs.Entering.{offers_appended}

-- the marks stay correct if no further run may have a ready leg
pub still_marked : (old new : List RequestingState) (offering : List ℕ) → length new ≡ length old → AreMarked old offering
    → ((n r : ℕ) → offers_at new n r ≡ true → offers_at old n r ≡ true) → AreMarked new offering
still_marked old new offering many marks before = record {
  covers = omega (arith, many, marks.covers);
  marked = (λ n r offers. marks.marked n r (before n r offers));
  none_after = (λ n past. marks.none_after n (omega (arith, many, past)));
}

pub was_before : (b : Bool) (new old : Bool) → new ≡ (if b then false else old) → new ≡ true → old ≡ true
was_before true new old is offers = absurd (let bad : true ≡ false = sym offers ∙ is in cc)
was_before false new old is offers = sym is ∙ offers

-- they stay correct after a new list without runs is added
pub marked_appended : (requesting : List RequestingState) (new : RequestingState) (offering next : List ℕ) → AreMarked requesting offering → new.runs ≡ []
    → SameMarks offering next → Covers next (length requesting + 1) → AreMarked (requesting ++ new ∷ []) next
marked_appended requesting new offering next marks none same covers = record {
  covers = grind (arith, common_steps, covers);
  marked = (λ n r offers. same n ∙ marks.marked n r (sym (offers_appended requesting new none n r) ∙ offers));
  none_after = (λ n past. same n ∙ marks.none_after n (grind (arith, common_steps)));
}

-- ---- the next marked list

module _ (requesting : List RequestingState) (offering : List ℕ) (marks : AreMarked requesting offering) (number : ℕ) where
  pub next_some : (found : Option ℕ) → IsFirstFrom (is_marked offering) number found → IfSome found (λ n. (number ≤ n) × (n < length requesting))
  next_some None first = tt
  next_some (Some n) first = (
    first.0,
    elim (cases_lt n (length requesting)) [
      | inl less ↦ less
      | inr past ↦ absurd (true≢false (sym first.1 ∙ marks.none_after n past))
    ],
  )

  pub next_passed : (found : Option ℕ) → IsFirstFrom (is_marked offering) number found → (n r : ℕ) → number ≤ n → IsBefore n found
      → offers_at requesting n r ≡ false
  next_passed found first n r le before = by (offers_at requesting n r) refl found first before
    where
      by : (b : Bool) → offers_at requesting n r ≡ b → (o : Option ℕ) → IsFirstFrom (is_marked offering) number o → IsBefore n o
          → offers_at requesting n r ≡ false
      by false is o none before = is
      by true is None none before = absurd (true≢false (sym (marks.marked n r is) ∙ none n le))
      by true is (Some m) first before = absurd (true≢false (sym (marks.marked n r is) ∙ first.2 n le before))
