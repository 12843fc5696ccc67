-- The bits of a row of words.
use Rattle.std.specs.Prelude.{◌≡◌, ◌≢◌, ℕ, ◌+◌, ◌-◌, ◌*◌, ◌/◌, ◌%◌, ◌<◌, ◌≤◌, List, length, Bool, true, false, nat_eq, slice_index}
use Rattle.std.specs.Prelude.{Option, Some, None, if◌then◌else◌, refl}
use Rattle.std.proofs.Common.{arith, ap, sym, ◌∙◌, inl, inr}
use Rattle.std.proofs.lemmas.Bool.{cases_eq, cases_lt}
use Rattle.std.proofs.lemmas.Bool.Decides.{nat_tests}
use Rattle.std.proofs.lemmas.List.{get_or_past}
use Rattle.run_marks.specs.Bits.{row_has, word_has}
use Rattle.run_marks.specs.Marked.{Puts}
use Rattle.run_marks.specs.inner.Bits.{SameWords, SameWordsBut}
use Rattle.run_marks.specs.First.{IsFirstFrom}
use Rattle.run_marks.proofs.Words.{none_of_zero}

pub by_word : (words : List ℕ) (v b i : ℕ) → i / 64 ≡ v → i % 64 ≡ b → row_has words i ≡ word_has (slice_index words v) b
unfolding row_has
by_word words v b i of_word of_bit =
    ap (λ u. word_has (slice_index words u) (i % 64)) of_word ∙ ap (word_has (slice_index words v)) of_bit

pub row_at : (words : List ℕ) (v b : ℕ) → b < 64 → row_has words (v * 64 + b) ≡ word_has (slice_index words v) b
row_at words v b lt = by_word words v b (v * 64 + b) (omega arith) (omega arith)

in_word : (words : List ℕ) (v i : ℕ) → v * 64 ≤ i → i < v * 64 + 64 → row_has words i ≡ word_has (slice_index words v) (i - v * 64)
in_word words v i low high = by_word words v (i - v * 64) i (omega arith) (omega arith)

pub past_row : (words : List ℕ) (i : ℕ) → length words ≤ i / 64 → row_has words i ≡ false
past_row words i past =
    by_word words (i / 64) (i % 64) i refl refl ∙ ap (λ w. word_has w (i % 64)) (get_or_past words (i / 64) 0 past) ∙ none_of_zero (i % 64)

pub row_found : (words : List ℕ) (v k b from : ℕ) → from ≡ v * 64 + k → k < 64 → b < 64
    → IsFirstFrom (word_has (slice_index words v)) k (Some b) → IsFirstFrom (row_has words) from (Some (v * 64 + b))
row_found words v k b from is k_small b_small first = (
  omega (arith, is, first.0),
  row_at words v b b_small ∙ first.1,
  λ i low before.
      in_word words v i (omega arith) (omega arith) ∙ first.2 (i - v * 64) (omega (arith, is, low)) (omega arith),
)

pub word_passed : (words : List ℕ) (v k from : ℕ) → from ≡ v * 64 + k → IsFirstFrom (word_has (slice_index words v)) k None
    → (i : ℕ) → from ≤ i → i < (v + 1) * 64 → row_has words i ≡ false
word_passed words v k from is none i low high =
    in_word words v i (omega (arith, is, low)) (omega (arith, high)) ∙ none (i - v * 64) (omega (arith, is, low))

-- the first from a later index is the first from an earlier one, if none lies between
pub first_later : (has : ℕ → Bool) (k m : ℕ) (result : Option ℕ) → k ≤ m → ((i : ℕ) → k ≤ i → i < m → has i ≡ false)
    → IsFirstFrom has m result → IsFirstFrom has k result
first_later has k m None le between none =
    λ i low. elim (cases_lt i m) [
      | inl before ↦ between i low before
      | inr from ↦ none i from
    ]
first_later has k m (Some r) le between first = (
  omega (arith, le, first.0),
  first.1,
  λ i low before. elim (cases_lt i m) [
    | inl early ↦ between i low early
    | inr from ↦ first.2 i from before
  ],
)

-- ---- a change of one bit

not_same_bit : (i k : ℕ) → i ≢ k → i / 64 ≡ k / 64 → i % 64 ≢ k % 64
not_same_bit i k other same bit = other (omega (arith, same, bit))

pub row_puts : (to : Bool) (k : ℕ) (words next : List ℕ) → SameWordsBut (k / 64) words next
    → word_has (slice_index next (k / 64)) (k % 64) ≡ to
    → ((b : ℕ) → b < 64 → b ≢ k % 64 → word_has (slice_index next (k / 64)) b ≡ word_has (slice_index words (k / 64)) b)
    → Puts to k words next
row_puts to k words next others here beside i =
    elim (cases_eq i k) [
      | inl same ↦
          let test : nat_eq i k ≡ true = grind (arith, nat_tests) in
          by_word next (k / 64) (k % 64) i (ap (λ j. j / 64) same) (ap (λ j. j % 64) same) ∙ here
          ∙ sym (ap (λ b. if b then to else row_has words i) test)
      | inr other ↦
          let test : nat_eq i k ≡ false = grind (arith, nat_tests) in
          kept other ∙ sym (ap (λ b. if b then to else row_has words i) test)
    ]
  where
    kept : i ≢ k → row_has next i ≡ row_has words i
    kept other =
        elim (cases_eq (i / 64) (k / 64)) [
          | inl same ↦
              by_word next (k / 64) (i % 64) i same refl ∙ beside (i % 64) (omega arith) (not_same_bit i k other same)
              ∙ sym (by_word words (k / 64) (i % 64) i same refl)
          | inr apart ↦
              by_word next (i / 64) (i % 64) i refl refl ∙ ap (λ w. word_has w (i % 64)) (others (i / 64) apart)
              ∙ sym (by_word words (i / 64) (i % 64) i refl refl)
        ]

pub same_rows : (words next : List ℕ) → SameWords words next → (i : ℕ) → row_has next i ≡ row_has words i
same_rows words next same i =
    by_word next (i / 64) (i % 64) i refl refl ∙ ap (λ w. word_has w (i % 64)) (same (i / 64))
    ∙ sym (by_word words (i / 64) (i % 64) i refl refl)
