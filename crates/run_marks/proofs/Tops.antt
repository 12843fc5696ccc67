-- The upper level: which words of a row are not 0.
use Rattle.std.specs.Prelude.{◌≡◌, ◌≢◌, ℕ, ◌+◌, ◌*◌, ◌/◌, ◌%◌, ◌<◌, ◌≤◌, List, Bool, true, false, not, nat_eq, slice_index}
use Rattle.std.specs.Prelude.{refl}
use Rattle.std.proofs.Common.{arith, ap, sym, ◌∙◌, inl, inr}
use Rattle.std.proofs.lemmas.Bool.{cases_eq, true≢false}
use Rattle.std.proofs.lemmas.Bool.Decides.{nat_tests}
use Rattle.run_marks.specs.inner.Bits.{IsTopOf, SameWords}
use Rattle.run_marks.specs.Bits.{row_has, word_has}
use Rattle.run_marks.proofs.Rows.{by_word, same_rows}
use Rattle.run_marks.proofs.Words.{none_of_zero}

abbrev top : ℕ → Bool
top word = not (nat_eq word 0)

pub top_of_some : (word : ℕ) → word ≢ 0 → top word ≡ true
top_of_some word some = let no : nat_eq word 0 ≡ false = grind (arith, nat_tests) in ap not no

-- extending both rows keeps the upper level correct
pub tops_grown : (words tops next next_tops : List ℕ) → IsTopOf words tops → SameWords words next → SameWords tops next_tops
    → (u : ℕ) → row_has next_tops u ≡ top (slice_index next u)
tops_grown words tops next next_tops of same same_tops u = same_rows tops next_tops same_tops u ∙ of.marks u ∙ sym (ap top (same u))

-- no bit is set before the next non-zero word
pub passed_by_tops : (words tops : List ℕ) (v top_at : ℕ) → IsTopOf words tops
    → ((u : ℕ) → v ≤ u → u < top_at → row_has tops u ≡ false) → (i : ℕ) → v * 64 ≤ i → i < top_at * 64 → row_has words i ≡ false
passed_by_tops words tops v top_at of none i from to =
    by_word words (i / 64) (i % 64) i refl refl
    ∙ ap (λ w. word_has w (i % 64)) (no_one (i / 64) (sym (of.marks (i / 64)) ∙ none (i / 64) (omega (arith, from)) (omega (arith, to))))
    ∙ none_of_zero (i % 64)
  where
    no_one : (u : ℕ) → top (slice_index words u) ≡ false → slice_index words u ≡ 0
    no_one u e =
        elim (cases_eq (slice_index words u) 0) [
          | inl zero ↦ zero
          | inr some ↦ absurd (true≢false (sym (top_of_some (slice_index words u) some) ∙ e))
        ]

pub none_by_tops : (words tops : List ℕ) (v : ℕ) → IsTopOf words tops → ((u : ℕ) → v ≤ u → row_has tops u ≡ false)
    → (i : ℕ) → v * 64 ≤ i → row_has words i ≡ false
none_by_tops words tops v of none i from =
    passed_by_tops words tops v (i + 1) of (λ u low high. none u low) i from (omega arith)
