-- 64-bit words, and rows of them.
use Rattle.std.specs.Prelude.{◌≡◌, ◌≢◌, ℕ, ◌*◌, ◌^◌, ◌≤◌, List, length, not, nat_eq, slice_index}
use Rattle.run_marks.specs.Bits.{row_has}

-- the same words, where words past the end of a row count as 0
abbrev pub SameWords : List ℕ → List ℕ → Type 0
SameWords old new = (u : ℕ) → slice_index new u ≡ slice_index old u

-- the same words except one
abbrev pub SameWordsBut : ℕ → List ℕ → List ℕ → Type 0
SameWordsBut v old new = (u : ℕ) → u ≢ v → slice_index new u ≡ slice_index old u

-- the row is so short that the index of each bit fits in 64 bits
abbrev pub AreFew : List ℕ → Type 0
AreFew words = length words ≤ 2 ^ 58

-- the second row has one bit per word of the first, set if and only if the word is not 0
pub record IsTopOf (words tops : List ℕ) : Type 0 where
  pub marks : (v : ℕ) → row_has tops v ≡ not (nat_eq (slice_index words v) 0)
  pub places : length words ≤ 64 * length tops
  pub few : AreFew words
  pub few_tops : AreFew tops
