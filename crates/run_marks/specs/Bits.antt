-- 64-bit words, and rows of them.
use Rattle.std.specs.Prelude.{ℕ, ◌/◌, ◌%◌, List, Bool, nat_eq, slice_index}
use Rattle.std.specs.Int.{bit_at}

-- whether a bit of a word is set
abbrev pub word_has : ℕ → ℕ → Bool
word_has word i = nat_eq (bit_at word i) 1

-- whether a bit of a row is set; the bits of all words are counted together
unfoldable pub row_has : List ℕ → ℕ → Bool
row_has words i = word_has (slice_index words (i / 64)) (i % 64)
