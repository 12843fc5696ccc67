-- Sets of jobs as bitmaps: 64 jobs per word, with the first job in the lowest bit of the first word.
use Rattle.std.specs.Prelude.{ℕ, ◌/◌, ◌%◌, List, Bool, nat_eq, slice_index}
use Rattle.std.specs.Int.{bit_at}

abbrev pub is_in : List ℕ → ℕ → Bool
is_in words job = nat_eq (bit_at (slice_index words (job / 64)) (job % 64)) 1
