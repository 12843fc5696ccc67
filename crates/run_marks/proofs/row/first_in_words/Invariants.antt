use Rattle.std.proofs.Common.{◌≡◌, ℕ, ◌*◌, ◌<◌, ◌≤◌, false}
use Rattle.run_marks.specs.Bits.{row_has}
use Rattle.run_marks.proofs.row.first_in_words.Given as goal

-- no bit so far is set
abbrev pub invariant-loop-v : goal.invariant-loop-v
invariant-loop-v l = (i : ℕ) → l.start * 64 ≤ i → i < l.v * 64 → row_has l.words i ≡ false
