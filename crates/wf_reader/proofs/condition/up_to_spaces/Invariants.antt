use Rattle.std.proofs.Common.{◌≡◌, length}
use Rattle.wf_reader.specs.Job.{up_to_spaces}
use Rattle.wf_reader.proofs.condition.up_to_spaces.Given as goal

-- the removed character is a space
abbrev pub invariant-loop-text : goal.invariant-loop-text
invariant-loop-text l = up_to_spaces l.text ≡ up_to_spaces l.fn.text

abbrev pub decreases-loop-text : goal.decreases-loop-text
decreases-loop-text l = length l.text
