use Rattle.std.proofs.Common.{◌≡◌, ℕ, ◌+◌, ◌/◌, take, length}
use Rattle.needs_graph.specs.inner.JobSets.{is_in}
use Rattle.needs_graph.specs.inner.JobBitmap.{is_marked}
use Rattle.needs_graph.proofs.job_set.words_of.Given as goal

-- the set contains exactly the marked jobs so far
abbrev pub invariant-loop-job : goal.invariant-loop-job
invariant-loop-job l = (length l.words.items ≡ length l.marks / 64 + 1) ×
    ((job : ℕ) → is_in l.words.items job ≡ is_marked (take l.job l.marks) job)
