use Rattle.std.proofs.Common.{◌≡◌, take}
use Rattle.table_model.specs.AsPlanned.{HasItsRoom}
use Rattle.table_model.specs.inner.Cells.{legs_planned, rooms, states}
use Rattle.table_model.proofs.OneAfterAnother.{SoFar}
use Rattle.table_model.proofs.run.of.jobs_of_parts.Given as goal

-- the jobs so far, each with its room
abbrev pub invariant-loop-j : goal.invariant-loop-j
invariant-loop-j l =
    (states l.jobs.items ≡ take l.j l.parts) × (rooms l.jobs.items ≡ take l.j (legs_planned l.plan)) × SoFar (HasItsRoom l.plan) l.parts l.j
