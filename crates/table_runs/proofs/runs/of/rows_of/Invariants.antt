use Rattle.std.proofs.Common.{◌≡◌, take}
use Rattle.std.specs.Prelude.{[]}
use Rattle.run_plan.specs.PlanOf.{plan_of}
use Rattle.table_model.specs.AsPlanned.{IsAsPlanned}
use Rattle.table_model.specs.Parts.{AreRunsOf}
use Rattle.table_model.proofs.OneAfterAnother.{SoFar}
use Rattle.table_runs.specs.inner.Seating.{AreStored}
use Rattle.table_runs.proofs.runs.of.rows_of.Given as goal

-- the runs before the index are added, each matching its plan
abbrev pub invariant-loop-r : goal.invariant-loop-r
invariant-loop-r l = record {
  runs : AreRunsOf l.forgotten (take l.r l.parts) l.rows.runs;
  stored : AreStored l.rows l.book;
  planned : SoFar (λ k x. IsAsPlanned (plan_of x.admitted.body) x.jobs) l.parts l.r;
  entries : l.book.entries ≡ [];
}
