-- A holder exists only in a run of the table, and whether it holds its group depends only on its run.
use Rattle.std.specs.Prelude.{◌≡◌, ◌<◌, List, length, false, Some, option_and_then, slice_get}
use Rattle.std.specs.Option.{option_map_or}
use Rattle.std.proofs.Common.{ap}
use Rattle.std.proofs.lemmas.Option.{slice_get_within}
use Rattle.table_model.specs.Groups.{holds, leg_holds}
use Rattle.table_model.specs.Holders.{run_of}
use Rattle.table_model.specs.Runs.{job_at, run_at, JobState, LegState, RunState, is_live}
use Rattle.table_model.specs.declared.holder.Holder.{Holder}
use Rattle.table_model.specs.declared.holder.Holder.TheVariants.{Run, Leg}
use Rattle.table_model.proofs.Optional.{from_and_then}
use Rattle.settling_laws.proofs.OneEach.{IsOneOf}

-- the run of a holder that exists
pub run_of_one : (runs : List RunState) (h : Holder) → IsOneOf runs h → (x : RunState) × (run_at runs (run_of h) ≡ Some x)
run_of_one runs (Run r) there = there
run_of_one runs (Leg p) there =
    let job = from_and_then (λ (y : JobState). slice_get y.legs p.leg) (job_at runs p.run p.job) there.0 there.1 in
    let run = from_and_then (λ (x : RunState). slice_get x.jobs p.job) (run_at runs p.run) job.value job.is in
    (run.value, run.is)

pub holder_within : (runs : List RunState) (h : Holder) → IsOneOf runs h → run_of h < length runs
holder_within runs h there = let run = run_of_one runs h there in slice_get_within runs (run_of h) run.0 run.1

-- whether a holder holds depends only on its run
pub same_holds : (runs next : List RunState) (h : Holder) → run_at next (run_of h) ≡ run_at runs (run_of h) → holds next h ≡ holds runs h
same_holds runs next (Run r) at = ap (λ o. option_map_or (λ (x : RunState). is_live x.phase) o false) at
same_holds runs next (Leg p) at =
    ap (λ o. option_map_or (λ (z : LegState). leg_holds z.phase)
    (option_and_then (λ (y : JobState). slice_get y.legs p.leg) (option_and_then (λ (x : RunState). slice_get x.jobs p.job) o)) false) at
