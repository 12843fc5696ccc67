-- The moves of a concurrency group over all commands, and the state of a displaced holder. GitHub Docs, "Control the concurrency of
-- workflows and jobs".
use Rattle.std.specs.Prelude.{◌≡◌, ℕ, List, [], ◌∷◌, ◌++◌, filter, filter_map, find, map, Bool, false, ◌&&◌, not, Option, Some, None}
use Rattle.std.specs.Prelude.{option_map, slice_get}
use Rattle.std.specs.Option.{unwrap_or}
use Rattle.wf_value.specs.declared.outcome.JobResult.TheVariants as result
use Rattle.wf_value.specs.declared.outcome.Outcome.TheVariants as outcome
use Rattle.group_name.specs.Group.{Group}
use Rattle.run_plan.specs.declared.command.Command.{Command}
use Rattle.table_model.specs.Groups.{cancels_in_progress, group_state, is_in}
use Rattle.table_model.specs.GroupLaw.{arrival_of, has_arrived, holder_of, same_holder, Move}
use Rattle.table_model.specs.Runs.{leg_at, run_at, LegState, JobState, RunState}
use Rattle.table_model.specs.declared.sites.LegSite.{LegSite}
use Rattle.table_model.specs.Step.{stepped}
use Rattle.table_model.specs.TableState.{Step, TableState}
use Rattle.table_model.specs.declared.phases.JobPhase.TheVariants as job
use Rattle.table_model.specs.declared.phases.LegPhase.TheVariants as leg
use Rattle.table_model.specs.declared.phases.RunPhase.TheVariants as run
use Rattle.table_laws.specs.GroupChanges.{base_moves}
use Rattle.table_laws.specs.Names.{Names, name_in, renamed}
use Rattle.table_model.specs.declared.holder.Holder.{Holder}
use Rattle.table_model.specs.declared.holder.Holder.TheVariants.{Run, Leg}

-- ---- the moves

-- the moves of holders of the group
abbrev pub moves_in : List RunState → Group → List Move → List Move
moves_in runs g moves = filter (λ m. is_in runs g (holder_of m)) moves

-- the same moves, with each holder by its name in the table
abbrev pub named_moves : Names → TableState → List Move → List Move
named_moves names t moves = map (renamed (name_in names t)) moves

-- The moves of a step in a group, by the groups, ids and attempts of the table after the step. A run that begins again is at its next
-- attempt before it makes a move.
abbrev pub step_moves : Names → Group → Step → List Move
step_moves names g s = named_moves names s.table (moves_in s.table.runs g s.moves)

abbrev pub group_moves : Names → Group → TableState → List Command → List Move
group_moves names g t [] = []
group_moves names g t (c ∷ cs) = step_moves names g (stepped t c) ++ group_moves names g (stepped t c).table cs

-- the base moves of the holders that the group already has
abbrev pub first_moves : Names → Group → TableState → List Move
first_moves names g t = named_moves names t (base_moves (group_state t.runs g))

abbrev pub all_moves : Names → Group → TableState → List Command → List Move
all_moves names g t cs = first_moves names g t ++ group_moves names g t cs

-- ---- which holders ask for cancellation

-- whether the holder of this name that arrives in a step does, in the table after it
abbrev pub requests_in : Names → Group → Step → Holder → Option Bool
requests_in names g s n =
    option_map (cancels_in_progress s.table.runs)
    (find (λ h. same_holder n (name_in names s.table h)) (filter_map arrival_of (moves_in s.table.runs g s.moves)))

-- by the step in which it arrives
abbrev pub requests_by : Names → Group → TableState → List Command → Holder → Bool
requests_by names g t [] n = false
requests_by names g t (c ∷ cs) n = unwrap_or (requests_in names g (stepped t c) n) (requests_by names g (stepped t c).table cs n)

-- which newcomers ask for cancellation; the holders that the group already has do not count
abbrev pub requests_cancellation : Names → Group → TableState → List Command → Holder → Bool
requests_cancellation names g t cs n = requests_by names g t cs n && not (has_arrived n (first_moves names g t))

-- ---- a holder that was cancelled before it began

-- a run that has ended with all its jobs cancelled and has no leg
pub record RunNeverBegan (x : RunState) : Type 0 where
  pub ended : x.phase ≡ run.Ended
  pub all_cancelled : (j : ℕ) (y : JobState) → slice_get x.jobs j ≡ Some y → y.phase ≡ job.Finished result.Cancelled
  pub no_legs : (j : ℕ) (y : JobState) → slice_get x.jobs j ≡ Some y → y.legs ≡ []

-- a leg that has ended as cancelled and never had a lease
pub record LegNeverBegan (z : LegState) : Type 0 where
  pub cancelled : z.phase ≡ leg.Ended outcome.Cancelled
  pub no_lease : z.lease ≡ None

abbrev pub NeverBegan : List RunState → Holder → Type 0
NeverBegan runs (Run r) = (x : RunState) × (run_at runs r ≡ Some x) × RunNeverBegan x
NeverBegan runs (Leg p) = (z : LegState) × (leg_at runs p ≡ Some z) × LegNeverBegan z

-- the leg is the holder, or a leg of the holder, in any attempt
abbrev pub IsOf : Holder → LegSite → Type 0
IsOf (Run r) p = p.run ≡ r
IsOf (Leg q) p = p ≡ q
