-- How many legs are in each state.
use Rattle.std.specs.Prelude.{ℕ, List, ◌++◌, codes, map}
use Rattle.std.specs.List.{count_by, flat_map}
use Rattle.std.specs.Str.{bytes_eq}
use Rattle.table_model.specs.Runs.{JobState, RunState}
use Rattle.table_model.specs.declared.phases.LegPhase.{LegPhase}
use Rattle.table_model.specs.declared.phases.LegPhase.TheVariants as leg
use Rattle.table_model.specs.ViewText.{leg_text}
use Rattle.table_views.specs.MetricLines.{capped, head, value_line}
use Rattle.table_views.specs.declared.leg_counts.LegCounts.{LegCounts}

-- the state of a leg as the views name it: a leg that was just made waits, too
abbrev pub leg_state : LegPhase → List ℕ
leg_state leg.New = codes "waiting"
leg_state phase = leg_text phase

abbrev pub phases_of : JobState → List LegPhase
phases_of job = map (λ l. l.phase) job.legs

-- the phases of all legs
abbrev pub leg_phases : List RunState → List LegPhase
leg_phases runs = flat_map (λ run. flat_map phases_of run.jobs) runs

-- ---- counts

abbrev pub legs_in : List ℕ → List LegPhase → ℕ
legs_in state legs = capped (count_by (λ phase. bytes_eq (leg_state phase) state) legs)

abbrev pub leg_counts : List LegPhase → LegCounts
leg_counts legs = record {
  waiting = legs_in (codes "waiting") legs;
  ready = legs_in (codes "ready") legs;
  running = legs_in (codes "running") legs;
  stopping = legs_in (codes "stopping") legs;
  success = legs_in (codes "success") legs;
  failure = legs_in (codes "failure") legs;
  cancelled = legs_in (codes "cancelled") legs;
}

-- ---- their lines

abbrev pub leg_line : List ℕ → ℕ → List ℕ
leg_line state count = value_line (codes "acts_legs") (codes "{state=\"" ++ state ++ codes "\"}") count

abbrev pub lines_of_legs : LegCounts → List ℕ
lines_of_legs counts =
    head (codes "acts_legs") (codes "gauge") (codes "Legs by state.")
    ++ leg_line (codes "waiting") counts.waiting ++ leg_line (codes "ready") counts.ready ++ leg_line (codes "running") counts.running
    ++ leg_line (codes "stopping") counts.stopping ++ leg_line (codes "success") counts.success
    ++ leg_line (codes "failure") counts.failure ++ leg_line (codes "cancelled") counts.cancelled

abbrev pub leg_lines : List RunState → List ℕ
leg_lines runs = lines_of_legs (leg_counts (leg_phases runs))
