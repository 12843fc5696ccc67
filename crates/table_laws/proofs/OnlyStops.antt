-- Moves that the law always allows: stops, and ends that follow the stop of the same holder.
use Rattle.std.specs.Prelude.{◌≡◌, ℕ, List, [], ◌∷◌, ◌++◌, ◌&&◌, ◌||◌, filter_map, flat_map, not, Bool, true, false, Option, Some, None}
use Rattle.std.specs.Prelude.{if◌then◌else◌, refl}
use Rattle.std.specs.Option.{option_map_or}
use Rattle.std.proofs.Common.{ap, ap₂, sym, ◌∙◌, subst}
use Rattle.std.proofs.lemmas.List.Elements.{filter_map-append}
use Rattle.std.proofs.lemmas.Bool.{or_right}
use Rattle.wf_value.specs.declared.outcome.Outcome.TheVariants.{Cancelled}
use Rattle.table_model.specs.Runs.{placed, job_at, leg_at, leg_site, run_at, LegState, JobState, RunState, is_open}
use Rattle.table_model.specs.GroupLaw.{arrival_of, was_stopped, Move}
use Rattle.table_model.specs.declared.sites.LegSite.{LegSite}
use Rattle.table_model.specs.LegContext.{may_run_in}
use Rattle.table_model.specs.Stops.{jobs_stop_moves, leg_stop_moves, legs_stop_moves, run_stop_moves_in, stop_holder, stop_request_moves}
use Rattle.table_model.specs.Stops.{where_stop_moves}
use Rattle.table_model.specs.declared.phases.LegPhase.{LegPhase}
use Rattle.table_model.specs.declared.phases.LegPhase.TheVariants as leg
use Rattle.table_model.specs.declared.phases.RunPhase.{RunPhase}
use Rattle.table_model.specs.declared.phases.RunPhase.TheVariants as run
use Rattle.settling_laws.proofs.ArrivalKeeps.{itself}
use Rattle.table_laws.proofs.GroupLawWalk.{Lawful, still_lawful}
use Rattle.table_laws.proofs.GroupSaid.{stopped_on}
use Rattle.table_laws.proofs.GroupTruths.{not_both}
use Rattle.table_laws.proofs.ListWalk.{Walk, walk_on}
use Rattle.table_laws.proofs.OwnMoves.{of_group, of_group_on}
use Rattle.table_model.specs.declared.holder.Holder.{Holder}
use Rattle.table_model.specs.declared.holder.Holder.TheVariants.{Run, Leg}

-- in each group: no move is an arrival, and the law allows them after any moves
pub record OnlyStops (moves : List Move) : Type 0 where
  pub silent : (in_group : Holder → Bool) → filter_map arrival_of (of_group in_group moves) ≡ []
  pub lawful : (cancels in_group : Holder → Bool) (before : List Move) → Walk (Lawful cancels) before (of_group in_group moves)

pub no_stops : OnlyStops []
no_stops = record { silent = (λ in_group. refl); lawful = (λ cancels in_group before. tt) }

pub stops_on : (first second : List Move) → OnlyStops first → OnlyStops second → OnlyStops (first ++ second)
stops_on first second one two = record {
  silent = (λ in_group.
      ap (filter_map arrival_of) (of_group_on in_group first second)
      ∙ filter_map-append arrival_of (of_group in_group first) (of_group in_group second)
      ∙ ap₂ (λ a b. a ++ b) (one.silent in_group) (two.silent in_group));
  lawful = (λ cancels in_group before.
      subst (λ (ms : List Move). Walk (Lawful cancels) before ms) (sym (of_group_on in_group first second))
      (walk_on (Lawful cancels) (still_lawful cancels) before (of_group in_group first) (of_group in_group second)
      (one.lawful cancels in_group before) (two.lawful cancels in_group (before ++ of_group in_group first))));
}

stops_of_all : {X : Type 0} (f : X → List Move) → ((x : X) → OnlyStops (f x)) → (xs : List X) → OnlyStops (flat_map f xs)
stops_of_all f each [] = no_stops
stops_of_all f each (x ∷ xs) = stops_on (f x) (flat_map f xs) (each x) (stops_of_all f each xs)

-- ---- stops of one holder

one_stop : (h : Holder) → OnlyStops (Move.stop h ∷ [])
one_stop h = record {
  silent = (λ in_group.
      elim (in_group h) as (λ b. filter_map arrival_of (if b then Move.stop h ∷ [] else []) ≡ []) [
        | true ↦ refl
        | false ↦ refl
      ]);
  lawful = (λ cancels in_group before.
      elim (in_group h) as (λ b. Walk (Lawful cancels) before (if b then Move.stop h ∷ [] else [])) [
        | true ↦ (tt, tt)
        | false ↦ tt
      ]);
}

pub told_then : (before : List Move) (h : Holder) → was_stopped h (before ++ Move.stop h ∷ []) ≡ true
told_then before h =
    stopped_on h before (Move.stop h ∷ []) ∙ ap (λ b. was_stopped h before || (b || false)) (itself h)
    ∙ or_right (was_stopped h before) true refl

stop_and_end : (h : Holder) → OnlyStops (Move.stop h ∷ Move.end_with Cancelled h ∷ [])
stop_and_end h = record {
  silent = (λ in_group.
      elim (in_group h) as
      (λ b. filter_map arrival_of
      (if b then Move.stop h ∷ (if b then Move.end_with Cancelled h ∷ [] else []) else
      (if b then Move.end_with Cancelled h ∷ [] else [])) ≡ []) [
        | true ↦ refl
        | false ↦ refl
      ]);
  lawful = (λ cancels in_group before.
      elim (in_group h) as
      (λ b. Walk (Lawful cancels) before
      (if b then Move.stop h ∷ (if b then Move.end_with Cancelled h ∷ [] else []) else
      (if b then Move.end_with Cancelled h ∷ [] else []))) [
        | true ↦ (
          tt,
          (
            λ unstarted unstopped. absurd (not_both (was_stopped h (before ++ Move.stop h ∷ []))
                (told_then before h) unstopped),
            tt,
          ),
        )
        | false ↦ tt
      ]);
}

-- ---- stops of legs, jobs and runs

leg_stops : (p : LegSite) (phase : LegPhase) → OnlyStops (leg_stop_moves p phase)
leg_stops p leg.New = no_stops
leg_stops p leg.Waiting = stop_and_end (Leg p)
leg_stops p leg.Ready = stop_and_end (Leg p)
leg_stops p leg.Running = one_stop (Leg p)
leg_stops p leg.Stopping = no_stops
leg_stops p (leg.Ended r) = no_stops

pub legs_stops : (r j : ℕ) (legs : List LegState) → OnlyStops (legs_stop_moves r j legs)
legs_stops r j legs =
    stops_of_all (λ (l : ℕ × LegState). leg_stop_moves (leg_site r j l.0) l.1.phase) (λ l. leg_stops (leg_site r j l.0) l.1.phase)
    (placed legs)

where_stops : (b : Bool) (r j : ℕ) (y : JobState) → OnlyStops (where_stop_moves b r j y)
where_stops b r j y =
    elim (is_open y.phase && b) as (λ c. OnlyStops (if c then legs_stop_moves r j y.legs else [])) [
      | true ↦ legs_stops r j y.legs
      | false ↦ no_stops
    ]

jobs_stops : (r : ℕ) (x : RunState) → OnlyStops (jobs_stop_moves r x)
jobs_stops r x =
    stops_of_all (λ (j : ℕ × JobState). where_stop_moves (not (may_run_in x j.0)) r j.0 j.1)
    (λ j. where_stops (not (may_run_in x j.0)) r j.0 j.1) (placed x.jobs)

run_stops : (r : ℕ) (phase : RunPhase) (x : RunState) → OnlyStops (run_stop_moves_in phase r x)
run_stops r run.Waiting x = stop_and_end (Run r)
run_stops r run.Live x =
    elim (x.stopping) as (λ b. OnlyStops (if b then [] else stop_request_moves r x)) [
      | true ↦ no_stops
      | false ↦
          stops_on (Move.stop (Run r) ∷ []) (jobs_stop_moves r (record x { stopping = true })) (one_stop (Run r))
          (jobs_stops r (record x { stopping = true }))
    ]
run_stops r run.Ended x = no_stops

by_run : (r : ℕ) (o : Option RunState) → OnlyStops (option_map_or (λ x. run_stop_moves_in x.phase r x) o [])
by_run r None = no_stops
by_run r (Some x) = run_stops r x.phase x

by_leg : (p : LegSite) (o : Option LegState) → OnlyStops (option_map_or (λ z. leg_stop_moves p z.phase) o [])
by_leg p None = no_stops
by_leg p (Some z) = leg_stops p z.phase

by_job : (r j : ℕ) (o : Option JobState) → OnlyStops (option_map_or (λ y. legs_stop_moves r j y.legs) o [])
by_job r j None = no_stops
by_job r j (Some y) = legs_stops r j y.legs

pub holder_stops : (h : Holder) (runs : List RunState) → OnlyStops (stop_holder h runs).moves
holder_stops (Run r) runs = by_run r (run_at runs r)
holder_stops (Leg p) runs = by_leg p (leg_at runs p)

pub job_stops : (r j : ℕ) (runs : List RunState) → OnlyStops (option_map_or (λ y. legs_stop_moves r j y.legs) (job_at runs r j) [])
job_stops r j runs = by_job r j (job_at runs r j)
