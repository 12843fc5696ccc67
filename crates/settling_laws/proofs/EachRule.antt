-- Each rule makes one of seven transitions. A property of all seven holds of the transition at each site.
use Rattle.std.specs.Prelude.{◌≡◌, ℕ, ◌&&◌, List, [], ◌∷◌, Bool, true, false, Some, if◌then◌else◌, refl}
use Rattle.std.specs.List.{list_all}
use Rattle.std.proofs.Common.{subst}
use Rattle.std.proofs.lemmas.Bool.{and_parts}
use Rattle.wf_value.specs.declared.outcome.Outcome.TheVariants as outcome
use Rattle.needs_graph.specs.Needs.{conclusion_of}
use Rattle.table_model.specs.Settling.{arrived, is_in_group_of_run, started, whole_rule, whole_rule_in, with_leg_in}
use Rattle.table_model.specs.Groups.{may_start}
use Rattle.table_model.specs.Runs.{results_of, job_at, leg_at, run_at, with_job, with_run, JobState, LegState, RunState}
use Rattle.table_model.specs.GroupLaw.{Move, Transition, without_moves}
use Rattle.table_model.specs.declared.sites.LegSite.{LegSite}
use Rattle.table_model.specs.Settling.{closing_rule, decided, leg_rule, leg_rule_in, newcomer_rule, opening_rule, result_at, rule_at}
use Rattle.table_model.specs.Runs.{is_blocked, is_done, is_finished, run_in_phase, finished_as}
use Rattle.table_model.specs.LegContext.{needs_have_finished}
use Rattle.table_model.specs.declared.phases.LegPhase.{LegPhase}
use Rattle.table_model.specs.declared.phases.LegPhase.TheVariants as leg
use Rattle.table_model.specs.declared.phases.RunPhase.{RunPhase}
use Rattle.table_model.specs.declared.phases.RunPhase.TheVariants as run
use Rattle.table_model.specs.declared.sites.RuleSite.{RuleSite}
use Rattle.table_model.specs.declared.sites.RuleSite.TheVariants.{Opening, AtLeg, Closing, Whole}
use Rattle.table_model.proofs.Optional.{from_and_then, if_some}
use Rattle.table_model.specs.declared.holder.Holder.TheVariants.{Run, Leg}

-- what becomes of a live run whose jobs have all finished
abbrev pub run_ended : List RunState → ℕ → RunState → Transition
run_ended runs r x = record {
  runs = with_run r (run_in_phase run.Ended) runs;
  moves = Move.end_with (conclusion_of (results_of x.jobs)) (Run r) ∷ [];
}

-- `P` holds of the transition of each rule that applies to these runs.
pub record EachRule (runs : List RunState) (P : RuleSite → Transition → Type 0) : Type 0 where
  pub job_opens : (r j : ℕ) (y : JobState) → job_at runs r j ≡ Some y → is_blocked y.phase ≡ true → needs_have_finished runs r j ≡ true
      → P (Opening r j) (without_moves (with_job r j (decided runs r j) runs))
  pub leg_is_cancelled : (p : LegSite) (z : LegState) → leg_at runs p ≡ Some z → z.phase ≡ leg.New
      → P (AtLeg p) (without_moves (with_leg_in (leg.Ended outcome.Cancelled) p runs))
  pub leg_arrives : (p : LegSite) (z : LegState) → leg_at runs p ≡ Some z → z.phase ≡ leg.New
      → P (AtLeg p) (arrived (Leg p) (with_leg_in leg.Waiting p runs))
  pub leg_starts : (p : LegSite) (z : LegState) → leg_at runs p ≡ Some z → z.phase ≡ leg.Waiting
      → may_start runs (Leg p) ≡ true → P (AtLeg p) (started (Leg p) (with_leg_in leg.Ready p runs))
  pub job_settles : (r j : ℕ) (y : JobState) → job_at runs r j ≡ Some y → is_done y ≡ true
      → P (Closing r j) (without_moves (with_job r j (finished_as (result_at runs r j y)) runs))
  pub run_starts : (r : ℕ) (x : RunState) → run_at runs r ≡ Some x → x.phase ≡ run.Waiting → may_start runs (Run r) ≡ true
      → P (Whole r) (started (Run r) (with_run r (run_in_phase run.Live) runs))
  pub run_ends : (r : ℕ) (x : RunState) → run_at runs r ≡ Some x → x.phase ≡ run.Live → list_all is_finished x.jobs ≡ true
      → P (Whole r) (run_ended runs r x)

-- what holds of both alternatives holds of the one that is chosen
either : (b : Bool) (x y : Transition) (P : Transition → Type 0) → P x → P y → P (if b then x else y)
either true x y P of_x of_y = of_x
either false x y P of_x of_y = of_y

module _ (runs : List RunState) (P : RuleSite → Transition → Type 0) (each : EachRule runs P) where
  at_leg : (m : Transition) (p : LegSite) (z : LegState) (phase : LegPhase) → leg_at runs p ≡ Some z → z.phase ≡ phase
      → leg_rule_in phase runs p ≡ Some m → P (AtLeg p) m
  at_leg m p z leg.New was is h =
      let same : newcomer_rule runs p ≡ m = cc in
      subst (P (AtLeg p)) same
      (either (is_in_group_of_run runs p) (without_moves (with_leg_in (leg.Ended outcome.Cancelled) p runs))
      (arrived (Leg p) (with_leg_in leg.Waiting p runs)) (P (AtLeg p)) (each.leg_is_cancelled p z was is)
      (each.leg_arrives p z was is))
  at_leg m p z leg.Waiting was is h =
      let taken = if_some (may_start runs (Leg p)) (started (Leg p) (with_leg_in leg.Ready p runs)) m h in
      subst (P (AtLeg p)) taken.1 (each.leg_starts p z was is taken.0)
  at_leg m p z leg.Ready was is h = absurd (cc h)
  at_leg m p z leg.Running was is h = absurd (cc h)
  at_leg m p z leg.Stopping was is h = absurd (cc h)
  at_leg m p z (leg.Ended r) was is h = absurd (cc h)

  at_run : (m : Transition) (r : ℕ) (x : RunState) (phase : RunPhase) → run_at runs r ≡ Some x → x.phase ≡ phase
      → whole_rule_in phase runs r x ≡ Some m → P (Whole r) m
  at_run m r x run.Waiting was is h =
      let taken = if_some (may_start runs (Run r)) (started (Run r) (with_run r (run_in_phase run.Live) runs)) m h in
      subst (P (Whole r)) taken.1 (each.run_starts r x was is taken.0)
  at_run m r x run.Live was is h =
      let taken = if_some (list_all is_finished x.jobs) (run_ended runs r x) m h in
      subst (P (Whole r)) taken.1 (each.run_ends r x was is taken.0)
  at_run m r x run.Ended was is h = absurd (cc h)

  pub by_rule : (m : Transition) (site : RuleSite) → rule_at runs site ≡ Some m → P site m
  by_rule m (Opening r j) h =
      let made = from_and_then (opening_rule runs r j) (job_at runs r j) m h in
      let y = made.value in
      let taken = if_some (is_blocked y.phase && needs_have_finished runs r j) (without_moves (with_job r j (decided runs r j) runs)) m
      made.gives in
      let both = and_parts (is_blocked y.phase) (needs_have_finished runs r j) taken.0 in
      subst (P (Opening r j)) taken.1 (each.job_opens r j y made.is both.0 both.1)
  by_rule m (AtLeg p) h =
      let made = from_and_then (leg_rule runs p) (leg_at runs p) m h in
      at_leg m p made.value made.value.phase made.is refl made.gives
  by_rule m (Closing r j) h =
      let made = from_and_then (closing_rule runs r j) (job_at runs r j) m h in
      let next = with_job r j (finished_as (result_at runs r j made.value)) runs in
      let taken = if_some (is_done made.value) (without_moves next) m made.gives in
      subst (P (Closing r j)) taken.1 (each.job_settles r j made.value made.is taken.0)
  by_rule m (Whole r) h =
      let made = from_and_then (whole_rule runs r) (run_at runs r) m h in
      at_run m r made.value made.value.phase made.is refl made.gives
