-- Runs keep their identity and their attempt under every change within an attempt: a change of one run, a stop, an arrival in a group, a
-- rule, and settling.
use Rattle.std.proofs.Common.{◌≡◌, ℕ, zero, suc, true, false, List, [], ◌∷◌, map, refl, ◌∙◌, ap}
use Rattle.std.specs.Prelude.{Some, None, if◌then◌else◌}
use Rattle.std.specs.Option.{option_map_or}
use Rattle.wf_value.specs.declared.outcome.Outcome.{Outcome}
use Rattle.wf_value.specs.declared.outcome.Outcome.TheVariants as outcome
use Rattle.table_model.specs.Settling.{arrived, displaced, others_pending, room_made, stopped_where_requested, decided, leg_in_phase}
use Rattle.table_model.specs.Runs.{changed_at, with_job, with_leg, with_run, JobState, LegState, RunState}
use Rattle.table_model.specs.Fitting.{site_of_lease}
use Rattle.table_model.specs.Groups.{cancels_in_progress, group_at, in_progress_in}
use Rattle.table_model.specs.GroupLaw.{Transition, and_then, at_each, without_moves}
use Rattle.table_model.specs.declared.sites.LegSite.{LegSite}
use Rattle.table_model.specs.Settling.{result_at, rule_at, run_in_phase, finished_as, with_leg_in}
use Rattle.table_model.specs.Settling.{first_site, first_rule, remaining_phases, settled, settled_within}
use Rattle.table_model.specs.Stops.{with_ended, displace, stop_holder}
use Rattle.table_model.specs.Stops.{after_end, stopped, stopped_in, stopped_run, stops_others, with_stop_requested, with_stopped_legs}
use Rattle.table_model.specs.declared.phases.LegPhase.TheVariants as leg
use Rattle.table_model.specs.declared.phases.RunPhase.{RunPhase}
use Rattle.table_model.specs.declared.phases.RunPhase.TheVariants as run
use Rattle.table_model.specs.declared.sites.RuleSite.{RuleSite}
use Rattle.table_model.proofs.Identity.{identity_of}
use Rattle.table_model.proofs.Optional.{from_and_then}
use Rattle.settling_laws.proofs.EachRule.{by_rule}
use Rattle.table_model.specs.declared.holder.Holder.{Holder}
use Rattle.table_model.specs.declared.holder.Holder.TheVariants.{Run, Leg}

-- the value read from a run depends only on these two
abbrev pub IsOfCourse : {X : Type 0} → (RunState → X) → Type 0
IsOfCourse read = (x y : RunState) → identity_of y ≡ identity_of x → y.attempt ≡ x.attempt → read y ≡ read x

module _ {X : Type 0} (read : RunState → X) (of_course : IsOfCourse read) where
  abbrev reads : List RunState → List X
  reads runs = map read runs

  -- ---- a change of one run that keeps both

  pub run_stays : (i : ℕ) (f : RunState → RunState) (runs : List RunState) → ((x : RunState) → read (f x) ≡ read x)
      → reads (changed_at i f runs) ≡ reads runs
  run_stays i f [] same = refl
  run_stays zero f (x ∷ xs) same = ap (λ (y : X). y ∷ reads xs) (same x)
  run_stays (suc i) f (x ∷ xs) same = ap (λ (l : List X). read x ∷ l) (run_stays i f xs same)

  job_stays : (r j : ℕ) (f : JobState → JobState) (runs : List RunState) → reads (with_job r j f runs) ≡ reads runs
  job_stays r j f runs = run_stays r (λ (x : RunState). record x { jobs = changed_at j f x.jobs }) runs
      (λ x. of_course x (record x { jobs = changed_at j f x.jobs }) refl refl)

  pub leg_stays : (p : LegSite) (f : LegState → LegState) (runs : List RunState) → reads (with_leg p f runs) ≡ reads runs
  leg_stays p f runs = job_stays p.run p.job (λ (job : JobState). record job { legs = changed_at p.leg f job.legs }) runs

  -- ---- a stop

  stopped_stays : (phase : RunPhase) (r : RunState) → read (stopped_in phase r) ≡ read r
  stopped_stays run.Waiting r = of_course r (stopped_in run.Waiting r) refl refl
  stopped_stays run.Live r = elim (r.stopping) as (λ b. read (if b then r else with_stop_requested r) ≡ read r)
      [ true ↦ refl | false ↦ of_course r (with_stop_requested r) refl refl ]
  stopped_stays run.Ended r = refl

  pub stop_stays : (h : Holder) (runs : List RunState) → reads (stop_holder h runs).runs ≡ reads runs
  stop_stays (Run r) runs = run_stays r stopped_run runs (λ x. stopped_stays x.phase x)
  stop_stays (Leg p) runs = leg_stays p stopped runs

  -- ---- an arrival

  each_stays : (change : Holder → List RunState → Transition) (hs : List Holder) (runs : List RunState)
      → ((h : Holder) (now : List RunState) → reads (change h now).runs ≡ reads now) → reads (at_each change hs runs).runs ≡ reads runs
  each_stays change [] runs same = refl
  each_stays change (h ∷ hs) runs same = each_stays change hs (change h runs).runs same ∙ same h runs

  pub arrived_stays : (newcomer : Holder) (runs : List RunState) → reads (arrived newcomer runs).runs ≡ reads runs
  arrived_stays newcomer runs =
      let cancels = cancels_in_progress runs newcomer in
      elim (group_at runs newcomer) as
      (λ own. reads (option_map_or (room_made cancels newcomer runs) own (without_moves runs)).runs ≡ reads runs) [
        | None ↦ refl
        | Some g ↦
            let after : List RunState = (displaced g newcomer runs).runs in
            let first : reads after ≡ reads runs =
            each_stays displace (others_pending g newcomer runs) runs (λ h now. stop_stays h now) in
            let second : reads (stopped_where_requested cancels g after).runs ≡ reads after =
            elim (cancels) as (λ b. reads (stopped_where_requested b g after).runs ≡ reads after) [
              | true ↦ each_stays stop_holder (in_progress_in after g) after (λ h now. stop_stays h now)
              | false ↦ refl
            ] in
            second ∙ first
      ]

  -- ---- a rule

  phase_stays : (runs : List RunState) (r : ℕ) (phase : RunPhase) → reads (with_run r (run_in_phase phase) runs) ≡ reads runs
  phase_stays runs r phase = run_stays r (run_in_phase phase) runs (λ x. of_course x (run_in_phase phase x) refl refl)

  rule_stays : (runs : List RunState) (m : Transition) (place : RuleSite) → rule_at runs place ≡ Some m → reads m.runs ≡ reads runs
  rule_stays runs =
      by_rule runs (λ place made. reads made.runs ≡ reads runs)
      (record {
        job_opens = (λ r j y was blocked needs. job_stays r j (decided runs r j) runs);
        leg_is_cancelled = (λ p z was is. leg_stays p (leg_in_phase (leg.Ended outcome.Cancelled)) runs);
        leg_arrives = (λ p z was is.
            arrived_stays (Leg p) (with_leg_in leg.Waiting p runs) ∙ leg_stays p (leg_in_phase leg.Waiting) runs);
        leg_starts = (λ p z was is may. leg_stays p (leg_in_phase leg.Ready) runs);
        job_settles = (λ r j y was done. job_stays r j (finished_as (result_at runs r j y)) runs);
        run_starts = (λ r x was is may. phase_stays runs r run.Live);
        run_ends = (λ r x was is settled. phase_stays runs r run.Ended);
      })

  -- ---- settling

  within_stays : (n : ℕ) (runs : List RunState) → reads (settled_within n runs).runs ≡ reads runs
  within_stays zero runs = refl
  within_stays (suc n) runs =
      elim (first_rule runs) as
      (λ o. first_rule runs ≡ o
      → reads (option_map_or (λ (m : Transition). and_then m (settled_within n)) o (without_moves runs)).runs ≡ reads runs) [
        | None ↦ λ is. refl
        | Some next ↦ λ is.
            let made = from_and_then (rule_at runs) (first_site runs) next is in
            within_stays n next.runs ∙ rule_stays runs next made.value made.gives
      ] refl

  pub settled_stays : (runs : List RunState) → reads (settled runs) ≡ reads runs
  settled_stays runs = within_stays (remaining_phases runs) runs

  -- ---- a leg ends

  end_stays : (p : LegSite) (outcome : Outcome) (runs : List RunState) → reads (after_end p outcome runs) ≡ reads runs
  end_stays p outcome runs =
      let ended = with_leg p (leg_in_phase (leg.Ended outcome)) runs in
      let one : reads ended ≡ reads runs = leg_stays p (leg_in_phase (leg.Ended outcome)) runs in
      elim (stops_others runs p outcome) as
      (λ b. reads (if b then with_job p.run p.job with_stopped_legs ended else ended) ≡ reads runs) [
        | true ↦ job_stays p.run p.job with_stopped_legs ended ∙ one
        | false ↦ one
      ]

  pub ended_stays : (lease : ℕ) (outcome : Outcome) (runs : List RunState) → reads (with_ended lease outcome runs) ≡ reads runs
  ended_stays lease outcome runs =
      elim (site_of_lease runs lease) as (λ o. reads (option_map_or (λ p. after_end p outcome runs) o runs) ≡ reads runs) [
        | None ↦ refl
        | Some p ↦ end_stays p outcome runs
      ]
