-- The rule at each site keeps what each run satisfies on its own, and the leases.
use Rattle.std.specs.Prelude.{◌≡◌, ℕ, zero, suc, List, [], replicate, Bool, true, false, Option, Some, None, option_and_then}
use Rattle.std.specs.Prelude.{slice_get, is_some, if◌then◌else◌, refl}
use Rattle.std.specs.List.{list_all}
use Rattle.std.proofs.Common.{ap, sym, ◌∙◌, subst, inl, inr}
use Rattle.std.proofs.lemmas.Bool.{and_parts}
use Rattle.std.proofs.Math.ListN.{length-replicate}
use Rattle.wf_value.specs.declared.outcome.JobResult.{JobResult}
use Rattle.wf_value.specs.declared.outcome.JobResult.TheVariants as result
use Rattle.wf_value.specs.declared.outcome.Outcome.TheVariants as outcome
use Rattle.table_model.specs.Settling.{arrived, decided, may_run, result_at, rule_at, with_leg_in}
use Rattle.table_model.specs.Runs.{changed_at, run_at, job_at, leg_at, with_run, with_job, LegState, JobState, RunState, run_in_phase}
use Rattle.table_model.specs.GroupLaw.{Transition}
use Rattle.table_model.specs.Fitting.{is_at_work}
use Rattle.table_model.specs.declared.sites.LegSite.{LegSite}
use Rattle.table_model.specs.Sound.{PhaseFits, MayLackLegs, LeaseFits}
use Rattle.table_model.specs.Runs.{leg_has_ended, is_done, is_open, is_finished, leg_in_phase, new_leg, opened, outcome_of, finished_as}
use Rattle.table_model.specs.LegContext.{needs_have_finished, is_stopping, planned_legs, finished_result}
use Rattle.table_model.specs.declared.phases.JobPhase.{JobPhase}
use Rattle.table_model.specs.declared.phases.JobPhase.TheVariants as job
use Rattle.table_model.specs.declared.phases.LegPhase.{LegPhase}
use Rattle.table_model.specs.declared.phases.LegPhase.TheVariants as leg
use Rattle.table_model.specs.declared.phases.RunPhase.{RunPhase}
use Rattle.table_model.specs.declared.phases.RunPhase.TheVariants as run
use Rattle.table_model.specs.declared.sites.RuleSite.{RuleSite}
use Rattle.table_model.specs.declared.sites.RuleSite.TheVariants.{Opening}
use Rattle.table_model.proofs.JobKeeps.{job_in, leg_in, live_fits, open_is_live, job_keeps, leg_settles}
use Rattle.table_model.proofs.JobPhases.{all_legs, is_blocked_blocked, is_open_open, no_legs}
use Rattle.table_model.proofs.LegReads.{work_of}
use Rattle.table_model.proofs.Optional.{each_passes}
use Rattle.table_model.proofs.RunFits.{JobFits, RunsFit, leases_fit}
use Rattle.table_model.proofs.Settles.{Settles, one_settles, settles_on}
use Rattle.settling_laws.proofs.EachRule.{EachRule, by_rule}
use Rattle.settling_laws.proofs.HoldersKeep.{arrival_settles}
use Rattle.settling_laws.proofs.LivePlaces.{LivePlace}
use Rattle.table_model.specs.declared.holder.Holder.TheVariants.{Leg}

-- ---- a leg advances

pub record GoesOn (before after : LegPhase) (lease : Option ℕ) : Type 0 where
  pub unended : is_some (outcome_of before) ≡ false
  pub fits : LeaseFits after lease
  pub works : is_at_work after ≡ is_at_work before

pub leg_goes : (runs : List RunState) (p : LegSite) (z : LegState) (to : LegPhase) → RunsFit runs → leg_at runs p ≡ Some z
    → GoesOn z.phase to z.lease → Settles runs (with_leg_in to p runs)
leg_goes runs p z to fit was on =
    leg_settles runs fit p z (leg_in_phase to) (leg_in runs p z was) on.unended on.fits refl
    (ap (λ (b : Bool). if b then z.lease else None) on.works)

new_waits : (phase : LegPhase) (lease : Option ℕ) → phase ≡ leg.New → LeaseFits phase lease → GoesOn phase leg.Waiting lease
new_waits leg.New lease e fits = record { unended = refl; fits = fits; works = refl }
new_waits leg.Waiting lease e fits = cc
new_waits leg.Ready lease e fits = cc
new_waits leg.Running lease e fits = cc
new_waits leg.Stopping lease e fits = cc
new_waits (leg.Ended r) lease e fits = cc

pub new_ends : (phase : LegPhase) (lease : Option ℕ) → phase ≡ leg.New → GoesOn phase (leg.Ended outcome.Cancelled) lease
new_ends leg.New lease e = record { unended = refl; fits = tt; works = refl }
new_ends leg.Waiting lease e = cc
new_ends leg.Ready lease e = cc
new_ends leg.Running lease e = cc
new_ends leg.Stopping lease e = cc
new_ends (leg.Ended r) lease e = cc

pub waiting_starts : (phase : LegPhase) (lease : Option ℕ) → phase ≡ leg.Waiting → LeaseFits phase lease → GoesOn phase leg.Ready lease
waiting_starts leg.New lease e fits = cc
waiting_starts leg.Waiting lease e fits = record { unended = refl; fits = fits; works = refl }
waiting_starts leg.Ready lease e fits = cc
waiting_starts leg.Running lease e fits = cc
waiting_starts leg.Stopping lease e fits = cc
waiting_starts (leg.Ended r) lease e fits = cc

-- the runs in which a new leg has begun to wait
pub newcomer_waits : (runs : List RunState) (p : LegSite) (z : LegState) → RunsFit runs → leg_at runs p ≡ Some z → z.phase ≡ leg.New
    → Settles runs (with_leg_in leg.Waiting p runs)
newcomer_waits runs p z fit was is = leg_goes runs p z leg.Waiting fit was (new_waits z.phase z.lease is (leases_fit runs fit p z was))

-- ---- a job opens

each_of_replicate : {X : Type 0} (n : ℕ) (x : X) (k : ℕ) (y : X) → slice_get (replicate n x) k ≡ Some y → x ≡ y
each_of_replicate zero x k y e = cc
each_of_replicate (suc n) x zero y e = cc
each_of_replicate (suc n) x (suc k) y e = each_of_replicate n x k y e

nothing_new : (f : LegState → Option ℕ) → f new_leg ≡ None → (n l : ℕ) → option_and_then f (slice_get (replicate n new_leg) l) ≡ None
nothing_new f none zero l = refl
nothing_new f none (suc n) zero = none
nothing_new f none (suc n) (suc l) = nothing_new f none n l

nothing_there : (f : LegState → Option ℕ) (legs : List LegState) (l : ℕ) → legs ≡ [] → option_and_then f (slice_get legs l) ≡ None
nothing_there f legs l none = ap (λ (xs : List LegState). option_and_then f (slice_get xs l)) none

-- what becomes of a blocked job
abbrev made : Bool → ℕ → Bool → JobState → JobState
made may planned stopping = if may then opened planned else finished_as (if stopping then result.Cancelled else result.Skipped)

may_lack_legs : (stopping : Bool) → MayLackLegs (if stopping then result.Cancelled else result.Skipped)
may_lack_legs true = tt
may_lack_legs false = tt

made_fits : (may : Bool) (planned : ℕ) (stopping : Bool) (y : JobState) (gathered : JobResult) → y.legs ≡ []
    → JobFits planned gathered (made may planned stopping y)
made_fits true planned stopping y gathered none = record {
  legs_fit = length-replicate planned new_leg;
  leases_fit = (λ l z e. subst (λ (v : LegState). LeaseFits v.phase v.lease) (each_of_replicate planned new_leg l z e) refl);
}
made_fits false planned stopping y gathered none = record {
  legs_fit = inl (none, may_lack_legs stopping);
  leases_fit = (λ l z e. let past : slice_get [] l ≡ Some z = subst (λ (xs : List LegState). slice_get xs l ≡ Some z) none e in cc);
}

made_reads : (f : LegState → Option ℕ) → f new_leg ≡ None → (may : Bool) (planned : ℕ) (stopping : Bool) (y : JobState) → y.legs ≡ []
    → (l : ℕ)
    → option_and_then f (slice_get (made may planned stopping y).legs l) ≡ option_and_then f (slice_get y.legs l)
made_reads f new true planned stopping y none l = nothing_new f new planned l ∙ sym (nothing_there f y.legs l none)
made_reads f new false planned stopping y none l = refl

no_result : (phase : JobPhase) (a : JobResult) (o : Option JobResult) → finished_result phase ≡ None → finished_result phase ≡ Some a
    → o ≡ Some a
no_result phase a o none some = cc

opening_settles : (runs : List RunState) (r j : ℕ) (y : JobState) → RunsFit runs → LivePlace runs (Opening r j) → job_at runs r j ≡ Some y
    → y.phase ≡ job.Blocked → needs_have_finished runs r j ≡ true → Settles runs (with_job r j (decided runs r j) runs)
opening_settles runs r j y fit live was blocked settled =
    let at = job_in runs r j y was in
    let x = at.run in
    let run_fits = fit r x at.run_is in
    let same_run : live.0 ≡ x = let two : Some live.0 ≡ Some x = sym live.1 ∙ at.run_is in cc in
    let is_live : x.phase ≡ run.Live = subst (λ (v : RunState). v.phase ≡ run.Live) same_run live.2 in
    let none = no_legs (planned_legs runs r j) (result_at runs r j y) y.phase y.legs (run_fits.jobs_fit j y at.job_is).legs_fit blocked in
    one_settles runs fit r x (λ (v : RunState). record v { jobs = changed_at j (decided runs r j) v.jobs }) at.run_is
    (job_keeps runs r x run_fits j y (decided runs r j) at.job_is
    (live_fits x.phase x.stopping (changed_at j (decided runs r j) x.jobs) is_live)
    (made_fits (may_run runs r j) (planned_legs runs r j) (is_stopping runs r) y (result_at runs r j (decided runs r j y)) none)
    (record {
      keeps_result = (λ a e. no_result y.phase a (finished_result (decided runs r j y).phase) (ap finished_result blocked) e);
      needs_first = (λ some. settled);
    })
    (made_reads (λ (z : LegState). z.lease) refl (may_run runs r j) (planned_legs runs r j) (is_stopping runs r) y none)
    (made_reads work_of refl (may_run runs r j) (planned_legs runs r j) (is_stopping runs r) y none))

-- ---- a job finishes

closing_settles : (runs : List RunState) (r j : ℕ) (y : JobState) → RunsFit runs → job_at runs r j ≡ Some y → is_done y ≡ true
    → Settles runs (with_job r j (finished_as (result_at runs r j y)) runs)
closing_settles runs r j y fit was is =
    let close = finished_as (result_at runs r j y) in
    let done = and_parts (is_open y.phase) (list_all leg_has_ended y.legs) is in
    let at = job_in runs r j y was in
    let x = at.run in
    let run_fits = fit r x at.run_is in
    let fits = run_fits.jobs_fit j y at.job_is in
    let is_open = is_open_open y.phase done.0 in
    let planned = all_legs (planned_legs runs r j) (result_at runs r j y) y.phase y.legs fits.legs_fit is_open in
    let live = open_is_live x.phase x.stopping x.jobs j y run_fits.phase_fits at.job_is is_open in
    one_settles runs fit r x (λ (v : RunState). record v { jobs = changed_at j close v.jobs }) at.run_is
    (job_keeps runs r x run_fits j y close at.job_is (live_fits x.phase x.stopping (changed_at j close x.jobs) live)
    (record { legs_fit = inr (planned, done.1, refl); leases_fit = fits.leases_fit })
    (record {
      keeps_result = (λ a e. no_result y.phase a (finished_result (close y).phase) (ap finished_result is_open) e);
      needs_first = (λ some. run_fits.needs_first j y at.job_is some);
    }) (λ l. refl) (λ l. refl))

-- ---- a run advances

pub phase_settles : (runs : List RunState) (r : ℕ) (x : RunState) (to : RunPhase) → RunsFit runs → run_at runs r ≡ Some x
    → PhaseFits to x.stopping x.jobs → Settles runs (with_run r (run_in_phase to) runs)
phase_settles runs r x to fit was phase_fits =
    let fits = fit r x was in
    one_settles runs fit r x (run_in_phase to) was
    (record {
      stays = record {
        same_identity = refl;
        same_attempt = refl;
        keeps_results = (λ j a e. e);
        fits = record {
          has_its_jobs = fits.has_its_jobs;
          phase_fits = phase_fits;
          jobs_fit = fits.jobs_fit;
          needs_first = fits.needs_first;
        };
      };
      same_had = (λ j l. refl);
      same_works = (λ j l. refl);
    })

-- ---- at each site

pub each_settles : (runs : List RunState) → RunsFit runs → EachRule runs (λ site m. LivePlace runs site → Settles runs m.runs)
each_settles runs fit = record {
  job_opens = (λ r j y was blocked settled live. opening_settles runs r j y fit live was (is_blocked_blocked y.phase blocked) settled);
  leg_is_cancelled = (λ p z was is live. leg_goes runs p z (leg.Ended outcome.Cancelled) fit was (new_ends z.phase z.lease is));
  leg_arrives = (λ p z was is live.
      let waiting = with_leg_in leg.Waiting p runs in
      let first = newcomer_waits runs p z fit was is in
      settles_on runs waiting (arrived (Leg p) waiting).runs first (arrival_settles (Leg p) waiting first.stay.fit));
  leg_starts = (λ p z was is may live.
      leg_goes runs p z leg.Ready fit was (waiting_starts z.phase z.lease is (leases_fit runs fit p z was)));
  job_settles = (λ r j y was done live. closing_settles runs r j y fit was done);
  run_starts = (λ r x was is may live. phase_settles runs r x run.Live fit was tt);
  run_ends = (λ r x was is all live. phase_settles runs r x run.Ended fit was (λ j y at. each_passes is_finished x.jobs j y all at));
}

pub rule_settles : (runs : List RunState) (m : Transition) (site : RuleSite) → RunsFit runs → LivePlace runs site → rule_at runs site ≡ Some m
    → Settles runs m.runs
rule_settles runs m site fit live h =
    by_rule runs (λ at made. LivePlace runs at → Settles runs made.runs) (each_settles runs fit) m site h live
