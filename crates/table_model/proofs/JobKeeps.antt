-- What a change of one job of a run keeps, and what a change of one leg of a job keeps.
use Rattle.std.specs.Prelude.{◌≡◌, ℕ, List, [], length, Bool, true, false, Option, Some, option_map, option_and_then, slice_get, refl}
use Rattle.std.proofs.Common.{ap, sym, ◌∙◌, subst, inl, inr}
use Rattle.std.proofs.lemmas.Bool.{cases_eq}
use Rattle.wf_value.specs.declared.outcome.JobResult.{JobResult}
use Rattle.table_model.specs.Runs.{changed_at, run_at, job_at, leg_at, with_leg, LegState, JobState, RunState}
use Rattle.table_model.specs.declared.sites.LegSite.{LegSite}
use Rattle.table_model.specs.Settling.{leg_has_ended, is_finished, result_at}
use Rattle.table_model.specs.Sound.{PhaseFits, LegsFit, LeaseFits}
use Rattle.table_model.specs.LegContext.{needs_have_finished, planned_legs, finished_result}
use Rattle.table_model.specs.declared.phases.JobPhase.{JobPhase}
use Rattle.table_model.specs.declared.phases.JobPhase.TheVariants as job
use Rattle.table_model.specs.declared.phases.RunPhase.{RunPhase}
use Rattle.table_model.specs.declared.phases.RunPhase.TheVariants as run
use Rattle.table_model.proofs.Changed.{at_changed, at_another, reads_same, reads_stay, holds_of_each, length-changed_at}
use Rattle.table_model.proofs.LeaseReads.{same_place}
use Rattle.table_model.proofs.LegReads.{work_of, had_in_job, works_in_job}
use Rattle.table_model.proofs.Optional.{from_and_then, each_passes}
use Rattle.table_model.proofs.RunFits.{JobFits, RunFits, RunsFit}
use Rattle.table_model.proofs.Settles.{StaysFit, Keeps, StayFit, Settles, one_stays, one_settles}

-- ---- the run and the job

pub record JobIn (runs : List RunState) (r j : ℕ) (y : JobState) : Type 0 where
  pub run : RunState
  pub run_is : run_at runs r ≡ Some run
  pub job_is : slice_get run.jobs j ≡ Some y

pub job_in : (runs : List RunState) (r j : ℕ) (y : JobState) → job_at runs r j ≡ Some y → JobIn runs r j y
job_in runs r j y e =
    let f = from_and_then (λ (x : RunState). slice_get x.jobs j) (run_at runs r) y e in
    record { run = f.value; run_is = f.is; job_is = f.gives }

pub record LegIn (runs : List RunState) (p : LegSite) (z : LegState) : Type 0 where
  pub job : JobState
  pub place : JobIn runs p.run p.job job
  pub leg_is : slice_get job.legs p.leg ≡ Some z

pub leg_in : (runs : List RunState) (p : LegSite) (z : LegState) → leg_at runs p ≡ Some z → LegIn runs p z
leg_in runs p z e =
    let f = from_and_then (λ (x : JobState). slice_get x.legs p.leg) (job_at runs p.run p.job) z e in
    record { job = f.value; place = job_in runs p.run p.job f.value f.is; leg_is = f.gives }

-- ---- phases of runs and of jobs

pub live_fits : (phase : RunPhase) (stopping : Bool) (jobs : List JobState) → phase ≡ run.Live → PhaseFits phase stopping jobs
live_fits run.Waiting stopping jobs e = cc
live_fits run.Live stopping jobs e = tt
live_fits run.Ended stopping jobs e = cc

-- a run with an open job is live
pub open_is_live : (phase : RunPhase) (stopping : Bool) (jobs : List JobState) (j : ℕ) (y : JobState) → PhaseFits phase stopping jobs
    → slice_get jobs j ≡ Some y → y.phase ≡ job.Open → phase ≡ run.Live
open_is_live run.Waiting stopping jobs j y fits e is_open = let blocked : y.phase ≡ job.Blocked = fits.1 j y e in cc
open_is_live run.Live stopping jobs j y fits e is_open = refl
open_is_live run.Ended stopping jobs j y fits e is_open =
    let settled : is_finished y ≡ true = fits j y e in
    let absurdly : is_finished (record y { phase = job.Open }) ≡ true =
    subst (λ (ph : JobPhase). is_finished (record y { phase = ph }) ≡ true) is_open settled in
    cc

pub record OpenWith (planned : ℕ) (phase : JobPhase) (legs : List LegState) : Type 0 where
  pub open_is : phase ≡ job.Open
  pub as_planned : length legs ≡ planned

pub no_leg : (legs : List LegState) (l : ℕ) (z : LegState) → legs ≡ [] → slice_get legs l ≡ Some z → ⊥
no_leg legs l z none e = let past : slice_get [] l ≡ Some z = subst (λ (xs : List LegState). slice_get xs l ≡ Some z) none e in cc

-- a job with a leg that has not ended is open
pub unended_is_open : (planned : ℕ) (result : JobResult) (phase : JobPhase) (legs : List LegState) (l : ℕ) (z : LegState)
    → LegsFit planned result phase legs → slice_get legs l ≡ Some z → leg_has_ended z ≡ false → OpenWith planned phase legs
unended_is_open planned result job.Blocked legs l z fits e un = absurd (no_leg legs l z fits e)
unended_is_open planned result job.Open legs l z fits e un = record { open_is = refl; as_planned = fits }
unended_is_open planned result (job.Finished r) legs l z fits e un =
    elim fits [
      | inl h ↦ absurd (no_leg legs l z h.0 e)
      | inr h ↦ let ended = each_passes leg_has_ended legs l z h.1 e in cc
    ]

-- ---- one job of a run

-- a changed job that keeps its result, and has legs only if its needs have finished
pub record NeedsStay (runs : List RunState) (r j : ℕ) (y z : JobState) : Type 0 where
  pub keeps_result : (a : JobResult) → finished_result y.phase ≡ Some a → finished_result z.phase ≡ Some a
  pub needs_first : (z.legs ≡ [] → ⊥) → needs_have_finished runs r j ≡ true

module _ (runs : List RunState) (r : ℕ) (x : RunState) (fit : RunFits runs r x) (j : ℕ) (y : JobState) (f : JobState → JobState)
    (was : slice_get x.jobs j ≡ Some y) where
  pub job_stays : PhaseFits x.phase x.stopping (changed_at j f x.jobs) → JobFits (planned_legs runs r j) (result_at runs r j (f y)) (f y)
      → NeedsStay runs r j y (f y) → StaysFit runs r x (record x { jobs = changed_at j f x.jobs })
  job_stays phase fits needs = record {
    same_identity = refl;
    same_attempt = refl;
    keeps_results = (λ k a e. reads_stay j f x.jobs y (λ z. finished_result z.phase) a was (needs.keeps_result a) k e);
    fits = record {
      has_its_jobs = length-changed_at j f x.jobs ∙ fit.has_its_jobs;
      phase_fits = phase;
      jobs_fit = holds_of_each j f x.jobs y (λ k z. JobFits (planned_legs runs r k) (result_at runs r k z) z) was fits fit.jobs_fit;
      needs_first = holds_of_each j f x.jobs y (λ k z. (z.legs ≡ [] → ⊥) → needs_have_finished runs r k ≡ true) was needs.needs_first
          fit.needs_first;
    };
  }

  pub job_keeps : PhaseFits x.phase x.stopping (changed_at j f x.jobs) → JobFits (planned_legs runs r j) (result_at runs r j (f y)) (f y)
      → NeedsStay runs r j y (f y) → ((l : ℕ) → had_in_job (f y) l ≡ had_in_job y l)
      → ((l : ℕ) → works_in_job (f y) l ≡ works_in_job y l) → Keeps runs r x (record x { jobs = changed_at j f x.jobs })
  job_keeps phase fits needs had works = record {
    stays = job_stays phase fits needs;
    same_had = (λ k l. reads_same j f x.jobs y (λ z. had_in_job z l) was (had l) k);
    same_works = (λ k l. reads_same j f x.jobs y (λ z. works_in_job z l) was (works l) k);
  }

-- ---- one leg of a job

abbrev pub with_job_of : ℕ → (JobState → JobState) → RunState → RunState
with_job_of j f x = record x { jobs = changed_at j f x.jobs }

abbrev pub with_leg_of : ℕ → (LegState → LegState) → JobState → JobState
with_leg_of l f y = record y { legs = changed_at l f y.legs }

pub leg_fits : (planned : ℕ) (before result : JobResult) (y : JobState) (l : ℕ) (z : LegState) (f : LegState → LegState)
    → JobFits planned before y → slice_get y.legs l ≡ Some z → leg_has_ended z ≡ false → LeaseFits (f z).phase (f z).lease
    → JobFits planned result (with_leg_of l f y)
leg_fits planned before result y l z f fits was un lease =
    let open_with = unended_is_open planned before y.phase y.legs l z fits.legs_fit was un in
    record {
      legs_fit = subst (λ (phase : JobPhase). LegsFit planned result phase (changed_at l f y.legs)) (sym open_with.open_is)
          (length-changed_at l f y.legs ∙ open_with.as_planned);
      leases_fit = holds_of_each l f y.legs z (λ _ v. LeaseFits v.phase v.lease) was lease fits.leases_fit;
    }

module _ (runs : List RunState) (fit : RunsFit runs) (p : LegSite) (z : LegState) (f : LegState → LegState) (is_in : LegIn runs p z)
    (un : leg_has_ended z ≡ false) (lease : LeaseFits (f z).phase (f z).lease) where
  run_fits : RunFits runs p.run is_in.place.run
  run_fits = fit p.run is_in.place.run is_in.place.run_is

  this_job_fits : JobFits (planned_legs runs p.run p.job) (result_at runs p.run p.job is_in.job) is_in.job
  this_job_fits = run_fits.jobs_fit p.job is_in.job is_in.place.job_is

  pub job_is_open : is_in.job.phase ≡ job.Open
  job_is_open = (unended_is_open (planned_legs runs p.run p.job)
      (result_at runs p.run p.job is_in.job) is_in.job.phase is_in.job.legs p.leg z this_job_fits.legs_fit is_in.leg_is un).open_is

  run_is_live : is_in.place.run.phase ≡ run.Live
  run_is_live =
      let x = is_in.place.run in
      open_is_live x.phase x.stopping x.jobs p.job is_in.job run_fits.phase_fits is_in.place.job_is job_is_open

  phase_still_fits : PhaseFits is_in.place.run.phase is_in.place.run.stopping (changed_at p.job (with_leg_of p.leg f) is_in.place.run.jobs)
  phase_still_fits =
      live_fits is_in.place.run.phase is_in.place.run.stopping (changed_at p.job (with_leg_of p.leg f) is_in.place.run.jobs) run_is_live

  job_still_fits : JobFits (planned_legs runs p.run p.job) (result_at runs p.run p.job (with_leg_of p.leg f is_in.job))
      (with_leg_of p.leg f is_in.job)
  job_still_fits =
      leg_fits (planned_legs runs p.run p.job) (result_at runs p.run p.job is_in.job)
      (result_at runs p.run p.job (with_leg_of p.leg f is_in.job)) is_in.job p.leg z f this_job_fits is_in.leg_is un lease

  needs_stay : NeedsStay runs p.run p.job is_in.job (with_leg_of p.leg f is_in.job)
  needs_stay = record {
    keeps_result = (λ a e. e);
    needs_first = (λ some. run_fits.needs_first p.job is_in.job is_in.place.job_is (λ none. some (ap (changed_at p.leg f) none)));
  }

  -- a change of a leg that has not ended
  pub leg_stays : StayFit runs (with_leg p f runs)
  leg_stays =
      one_stays runs fit p.run is_in.place.run (with_job_of p.job (with_leg_of p.leg f)) is_in.place.run_is
      (job_stays runs p.run is_in.place.run run_fits p.job is_in.job
      (with_leg_of p.leg f) is_in.place.job_is phase_still_fits job_still_fits needs_stay)

  -- a change of such a leg that keeps its lease
  pub leg_settles : (f z).lease ≡ z.lease → work_of (f z) ≡ work_of z → Settles runs (with_leg p f runs)
  leg_settles had works =
      one_settles runs fit p.run is_in.place.run (with_job_of p.job (with_leg_of p.leg f)) is_in.place.run_is
      (job_keeps runs p.run is_in.place.run run_fits p.job is_in.job
      (with_leg_of p.leg f) is_in.place.job_is phase_still_fits job_still_fits needs_stay
      (reads_same p.leg f is_in.job.legs z (λ v. v.lease) is_in.leg_is had)
      (reads_same p.leg f is_in.job.legs z work_of is_in.leg_is works))

-- ---- the legs after a change of one leg

module _ (runs : List RunState) (p : LegSite) (z : LegState) (f : LegState → LegState) (is_in : LegIn runs p z) where
  run_now : run_at (with_leg p f runs) p.run ≡ Some (with_job_of p.job (with_leg_of p.leg f) is_in.place.run)
  run_now = at_changed p.run (with_job_of p.job (with_leg_of p.leg f)) runs
      ∙ ap (option_map (with_job_of p.job (with_leg_of p.leg f))) is_in.place.run_is

  -- the legs of the run are the legs of its jobs
  legs_now : (j l : ℕ)
      → leg_at (with_leg p f runs) (record { run = p.run; job = j; leg = l })
      ≡ option_and_then (λ (y : JobState). slice_get y.legs l) (slice_get (changed_at p.job (with_leg_of p.leg f) is_in.place.run.jobs) j)
  legs_now j l =
      ap (option_and_then (λ (y : JobState). slice_get y.legs l)) (ap (option_and_then (λ (x : RunState). slice_get x.jobs j)) run_now)

  legs_before : (j l : ℕ)
      → leg_at runs (record { run = p.run; job = j; leg = l })
      ≡ option_and_then (λ (y : JobState). slice_get y.legs l) (slice_get is_in.place.run.jobs j)
  legs_before j l =
      ap (option_and_then (λ (y : JobState). slice_get y.legs l))
      (ap (option_and_then (λ (x : RunState). slice_get x.jobs j)) is_in.place.run_is)

  job_now : slice_get (changed_at p.job (with_leg_of p.leg f) is_in.place.run.jobs) p.job ≡ Some (with_leg_of p.leg f is_in.job)
  job_now = at_changed p.job (with_leg_of p.leg f) is_in.place.run.jobs ∙ ap (option_map (with_leg_of p.leg f)) is_in.place.job_is

  pub job_is_now : job_at (with_leg p f runs) p.run p.job ≡ Some (with_leg_of p.leg f is_in.job)
  job_is_now = ap (option_and_then (λ (x : RunState). slice_get x.jobs p.job)) run_now ∙ job_now

  pub leg_now : leg_at (with_leg p f runs) p ≡ Some (f z)
  leg_now =
      legs_now p.job p.leg ∙ ap (option_and_then (λ (y : JobState). slice_get y.legs p.leg)) job_now
      ∙ at_changed p.leg f is_in.job.legs ∙ ap (option_map f) is_in.leg_is

  in_another_run : (q : LegSite) → (q.run ≡ p.run → ⊥) → leg_at (with_leg p f runs) q ≡ leg_at runs q
  in_another_run q n =
      ap (λ o. option_and_then (λ (y : JobState). slice_get y.legs q.leg) (option_and_then (λ (x : RunState). slice_get x.jobs q.job) o))
      (at_another p.run (with_job_of p.job (with_leg_of p.leg f)) runs q.run n)

  in_another_job : (j l : ℕ) → (j ≡ p.job → ⊥)
      → leg_at (with_leg p f runs) (record { run = p.run; job = j; leg = l }) ≡ leg_at runs (record { run = p.run; job = j; leg = l })
  in_another_job j l n =
      legs_now j l ∙ ap (option_and_then (λ (y : JobState). slice_get y.legs l))
      (at_another p.job (with_leg_of p.leg f) is_in.place.run.jobs j n) ∙ sym (legs_before j l)

  another_leg : (l : ℕ) → (l ≡ p.leg → ⊥)
      → leg_at (with_leg p f runs) (record { run = p.run; job = p.job; leg = l })
      ≡ leg_at runs (record { run = p.run; job = p.job; leg = l })
  another_leg l n =
      let legs = λ (o : Option JobState). option_and_then (λ (y : JobState). slice_get y.legs l) o in
      legs_now p.job l ∙ ap legs job_now ∙ at_another p.leg f is_in.job.legs l n ∙ sym (ap legs is_in.place.job_is)
      ∙ sym (legs_before p.job l)

  pub leg_elsewhere : (q : LegSite) → (q ≡ p → ⊥) → leg_at (with_leg p f runs) q ≡ leg_at runs q
  leg_elsewhere q n =
      elim (cases_eq q.run p.run) [
        | inr r ↦ in_another_run q r
        | inl r ↦ elim (cases_eq q.job p.job) [
          | inr j ↦ subst
              (λ (k : ℕ). leg_at (with_leg p f runs) (record { run = k; job = q.job; leg = q.leg })
              ≡ leg_at runs (record { run = k; job = q.job; leg = q.leg })) (sym r) (in_another_job q.job q.leg j)
          | inl j ↦
              let l : q.leg ≡ p.leg → ⊥ = λ e. n (same_place q p r j e) in
              subst (λ (k : ℕ). leg_at (with_leg p f runs) (record { run = k; job = q.job; leg = q.leg })
              ≡ leg_at runs (record { run = k; job = q.job; leg = q.leg })) (sym r)
              (subst (λ (k : ℕ). leg_at (with_leg p f runs) (record { run = p.run; job = k; leg = q.leg })
              ≡ leg_at runs (record { run = p.run; job = k; leg = q.leg })) (sym j) (another_leg q.leg l))
        ]
      ]
