-- A stop of a run stops its jobs one after another, and a stop of a job its legs.
use Rattle.std.specs.Prelude.{◌≡◌, ◌≤◌, ℕ, zero, suc, ◌+◌, List, [], ◌∷◌, length, map, Bool, true, false, Option, None, Some, option_map, slice_get, if◌then◌else◌, refl}
use Rattle.std.specs.List.{enumerate_from}
use Rattle.std.specs.Option.{option_map_or}
use Rattle.std.proofs.Common.{arith, ap, subst, sym, ◌∙◌}
use Rattle.std.proofs.lemmas.Option.{same_Some}
use Rattle.table_model.specs.Runs.{changed_at, job_at, leg_at, leg_site, run_at, with_job, with_leg, with_run, JobState, LegState, RunState}
use Rattle.table_model.specs.Groups.{leg_holds, leg_waits}
use Rattle.table_model.specs.Fitting.{is_at_work}
use Rattle.table_model.specs.Sound.{RunsAreSound}
use Rattle.table_model.specs.Runs.{is_new}
use Rattle.table_model.specs.Stops.{stopped, stopped_in, stopped_phase, stopped_run, with_job_stopped, with_stop_requested, with_stopped_legs}
use Rattle.table_model.specs.declared.phases.LegPhase.{LegPhase}
use Rattle.table_model.specs.declared.phases.LegPhase.TheVariants as leg
use Rattle.table_model.specs.declared.phases.RunPhase.{RunPhase}
use Rattle.table_model.specs.declared.phases.RunPhase.TheVariants as run
use Rattle.table_model.specs.declared.sites.LegSite.{LegSite}
use Rattle.table_model.proofs.Changed.{at_changed}
use Rattle.table_model.proofs.JobKeeps.{live_fits, with_job_of, with_leg_of}
use Rattle.table_model.proofs.Optional.{from_map}
use Rattle.table_model.proofs.RunFits.{RunsFit, job_in_run}
use Rattle.table_model.proofs.Settles.{StayFit, one_stays}
use Rattle.table_model.proofs.StoppedRuns.{all_jobs_stopped, is_to_stop, job_that_stays, job_that_stops, leg_facts_upto, next_job_stopped, upto, upto_all, upto_more}
use Rattle.table_model.proofs.Transitions.{changed_none, changed_same}
use Rattle.settling_laws.proofs.HoldersKeep.{leg_stop_settles}
use Rattle.settling_laws.proofs.SoundRuns.{runs_that_fit, sound_runs}
use Rattle.table_runs.specs.inner.HolderChanges.{ChangesNobody}
use Rattle.table_runs.proofs.OneChange.{asked, asked_adds, asked_keeps, changes_nobody}
use Rattle.table_runs.proofs.OneHolder.{leg_within}

-- ---- one change after another

pub changed_on : {X : Type 0} (i : ℕ) (f g : X → X) (xs : List X) → changed_at i f (changed_at i g xs) ≡ changed_at i (λ x. f (g x)) xs
changed_on i f g [] = refl
changed_on zero f g (x ∷ xs) = refl
changed_on (suc i) f g (x ∷ xs) = ap (λ ys. x ∷ ys) (changed_on i f g xs)

-- ---- a live run is asked to stop

module _ (runs : List RunState) (r : ℕ) (x : RunState) (at : run_at runs r ≡ Some x) (live : x.phase ≡ run.Live) (sound : RunsAreSound runs) where
  fit : RunsFit runs
  fit = runs_that_fit runs sound

  asked_stays : StayFit runs (with_run r asked runs)
  asked_stays =
      let fits = fit r x at in
      one_stays runs fit r x asked at (record {
        same_identity = refl;
        same_attempt = refl;
        keeps_results = (λ j a e. e);
        fits = record {
          has_its_jobs = fits.has_its_jobs;
          phase_fits = live_fits x.phase true x.jobs live;
          jobs_fit = fits.jobs_fit;
          needs_first = fits.needs_first;
        };
      })

  pub asked_nobody : ChangesNobody runs (with_run r asked runs)
  asked_nobody = changes_nobody runs r asked asked_keeps fit asked_stays asked_adds

  pub asked_sound : RunsAreSound (with_run r asked runs)
  asked_sound = sound_runs (with_run r asked runs) asked_stays.fit

-- the jobs before `n` are stopped where they have to be
abbrev pub stopped_upto : ℕ → RunState → RunState
stopped_upto n x = leg_facts_upto n (asked x)

pub one_more_stopped : (runs : List RunState) (r n : ℕ)
    → with_run r (with_job_stopped n) (with_run r (stopped_upto n) runs) ≡ with_run r (stopped_upto (n + 1)) runs
one_more_stopped runs r n =
    changed_on r (with_job_stopped n) (stopped_upto n) runs
    ∙ changed_same runs r (λ x. with_job_stopped n (stopped_upto n x)) (stopped_upto (n + 1)) (λ x at. next_job_stopped (asked x) n)

pub all_stopped : (runs : List RunState) (r n : ℕ) → ((x : RunState) → run_at runs r ≡ Some x → length x.jobs ≤ n)
    → with_run r (stopped_upto n) runs ≡ with_run r with_stop_requested runs
all_stopped runs r n past =
    changed_same runs r (stopped_upto n) with_stop_requested (λ x at. all_jobs_stopped (asked x) n (past x at))

-- the stop of a live run, and of one that is already stopping or has ended
pub stop_requests : (runs : List RunState) (r : ℕ) (x : RunState) → run_at runs r ≡ Some x → x.phase ≡ run.Live → x.stopping ≡ false
    → with_run r with_stop_requested runs ≡ with_run r stopped_run runs
stop_requests runs r x at live unasked =
    changed_same runs r with_stop_requested stopped_run
    (λ y here.
    let is : y ≡ x = same_Some y x (sym here ∙ at) in
    sym (ap (λ (phase : RunPhase). stopped_in phase y) (ap (λ (z : RunState). z.phase) is ∙ live)
    ∙ ap (λ b. if b then y else with_stop_requested y) (ap (λ (z : RunState). z.stopping) is ∙ unasked)))

pub stop_leaves : (runs : List RunState) (r : ℕ) (x : RunState) → run_at runs r ≡ Some x → stopped_run x ≡ x
    → runs ≡ with_run r stopped_run runs
stop_leaves runs r x at same =
    changed_none runs r stopped_run (λ y here. subst (λ (z : RunState). stopped_run z ≡ z) (same_Some x y (sym at ∙ here)) same)

pub already_asked : (x : RunState) → x.phase ≡ run.Live → x.stopping ≡ true → stopped_run x ≡ x
already_asked x live is =
    ap (λ (phase : RunPhase). stopped_in phase x) live ∙ ap (λ b. if b then x else with_stop_requested x) is

pub has_ended : (x : RunState) → x.phase ≡ run.Ended → stopped_run x ≡ x
has_ended x is = ap (λ (phase : RunPhase). stopped_in phase x) is

-- ---- the legs of a job

-- the legs before `n` are stopped
abbrev pub legs_upto : ℕ → JobState → JobState
legs_upto n y = record y { legs = upto (λ l. stopped l.1) 0 n y.legs }

pub none_of_the_legs : (runs : List RunState) (r j : ℕ) → runs ≡ with_job r j (legs_upto 0) runs
none_of_the_legs runs r j =
    changed_none runs r (with_job_of j (legs_upto 0))
    (λ x at. sym (ap (λ jobs. record x { jobs = jobs }) (changed_none x.jobs j (legs_upto 0) (λ y here. refl))))

with_leg_in_job : (j l : ℕ) (x : RunState)
    → with_job_of j (with_leg_of l stopped) (with_job_of j (legs_upto l) x) ≡ with_job_of j (legs_upto (suc l)) x
with_leg_in_job j l x =
    ap (λ jobs. record x { jobs = jobs })
    (changed_on j (with_leg_of l stopped) (legs_upto l) x.jobs
    ∙ changed_same x.jobs j (λ y. with_leg_of l stopped (legs_upto l y)) (legs_upto (suc l))
    (λ y at. ap (λ legs. record y { legs = legs }) (one_leg y)))
  where
    one_leg : (y : JobState) → changed_at l stopped (upto (λ (e : ℕ × LegState). stopped e.1) 0 l y.legs) ≡ upto (λ (e : ℕ × LegState). stopped e.1) 0 (suc l) y.legs
    one_leg y = upto_more (λ (e : ℕ × LegState). stopped e.1) 0 l y.legs

pub one_more_leg : (runs : List RunState) (r j l : ℕ)
    → with_leg (leg_site r j l) stopped (with_job r j (legs_upto l) runs) ≡ with_job r j (legs_upto (l + 1)) runs
one_more_leg runs r j l =
    let next : suc l ≡ l + 1 = omega arith in
    changed_on r (with_job_of j (with_leg_of l stopped)) (with_job_of j (legs_upto l)) runs
    ∙ changed_same runs r (λ x. with_job_of j (with_leg_of l stopped) (with_job_of j (legs_upto l) x)) (with_job_of j (legs_upto (suc l)))
    (λ x at. with_leg_in_job j l x)
    ∙ ap (λ n. with_job r j (legs_upto n) runs) next

unplaced : {X : Type 0} (f : X → X) (n : ℕ) (xs : List X) → map (λ e. f e.1) (enumerate_from n xs) ≡ map f xs
unplaced f n [] = refl
unplaced f n (x ∷ xs) = ap (λ ys. f x ∷ ys) (unplaced f (n + 1) xs)

job_there : (runs : List RunState) (r j : ℕ) (x : RunState) (y : JobState) → run_at runs r ≡ Some x → slice_get x.jobs j ≡ Some y
    → job_at runs r j ≡ Some y
job_there runs r j x y at here = job_in_run runs r j x at ∙ here

pub all_the_legs : (runs : List RunState) (r j n : ℕ) → ((y : JobState) → job_at runs r j ≡ Some y → length y.legs ≤ n)
    → with_job r j (legs_upto n) runs ≡ with_job r j with_stopped_legs runs
all_the_legs runs r j n past =
    changed_same runs r (with_job_of j (legs_upto n)) (with_job_of j with_stopped_legs)
    (λ x at. ap (λ jobs. record x { jobs = jobs })
    (changed_same x.jobs j (legs_upto n) with_stopped_legs
    (λ y here. ap (λ legs. record y { legs = legs })
    (upto_all (λ (e : ℕ × LegState). stopped e.1) 0 n y.legs (past y (job_there runs r j x y at here)) ∙ unplaced stopped 0 y.legs))))

-- ---- one leg

pub stop_sound : (runs : List RunState) (p : LegSite) → RunsAreSound runs → RunsAreSound (with_leg p stopped runs)
stop_sound runs p sound = sound_runs (with_leg p stopped runs) (leg_stop_settles runs p (runs_that_fit runs sound)).stay.fit

-- one that a runner has holds its group as before
at_work_waits : (phase : LegPhase) → is_at_work phase ≡ true → leg_waits (stopped_phase phase) ≡ leg_waits phase
at_work_waits leg.New e = cc
at_work_waits leg.Waiting e = cc
at_work_waits leg.Ready e = cc
at_work_waits leg.Running e = refl
at_work_waits leg.Stopping e = refl
at_work_waits (leg.Ended o) e = cc

at_work_holds : (phase : LegPhase) → is_at_work phase ≡ true → leg_holds (stopped_phase phase) ≡ leg_holds phase
at_work_holds leg.New e = cc
at_work_holds leg.Waiting e = cc
at_work_holds leg.Ready e = cc
at_work_holds leg.Running e = refl
at_work_holds leg.Stopping e = refl
at_work_holds (leg.Ended o) e = cc

pub waits_no_more : (phase : LegPhase) → leg_waits (stopped_phase phase) ≡ false
waits_no_more leg.New = refl
waits_no_more leg.Waiting = refl
waits_no_more leg.Ready = refl
waits_no_more leg.Running = refl
waits_no_more leg.Stopping = refl
waits_no_more (leg.Ended o) = refl

-- any other one ends
pub holds_no_more : (phase : LegPhase) → is_at_work phase ≡ false → leg_holds (stopped_phase phase) ≡ false
holds_no_more leg.New e = refl
holds_no_more leg.Waiting e = refl
holds_no_more leg.Ready e = refl
holds_no_more leg.Running e = cc
holds_no_more leg.Stopping e = cc
holds_no_more (leg.Ended o) e = refl

stopped_new : (phase : LegPhase) → is_new (stopped_phase phase) ≡ true → is_new phase ≡ true
stopped_new leg.New e = refl
stopped_new leg.Waiting e = cc
stopped_new leg.Ready e = cc
stopped_new leg.Running e = cc
stopped_new leg.Stopping e = cc
stopped_new (leg.Ended o) e = cc

pub stop_nobody : (runs : List RunState) (p : LegSite) (z : LegState) → RunsAreSound runs → leg_at runs p ≡ Some z → is_at_work z.phase ≡ true
    → ChangesNobody runs (with_leg p stopped runs)
stop_nobody runs p z sound at works =
    leg_within runs p z stopped sound at (leg_stop_settles runs p (runs_that_fit runs sound)).stay (at_work_waits z.phase works)
    (at_work_holds z.phase works) (λ y e. stopped_new y.phase e)

-- ---- one job

pub job_stops : (runs : List RunState) (r j : ℕ) → ((x : RunState) → run_at runs r ≡ Some x → is_to_stop x j ≡ true)
    → with_job r j with_stopped_legs runs ≡ with_run r (with_job_stopped j) runs
job_stops runs r j is = changed_same runs r (with_job_of j with_stopped_legs) (with_job_stopped j) (λ x at. job_that_stops x j (is x at))

pub job_stays : (runs : List RunState) (r j : ℕ) → ((x : RunState) → run_at runs r ≡ Some x → is_to_stop x j ≡ false)
    → runs ≡ with_run r (with_job_stopped j) runs
job_stays runs r j stays = changed_none runs r (with_job_stopped j) (λ x at. sym (job_that_stays x j (stays x at)))

-- what a test of the job says of each run at the index
pub job_told : (runs : List RunState) (r j : ℕ) (b answer : Bool) → b ≡ option_map_or (λ (x : RunState). is_to_stop x j) (run_at runs r) false
    → b ≡ answer → (x : RunState) → run_at runs r ≡ Some x → is_to_stop x j ≡ answer
job_told runs r j b answer is said x at =
    sym (ap (λ (o : Option RunState). option_map_or (λ (y : RunState). is_to_stop y j) o false) at) ∙ sym is ∙ said

-- a run that is not there stays so
pub none_there : (runs : List RunState) (r : ℕ) (f : RunState → RunState) → run_at runs r ≡ None → runs ≡ with_run r f runs
none_there runs r f none = changed_none runs r f (λ x at. absurd (apart x (sym none ∙ at)))
  where
    apart : (x : RunState) → None ≡ Some x → ⊥
    apart x e = cc

-- ---- a stop of a live run, from its first step to its last

module _ (runs : List RunState) (r : ℕ) (sound : RunsAreSound runs) (live : option_map (λ (x : RunState). x.phase) (run_at runs r) ≡ Some run.Live) where
  pub request_nobody : ChangesNobody runs (with_run r asked runs)
  request_nobody =
      let x = from_map (λ (y : RunState). y.phase) (run_at runs r) run.Live live in asked_nobody runs r x.value x.is x.gives sound

  pub request_sound : RunsAreSound (with_run r asked runs)
  request_sound =
      let x = from_map (λ (y : RunState). y.phase) (run_at runs r) run.Live live in asked_sound runs r x.value x.is x.gives sound

-- as many jobs as before
pub jobs_counted : (runs now seen : List RunState) (r count n : ℕ) (x : RunState) → now ≡ with_run r asked runs → seen ≡ now
    → count ≡ option_map_or (λ (y : RunState). length y.jobs) (run_at seen r) 0 → count ≤ n → run_at runs r ≡ Some x → length x.jobs ≤ n
jobs_counted runs now seen r count n x is same counted past at =
    let there : run_at seen r ≡ Some (asked x) =
    ap (λ (rs : List RunState). run_at rs r) (same ∙ is) ∙ at_changed r asked runs ∙ ap (option_map asked) at in
    let many : count ≡ length x.jobs =
    counted ∙ ap (λ (o : Option RunState). option_map_or (λ (y : RunState). length y.jobs) o 0) there in
    omega (arith, many, past)
