-- Facts about the parts of a table that is written.
use Rattle.std.proofs.Common.{◌≡◌, ℕ, ◌≤◌, ◌<◌, List, [], ◌∷◌, length, ◌++◌, ◌^◌, refl, sym, ◌∙◌, ap, arith}
use Rattle.std.proofs.Common.{append_assoc}
use Rattle.std.specs.Prelude.{◌&&◌, Bool, true, false, not, map, flat_map, nat_le, Option, Some, None, slice_get, option_and_then}
use Rattle.std.specs.List.{AllByRecursion}
use Rattle.std.specs.Option.{option_map_or}
use Rattle.std.proofs.lemmas.Bool.{le-leb}
use Rattle.std.proofs.lemmas.List.{length-map}
use Rattle.std.proofs.lemmas.Option.{slice_get_within}
use Rattle.std.proofs.lemmas.List.Folds.{flat_map-map}
use Rattle.wf_value.specs.declared.outcome.Outcome.TheVariants as outcome
use Rattle.wf_value.proofs.Rising.{rises_over}
use Rattle.wf_value.specs.declared.refusal.Refusal.{Refusal}
use Rattle.run_plan.specs.PlanOf.{faults_of, plan_of}
use Rattle.run_plan.specs.declared.last_command.ClaimReply.TheVariants as given
use Rattle.run_plan.specs.declared.last_command.KeptLease.{KeptLease}
use Rattle.run_plan.specs.declared.last_command.LastCommand.{LastCommand}
use Rattle.run_plan.specs.declared.last_command.LastCommand.TheVariants as last
use Rattle.run_plan.specs.declared.planned.PlannedJob.{PlannedJob}
use Rattle.run_plan.specs.declared.reply.Lease.{Lease}
use Rattle.run_plan.proofs.FewJobs.{few_jobs}
use Rattle.run_plan.proofs.FewLegs.{few_planned}
use Rattle.table_model.specs.Parts.{stored_run}
use Rattle.table_model.specs.Runs.{job_at, plan_at, LegState, JobState, RunState}
use Rattle.table_model.specs.Sound.{IsOfALeg, IsSound, KeptIsOfALeg}
use Rattle.run_table.specs.Storable.{IsStorable}
use Rattle.stored_tables.specs.Stored.{stored_runner, stored_table}
use Rattle.table_model.specs.TableState.{RunnerState, TableState, names_rise}
use Rattle.table_model.specs.declared.phases.LegPhase.{LegPhase}
use Rattle.table_model.specs.declared.phases.LegPhase.TheVariants as leg_phase
use Rattle.table_model.specs.declared.phases.RunPhase.{RunPhase}
use Rattle.table_model.specs.declared.phases.RunPhase.TheVariants as run_phase
use Rattle.command_encodings.specs.Commands.{admit, are_none, is_faultless}
use Rattle.table_model.specs.Forgotten.{ForgottenRuns}
use Rattle.table_text.specs.Tables.{forgotten, IsLease, flag_byte, is_attempt, job, leg, leg_byte, run, run_byte, runner, table}
use Rattle.definitions.specs.Format.{only, word, word_bytes}
use Rattle.table_text.specs.inner.Writing.{HasByte, JobHasBytes, KeptHasBytes, RunHasBytes}
use Rattle.run_table.proofs.RunnerPut.{all_from_each}
use Rattle.table_model.proofs.Found.{each_at}

leg_byte_fits : (p : LegPhase) → leg_byte p < 256
leg_byte_fits leg_phase.New = omega arith
leg_byte_fits leg_phase.Waiting = omega arith
leg_byte_fits leg_phase.Ready = omega arith
leg_byte_fits leg_phase.Running = omega arith
leg_byte_fits leg_phase.Stopping = omega arith
leg_byte_fits (leg_phase.Ended outcome.Success) = omega arith
leg_byte_fits (leg_phase.Ended outcome.Failure) = omega arith
leg_byte_fits (leg_phase.Ended outcome.Cancelled) = omega arith

run_byte_fits : (p : RunPhase) → run_byte p < 256
run_byte_fits run_phase.Waiting = omega arith
run_byte_fits run_phase.Live = omega arith
run_byte_fits run_phase.Ended = omega arith

flag_byte_fits : (flag : Bool) → flag_byte flag < 256
flag_byte_fits false = omega arith
flag_byte_fits true = omega arith

pub leg_takes : (l : LegState) → HasByte l → IsLease l.lease → leg.Takes l
leg_takes l old lease = ((leg_byte_fits l.phase, ap not old), lease)

attempt_takes : (n : ℕ) → 1 ≤ n → n ≤ 1000 → (only is_attempt word).Takes n
attempt_takes n low high = (omega (arith, high), ap (λ b. b && nat_le n 1000) (le-leb 1 n low) ∙ le-leb n 1000 high)

pub run_takes : (r : RunState) → RunHasBytes r → admit.Takes r.admitted → AllByRecursion job.Takes r.jobs
    → run.Takes (stored_run r)
run_takes r has admitted all =
    (admitted, (attempt_takes r.attempt has.2.0 has.2.1, (run_byte_fits r.phase, (flag_byte_fits r.stopping, (has.0, all)))))

-- ---- lists

pub all_seen : {X Y : Type 0} (P : Y → Type 0) (f : X → Y) (xs : List X) → AllByRecursion (λ x. P (f x)) xs → AllByRecursion P (map f xs)
all_seen P f [] all = tt
all_seen P f (x ∷ xs) all = (all.0, all_seen P f xs all.1)

-- ---- the runs of a table have bytes

pub runs_have_bytes : (runs : List RunState) → IsStorable runs → AllByRecursion RunHasBytes runs
runs_have_bytes runs s =
    all_from_each RunHasBytes runs (λ r x at.
    let job_is : (j : ℕ) (y : JobState) → slice_get x.jobs j ≡ Some y → job_at runs r j ≡ Some y = λ j y there.
    ap (option_and_then (λ (z : RunState). slice_get z.jobs j)) at ∙ there in (
      s.jobs_are_the_plans r x at,
      all_from_each JobHasBytes x.jobs (λ j y there. (
        s.legs_are_few r j y (job_is j y there),
        all_from_each HasByte y.legs (λ l z here.
            s.no_leg_is_new (record { run = r; job = j; leg = l }) z
            (ap (option_and_then (λ (w : JobState). slice_get w.legs l)) (job_is j y there) ∙ here)),
      )),
      s.attempts_are_given r x at,
    ))

-- ---- the kept leases of a table have bytes

-- the stored parts of each run are taken
abbrev pub AreTaken : List RunState → Type 0
AreTaken runs = AllByRecursion (λ (x : RunState). run.Takes (stored_run x)) runs

no_fault : (fs : List Refusal) → are_none fs ≡ true → fs ≡ []
no_fault [] h = refl
no_fault (f ∷ fs) h = absurd (cc)

-- a job that has a planned leg is one of the plan
planned_place : (o : Option PlannedJob) (l : ℕ) → l < option_map_or (λ (planned : PlannedJob). length planned.legs) o 0
    → (planned : PlannedJob) × (o ≡ Some planned) × (l < length planned.legs)
planned_place None l h = absurd (omega (arith, h))
planned_place (Some planned) l h = (planned, refl, h)

-- its job and its leg are in the plan of a body without faults
of_a_leg_fits : (runs : List RunState) → AreTaken runs → (most : ℕ) (kept : KeptLease) → IsOfALeg most runs kept
    → (kept.job < 2 ^ 32) × (kept.lease_reply.leg < 2 ^ 32)
unfolding is_faultless
of_a_leg_fits runs takes most kept of =
    let body : List ℕ = of.run.admitted.body in
    let here : plan_at runs of.place.run of.place.job ≡ slice_get (plan_of body) of.place.job =
    ap (option_and_then (λ (x : RunState). slice_get (plan_of x.admitted.body) of.place.job)) of.run_is in
    let at = planned_place (plan_at runs of.place.run of.place.job) of.place.leg of.planned in
    let in_plan : slice_get (plan_of body) of.place.job ≡ Some at.0 = sym here ∙ at.1 in
    let taken : run.Takes (stored_run of.run) = each_at (λ (x : RunState). run.Takes (stored_run x)) runs of.place.run of.run takes of.run_is in
    let faultless : faults_of body ≡ [] = no_fault (faults_of body) taken.0.1.1.1 in
    let few_jobs_there = few_jobs body faultless in
    let below = slice_get_within (plan_of body) of.place.job at.0 in_plan in
    let few_legs = few_planned body of.place.job at.0 in_plan in
    let leg : kept.lease_reply.leg ≡ of.place.leg = ap (λ (t : Lease). t.leg) of.tells in
    (omega (arith, of.job_is, below, few_jobs_there), omega (arith, leg, at.2, few_legs))

kept_has_bytes : (runs : List RunState) → AreTaken runs → (most : ℕ) (x : LastCommand) → KeptIsOfALeg most runs x
    → KeptHasBytes x
kept_has_bytes runs takes most (last.Claim claim given.Nothing) of = tt
kept_has_bytes runs takes most (last.Claim claim (given.Lease kept)) of = of_a_leg_fits runs takes most kept of
kept_has_bytes runs takes most (last.Done report) of = tt

pub runners_have_bytes : (t : TableState) → IsSound t → AreTaken t.runs
    → AllByRecursion (λ (r : RunnerState). KeptHasBytes r.last) t.runners
runners_have_bytes t s takes =
    all_from_each (λ (r : RunnerState). KeptHasBytes r.last) t.runners (λ k x at.
    kept_has_bytes t.runs takes t.last_lease x.last (s.kept_leases_are_of_legs k x at))

-- ---- one part after another

-- an event, an attempt with two bytes, and jobs
pub run_bytes : (old a b c event event' jobs jobs' : List ℕ) (n n' x x' y y' : ℕ) → a ≡ old ++ event
    → b ≡ a ++ (word_bytes n ++ x ∷ y ∷ []) → c ≡ b ++ jobs → event ≡ event' → n ≡ n' → x ≡ x' → y ≡ y' → jobs ≡ jobs'
    → c ≡ old ++ (event' ++ (word_bytes n' ++ x' ∷ y' ∷ jobs'))
run_bytes old a b c event event' jobs jobs' n n' x x' y y' one two three f g h i j =
    three
    ∙ ap (λ (l : List ℕ). l ++ jobs) (two ∙ ap (λ (l : List ℕ). l ++ (word_bytes n ++ x ∷ y ∷ [])) one)
    ∙ append_assoc (old ++ event) (word_bytes n ++ x ∷ y ∷ []) jobs
    ∙ append_assoc old event ((word_bytes n ++ x ∷ y ∷ []) ++ jobs)
    ∙ ap (λ (l : List ℕ). old ++ (event ++ l)) (append_assoc (word_bytes n) (x ∷ y ∷ []) jobs)
    ∙ ap (λ (l : List ℕ). old ++ (l ++ (word_bytes n ++ x ∷ y ∷ jobs))) f
    ∙ ap (λ k. old ++ (event' ++ (word_bytes k ++ x ∷ y ∷ jobs))) g
    ∙ ap (λ k. old ++ (event' ++ (word_bytes n' ++ k ∷ y ∷ jobs))) h
    ∙ ap (λ k. old ++ (event' ++ (word_bytes n' ++ x' ∷ k ∷ jobs))) i
    ∙ ap (λ (l : List ℕ). old ++ (event' ++ (word_bytes n' ++ x' ∷ y' ∷ l))) j

six_parts : (old a f b c d e l gone n rs m qs : List ℕ) → a ≡ old ++ l → f ≡ a ++ gone → b ≡ f ++ n → c ≡ b ++ rs → d ≡ c ++ m
    → e ≡ d ++ qs → e ≡ old ++ (l ++ (gone ++ ((n ++ rs) ++ (m ++ qs))))
six_parts old a f b c d e l gone n rs m qs one more two three four five =
    five
    ∙ ap (λ (k : List ℕ). k ++ qs) (four ∙ ap (λ (k : List ℕ). k ++ m)
    (three ∙ ap (λ (k : List ℕ). k ++ rs) (two ∙ ap (λ (k : List ℕ). k ++ n) (more ∙ ap (λ (k : List ℕ). k ++ gone) one))))
    ∙ append_assoc (((((old ++ l) ++ gone) ++ n) ++ rs)) m qs
    ∙ ap (λ (k : List ℕ). k ++ (m ++ qs)) (append_assoc ((old ++ l) ++ gone) n rs)
    ∙ append_assoc ((old ++ l) ++ gone) (n ++ rs) (m ++ qs)
    ∙ append_assoc (old ++ l) gone ((n ++ rs) ++ (m ++ qs))
    ∙ append_assoc old l (gone ++ ((n ++ rs) ++ (m ++ qs)))

-- the bytes of runs and of runners
abbrev runs_written : List RunState → List ℕ
runs_written runs = flat_map (λ (r : RunState). run.encoding (stored_run r)) runs

abbrev runners_written : List RunnerState → List ℕ
runners_written runners = flat_map (λ (r : RunnerState). runner.encoding (stored_runner r)) runners

-- counted values that are seen through a view
counted_seen : {X Y : Type 0} (f : Y → List ℕ) (g : X → Y) (xs : List X)
    → word_bytes (length xs) ++ flat_map (λ x. f (g x)) xs ≡ word_bytes (length (map g xs)) ++ flat_map f (map g xs)
counted_seen f g xs =
    ap (λ n. word_bytes n ++ flat_map (λ x. f (g x)) xs) (sym (length-map xs g))
    ∙ ap (λ (bytes : List ℕ). word_bytes (length (map g xs)) ++ bytes) (sym (flat_map-map f g xs))

pub table_bytes : (t : TableState) (old a f b c d e : List ℕ) (lease : ℕ) (gone : ForgottenRuns) (runs : List RunState)
    (runners : List RunnerState) → a ≡ old ++ word_bytes lease → f ≡ a ++ forgotten.encoding gone → b ≡ f ++ word_bytes (length runs)
    → c ≡ b ++ runs_written runs → d ≡ c ++ word_bytes (length runners) → e ≡ d ++ runners_written runners → lease ≡ t.last_lease
    → gone ≡ t.forgotten → runs ≡ t.runs → runners ≡ t.runners → e ≡ old ++ table.encoding (stored_table t)
table_bytes t old a f b c d e lease gone runs runners one more two three four five same_lease same_gone same_runs same_runners =
    let after : List RunState → List RunnerState → List ℕ =
    λ rs qs. (word_bytes (length rs) ++ runs_written rs) ++ (word_bytes (length qs) ++ runners_written qs) in
    six_parts old a f b c d e (word_bytes lease) (forgotten.encoding gone) (word_bytes (length runs)) (runs_written runs)
    (word_bytes (length runners)) (runners_written runners) one more two three four five
    ∙ ap (λ n. old ++ (word_bytes n ++ (forgotten.encoding gone ++ after runs runners))) same_lease
    ∙ ap (λ (g : ForgottenRuns). old ++ (word_bytes t.last_lease ++ (forgotten.encoding g ++ after runs runners))) same_gone
    ∙ ap (λ (rs : List RunState). old ++ (word_bytes t.last_lease ++ (forgotten.encoding t.forgotten ++ after rs runners))) same_runs
    ∙ ap (λ (qs : List RunnerState). old ++ (word_bytes t.last_lease ++ (forgotten.encoding t.forgotten ++ after t.runs qs))) same_runners
    ∙ ap (λ (bytes : List ℕ). old ++ (word_bytes t.last_lease
    ++ (forgotten.encoding t.forgotten ++ (bytes ++ (word_bytes (length t.runners) ++ runners_written t.runners)))))
    (counted_seen run.encoding stored_run t.runs)
    ∙ ap (λ (bytes : List ℕ). old ++ (word_bytes t.last_lease
    ++ (forgotten.encoding t.forgotten
    ++ ((word_bytes (length (map stored_run t.runs)) ++ flat_map run.encoding (map stored_run t.runs)) ++ bytes))))
    (counted_seen runner.encoding stored_runner t.runners)

pub table_takes : (t : TableState) → t.last_lease ≤ 999999999 → forgotten.Takes t.forgotten → length t.runs ≤ 100000 → AreTaken t.runs
    → length t.runners ≤ 4294967295
    → AllByRecursion (λ (r : RunnerState). runner.Takes (stored_runner r)) t.runners → names_rise t.runners ≡ true
    → table.Takes (stored_table t)
table_takes t low gone few runs most runners rise =
    let same = length-map t.runners stored_runner in
    let as_many = length-map t.runs stored_run in
    let rises = rises_over (λ r. r.name) stored_runner t.runners ∙ rise in (
      (omega (arith, low), le-leb t.last_lease 999999999 low),
      (
        gone,
        (
          (omega arith, omega (arith, as_many, few), all_seen run.Takes stored_run t.runs runs),
          ((omega arith, omega (arith, same, most), all_seen runner.Takes stored_runner t.runners runners), rises),
        ),
      ),
    )
