-- What a list of commands leaves: a sound table, and leases that were answers to claims.
use Rattle.std.specs.Prelude.{◌≡◌, ◌⊎◌, ℕ, zero, suc, ◌+◌, List, [], ◌∷◌, ◌++◌, length, true, false, Option, Some, None}
use Rattle.std.specs.Prelude.{option_map, option_and_then, slice_get, if◌then◌else◌, refl}
use Rattle.std.specs.Option.{option_map_or}
use Rattle.std.proofs.Common.{arith, ap, sym, ◌∙◌, inl, inr}
use Rattle.std.proofs.lemmas.Bool.{cases_eq}
use Rattle.std.proofs.lemmas.Option.{none-some, same_Some, slice_get_past}
use Rattle.wf_value.specs.declared.code.Code.TheVariants.{LeaseNotHeld, NoRunner}
use Rattle.wf_value.specs.declared.outcome.Outcome.{Outcome}
use Rattle.definitions.specs.SmallText.{Admitted}
use Rattle.run_plan.specs.declared.command.Attempt.{Attempt}
use Rattle.run_plan.specs.declared.command.Claim.{Claim as Claimed}
use Rattle.run_plan.specs.declared.command.Done.{Done as Reported}
use Rattle.run_plan.specs.declared.command.Command.{Command}
use Rattle.run_plan.specs.declared.command.Command.TheVariants as command
use Rattle.run_plan.specs.declared.last_command.ClaimReply.TheVariants as given
use Rattle.run_plan.specs.declared.reply.Reply.{Reply}
use Rattle.run_plan.specs.declared.reply.Reply.TheVariants as reply
use Rattle.table_model.specs.Runs.{changed_at, leg_at, run_at, with_job, with_leg, with_run, again, leased_leg}
use Rattle.table_model.specs.Fitting.{first_fit, site_of_lease}
use Rattle.table_model.specs.Forgotten.{next_run}
use Rattle.table_model.specs.Step.{after, replies, empty, at_rest_after, entered, unchanged, admission_answer, admitting, admitted}
use Rattle.table_model.specs.GroupLaw.{Move}
use Rattle.table_model.specs.Step.{discharge_answer, discharging, forgettable, forgot}
use Rattle.table_model.specs.TableState.{Step, TableState, index_of, last_id, runner_named, with_runner}
use Rattle.table_model.specs.declared.sites.LegSite.{LegSite}
use Rattle.table_model.specs.Settling.{leg_in_phase}
use Rattle.table_model.specs.Sound.{IsSound}
use Rattle.table_model.specs.Stops.{lease_end_moves, with_ended, stop_holder}
use Rattle.table_model.specs.Step.{claim_answer, claiming_runner, entered_again, rerun, rerun_answer, rerunning}
use Rattle.table_model.specs.Step.{kept_lease_at, lease_at, leasing, serving_nothing, claiming, report_answer, reporting_runner}
use Rattle.table_model.specs.Step.{reporting, reported, stepped, cancel_answer, cancelling, cancelled, losing, lost, refused, released}
use Rattle.table_model.specs.Runs.{LegState, JobState, RunState}
use Rattle.table_model.specs.Stops.{after_end, outcome_of_loss, stopped_run, stops_others, with_stopped_legs}
use Rattle.table_model.specs.declared.phases.LegPhase.TheVariants as leg
use Rattle.run_table.proofs.AdmitKeeps.{no_lease, same_reads}
use Rattle.run_table.proofs.BeginsAgain.{begins_again}
use Rattle.run_table.proofs.ClaimKeeps.{fitting_leg, had_changes, leasing_keeps, serving_keeps}
use Rattle.run_table.proofs.Entered.{entered_keeps, entered_settles}
use Rattle.run_table.proofs.EnteredAgain.{again_identity, entered_again_keeps, entered_again_settles}
use Rattle.table_model.proofs.Changed.{at_another, at_changed}
use Rattle.table_model.proofs.Found.{before_the_end}
use Rattle.run_table.proofs.Kept.{IsKept, kept_from_sound, kept_settles, lease_reply_same}
use Rattle.table_model.proofs.Identity.{Identity, identity_at, identity_in, identity_of}
use Rattle.table_model.proofs.JobKeeps.{leg_in, with_job_of, with_leg_of}
use Rattle.table_model.proofs.LeaseReads.{place_or_another}
use Rattle.table_model.proofs.LegReads.{had_at, had_in, had_in_job, had_from_leg, leg_from_had}
use Rattle.run_table.proofs.ReportKeeps.{loss_keeps, report_keeps}
use Rattle.settling_laws.proofs.SettlingKeeps.{settling_settles}
use Rattle.run_table.proofs.StepKeeps.{empty_is_sound, run_to_cancel, stepped_is_sound}
use Rattle.table_model.proofs.StopKeeps.{same_reads as stopped_reads, stopped_run_settles}
use Rattle.settling_laws.specs.Moved.{moved_leg}
use Rattle.settling_laws.proofs.Dropped.{lease_dropped, run_dropped}
use Rattle.table_laws.specs.Answered.{WasAnswered}
use Rattle.table_laws.proofs.ForgetSteps.{IsNoForget, forgot_drops}
use Rattle.table_model.specs.declared.holder.Holder.TheVariants.{Run}

pub after_is_sound : (t : TableState) (commands : List Command) → IsSound t → IsSound (after t commands)
after_is_sound t [] sound = sound
after_is_sound t (c ∷ cs) sound = after_is_sound (stepped t c).table cs (stepped_is_sound t c sound)

-- ---- reading an element that a change keeps

kept_by_change : {X Y : Type 0} (read : X → Option Y) (f : X → X) → ((x : X) → read (f x) ≡ read x) → (i : ℕ) (xs : List X) (k : ℕ)
    → option_and_then read (slice_get (changed_at i f xs) k) ≡ option_and_then read (slice_get xs k)
kept_by_change read f same i [] k = refl
kept_by_change read f same zero (x ∷ xs) zero = same x
kept_by_change read f same zero (x ∷ xs) (suc k) = refl
kept_by_change read f same (suc i) (x ∷ xs) zero = refl
kept_by_change read f same (suc i) (x ∷ xs) (suc k) = kept_by_change read f same i xs k

mapped_by_change : {X Y : Type 0} (h : X → Y) (f : X → X) → ((x : X) → h (f x) ≡ h x) → (i : ℕ) (xs : List X) (k : ℕ)
    → option_map h (slice_get (changed_at i f xs) k) ≡ option_map h (slice_get xs k)
mapped_by_change h f same i [] k = refl
mapped_by_change h f same zero (x ∷ xs) zero = ap Some (same x)
mapped_by_change h f same zero (x ∷ xs) (suc k) = refl
mapped_by_change h f same (suc i) (x ∷ xs) zero = refl
mapped_by_change h f same (suc i) (x ∷ xs) (suc k) = mapped_by_change h f same i xs k

-- ---- no end and no stop changes a lease or an identity

job_keeps_leases : (r j : ℕ) (f : JobState → JobState) (q : LegSite) → ((y : JobState) → had_in_job (f y) q.leg ≡ had_in_job y q.leg)
    → (runs : List RunState) → had_at (with_job r j f runs) q ≡ had_at runs q
job_keeps_leases r j f q same runs =
    kept_by_change (λ (x : RunState). had_in x q.job q.leg) (with_job_of j f)
    (λ x. kept_by_change (λ (y : JobState). had_in_job y q.leg) f same j x.jobs q.job) r runs q.run

end_keeps_leases : (p : LegSite) (o : Outcome) (q : LegSite) (runs : List RunState)
    → had_at (with_leg p (leg_in_phase (leg.Ended o)) runs) q ≡ had_at runs q
end_keeps_leases p o q runs =
    job_keeps_leases p.run p.job (with_leg_of p.leg (leg_in_phase (leg.Ended o))) q
    (λ y. kept_by_change (λ (z : LegState). z.lease) (leg_in_phase (leg.Ended o)) (λ z. refl) p.leg y.legs q.leg) runs

stop_keeps_leases : (r j : ℕ) (q : LegSite) (runs : List RunState) → had_at (with_job r j with_stopped_legs runs) q ≡ had_at runs q
stop_keeps_leases r j q runs =
    job_keeps_leases r j with_stopped_legs q (λ y. stopped_reads (λ z. z.lease) (λ z. refl) y.legs q.leg) runs

after_end_keeps_leases : (p : LegSite) (o : Outcome) (q : LegSite) (runs : List RunState) → had_at (after_end p o runs) q ≡ had_at runs q
after_end_keeps_leases p o q runs =
    let ended = with_leg p (leg_in_phase (leg.Ended o)) runs in
    elim (stops_others runs p o) as
    (λ b. had_at (if b then with_job p.run p.job with_stopped_legs ended else ended) q ≡ had_at runs q) [
      | true ↦ stop_keeps_leases p.run p.job q ended ∙ end_keeps_leases p o q runs
      | false ↦ end_keeps_leases p o q runs
    ]

after_end_keeps_identity : (p : LegSite) (o : Outcome) (r : ℕ) (runs : List RunState)
    → identity_at (after_end p o runs) r ≡ identity_at runs r
after_end_keeps_identity p o r runs =
    let ended = with_leg p (leg_in_phase (leg.Ended o)) runs in
    let change = with_job_of p.job (with_leg_of p.leg (leg_in_phase (leg.Ended o))) in
    let one = mapped_by_change identity_of change (λ x. refl) p.run runs r in
    elim (stops_others runs p o) as
    (λ b. identity_at (if b then with_job p.run p.job with_stopped_legs ended else ended) r ≡ identity_at runs r) [
      | true ↦ mapped_by_change identity_of (with_job_of p.job with_stopped_legs) (λ x. refl) p.run ended r ∙ one
      | false ↦ one
    ]

pub with_ended_keeps_leases : (lease : ℕ) (o : Outcome) (q : LegSite) (runs : List RunState)
    → had_at (with_ended lease o runs) q ≡ had_at runs q
with_ended_keeps_leases lease o q runs =
    elim (site_of_lease runs lease) as (λ place. had_at (option_map_or (λ p. after_end p o runs) place runs) q ≡ had_at runs q) [
      | None ↦ refl
      | Some p ↦ after_end_keeps_leases p o q runs
    ]

with_ended_keeps_identity : (lease : ℕ) (o : Outcome) (r : ℕ) (runs : List RunState)
    → identity_at (with_ended lease o runs) r ≡ identity_at runs r
with_ended_keeps_identity lease o r runs =
    elim (site_of_lease runs lease) as (λ place. identity_at (option_map_or (λ p. after_end p o runs) place runs) r ≡ identity_at runs r) [
      | None ↦ refl
      | Some p ↦ after_end_keeps_identity p o r runs
    ]

-- ---- what a step leaves

-- the lease is the answer to this claim
record NewLease (t : TableState) (c : Command) (s : Step) (p : LegSite) (n : ℕ) : Type 0 where
  claim : Claimed
  claims : c ≡ command.Claim claim
  answer : s.reply ≡ reply.Lease (lease_at t.runs p n)
  identity : Identity
  identity_is : identity_at t.runs p.run ≡ Some identity

-- in a step that forgets no run the lease of a leg existed before, or is new

record Reads (t : TableState) (c : Command) (s : Step) : Type 0 where
  same_identity : (r : ℕ) (x : Identity) → identity_at t.runs r ≡ Some x → identity_at s.table.runs r ≡ Some x
  had_before : (p : LegSite) (n : ℕ) → had_at s.table.runs p ≡ Some n → (had_at t.runs p ≡ Some n) ⊎ NewLease t c s p n

unchanged_reads : (t : TableState) (c : Command) (r : Reply) → Reads t c (unchanged t r)
unchanged_reads t c r = record { same_identity = (λ i x e. e); had_before = (λ p n e. inl e) }

either_reads : (t : TableState) (c : Command) (answer : Option Reply) (change : Step) → (answer ≡ None → Reads t c change)
    → Reads t c (option_map_or (unchanged t) answer change)
either_reads t c None change h = h refl
either_reads t c (Some r) change h = unchanged_reads t c r

-- the table settles and keeps its leases
rest_reads : (t : TableState) (c : Command) (moves : List Move) (mid : TableState) (r : Reply) → IsKept mid
    → ((i : ℕ) (x : Identity) → identity_at t.runs i ≡ Some x → identity_at mid.runs i ≡ Some x)
    → ((p : LegSite) (n : ℕ) → had_at mid.runs p ≡ Some n → (had_at t.runs p ≡ Some n) ⊎ NewLease t c (at_rest_after moves mid r) p n)
    → Reads t c (at_rest_after moves mid r)
rest_reads t c moves mid r kept identities leases =
    let settling = settling_settles mid.runs kept.fit in
    record {
      same_identity = (λ i x e. settling.stay.same_identity i ∙ identities i x e);
      had_before = (λ p n e. leases p n (sym (settling.same_had p) ∙ e));
    }

admit_reads : (t : TableState) (event : Admitted) → IsSound t → Reads t (command.Admit event) (admitted t event)
admit_reads t event s =
    either_reads t (command.Admit event) (admission_answer t event) (admitting t event)
    (λ none.
    let arrival = entered_settles t event (kept_from_sound t s).fit in
    rest_reads t (command.Admit event) (entered t event).moves (record t { runs = (entered t event).runs })
    (reply.Created (last_id t + 1)) (entered_keeps t event (kept_from_sound t s) none)
    (λ i x e. arrival.stay.same_identity i ∙ identities_stay i x e)
    (λ p n e. inl (sym (same_reads t.forgotten t.runs event (λ z. z.lease) p) ∙ sym (arrival.same_had p) ∙ e)))
  where
    identities_stay : (i : ℕ) (x : Identity) → identity_at t.runs i ≡ Some x → identity_at (t.runs ++ next_run t.forgotten t.runs event ∷ []) i ≡ Some x
    identities_stay i x e =
        elim (cases_eq i (length t.runs)) [
          | inl same ↦ absurd (none-some x (sym (ap identity_in (slice_get_past t.runs i (omega (arith, same)))) ∙ e))
          | inr other ↦ ap identity_in (before_the_end t.runs (next_run t.forgotten t.runs event) i other) ∙ e
        ]

leasing_reads : (t : TableState) (claim : Claimed) (p : LegSite) → IsSound t → claim_answer t claim ≡ None
    → first_fit claim.labels t.runs ≡ Some p → Reads t (command.Claim claim) (leasing t claim p)
leasing_reads t claim p s none fit =
    let lease = t.last_lease + 1 in
    let told = lease_at t.runs p lease in
    let ready = fitting_leg claim.labels t.runs p fit in
    let changes = had_changes t.runs p ready.leg_of (λ _. leased_leg lease) ready.is in
    let at = leg_in t.runs p ready.leg_of ready.is in
    rest_reads t (command.Claim claim) []
    (record t {
      last_lease = lease;
      runs = with_leg p (λ _. leased_leg lease) t.runs;
      runners =
          with_runner t.runners (claiming_runner claim (Some lease) (given.Lease (kept_lease_at t.runs p lease)));
    }) (reply.Lease told) (leasing_keeps t claim p (kept_from_sound t s) none fit)
    (λ i a e. mapped_by_change identity_of (with_job_of p.job (with_leg_of p.leg (λ _. leased_leg lease))) (λ x. refl)
    p.run t.runs i ∙ e)
    (λ q n e. elim (place_or_another q p) [
      | inl same ↦
          let number : lease ≡ n = same_Some lease n (sym changes.here
          ∙ ap (had_at (with_leg p (λ _. leased_leg lease) t.runs)) (sym same) ∙ e) in
          inr (record {
            claim = claim;
            claims = refl;
            answer = ap (λ (v : LegSite). reply.Lease (lease_at t.runs v lease)) (sym same)
                ∙ ap (λ (m : ℕ). reply.Lease (lease_at t.runs q m)) number;
            identity = identity_of at.place.run;
            identity_is = ap (λ (v : LegSite). identity_at t.runs v.run) same ∙ ap identity_in at.place.run_is;
          })
      | inr other ↦ inl (sym (changes.elsewhere q other) ∙ e)
    ])

claiming_reads : (t : TableState) (claim : Claimed) → IsSound t → claim_answer t claim ≡ None
    → Reads t (command.Claim claim) (claiming t claim)
claiming_reads t claim s none =
    elim (first_fit claim.labels t.runs) as (λ o. first_fit claim.labels t.runs ≡ o
    → Reads t (command.Claim claim) (option_map_or (leasing t claim) o (serving_nothing t claim))) [
      | None ↦ λ is. rest_reads t (command.Claim claim) []
          (record t { runners = with_runner t.runners (claiming_runner claim None given.Nothing) }) reply.Nothing
          (serving_keeps t claim (kept_from_sound t s) none) (λ i a e. e) (λ p n e. inl e)
      | Some p ↦ λ is. leasing_reads t claim p s none is
    ] refl

report_reads : (t : TableState) (report : Reported) → IsSound t → Reads t (command.Done report) (reported t report)
report_reads t report s =
    either_reads t (command.Done report) (report_answer t report) (reporting t report)
    (λ none. rest_reads t (command.Done report) (lease_end_moves report.lease report.result t.runs)
    (record t { runs = with_ended report.lease report.result t.runs; runners = with_runner t.runners (reporting_runner report) }) reply.Ok
    (report_keeps t report (kept_from_sound t s) none)
    (λ i a e. with_ended_keeps_identity report.lease report.result i t.runs ∙ e)
    (λ p n e. inl (sym (with_ended_keeps_leases report.lease report.result p t.runs) ∙ e)))

cancel_reads : (t : TableState) (id : ℕ) → IsSound t → Reads t (command.Cancel id) (cancelled t id)
cancel_reads t id s =
    either_reads t (command.Cancel id) (cancel_answer t id) (cancelling t id)
    (λ none.
    let found = run_to_cancel t id none in
    let stop = stopped_run_settles t.runs (kept_from_sound t s).fit (index_of t id) found.0 found.1 in
    let next = with_run (index_of t id) stopped_run t.runs in
    rest_reads t (command.Cancel id) (stop_holder (Run (index_of t id)) t.runs).moves (record t { runs = next }) reply.Ok
    (kept_settles t next (kept_from_sound t s) stop)
    (λ i x e. stop.stay.same_identity i ∙ e) (λ p n e. inl (sym (stop.same_had p) ∙ e)))

-- the legs of the run that begins again are gone
legs_before : (runs : List RunState) (r : ℕ) (p : LegSite) (n : ℕ) → had_at (with_run r again runs) p ≡ Some n → had_at runs p ≡ Some n
legs_before runs r p n e =
    let read = option_and_then (λ (v : RunState). had_in v p.job p.leg) in
    elim (cases_eq p.run r) [
      | inl same ↦ absurd (none-some n (sym (ap read (ap (run_at (with_run r again runs)) same ∙ at_changed r again runs)
          ∙ none_of_it (run_at runs r)) ∙ e))
      | inr other ↦ sym (ap read (at_another r again runs p.run other)) ∙ e
    ]
  where
    none_of_it : (o : Option RunState) → option_and_then (λ (v : RunState). had_in v p.job p.leg) (option_map again o) ≡ None
    none_of_it None = refl
    none_of_it (Some x) = no_lease (λ z. z.lease) x.admitted p.job p.leg

rerun_reads : (t : TableState) (requested : Attempt) → IsSound t → Reads t (command.Rerun requested) (rerun t requested)
rerun_reads t requested s =
    either_reads t (command.Rerun requested) (rerun_answer t requested) (rerunning t requested)
    (λ none.
    let begins = begins_again t requested none in
    let r = index_of t requested.run in
    let kept = kept_from_sound t s in
    let entry = entered_again_settles t r kept.fit in
    rest_reads t (command.Rerun requested) (entered_again t r).moves (record t { runs = (entered_again t r).runs }) (reply.Again requested)
    (entered_again_keeps t r requested.attempt kept begins)
    (λ i x e. entry.stay.same_identity i ∙ again_identity t.runs r i ∙ e)
    (λ p n e. inl (legs_before t.runs r p n (sym (entry.same_had p) ∙ e))))

loss_reads : (t : TableState) (name : List ℕ) → IsSound t → Reads t (command.Lost name) (lost t name)
loss_reads t name s =
    let requested = command.Lost name in
    elim (runner_named t.runners name) as
    (λ o. runner_named t.runners name ≡ o → Reads t requested (option_map_or
    (λ runner. option_map_or (losing t (released runner)) runner.holds (unchanged t (refused LeaseNotHeld))) o
    (unchanged t (refused NoRunner)))) [
      | None ↦ λ is. unchanged_reads t requested (refused NoRunner)
      | Some runner ↦ λ is. elim (runner.holds) as
          (λ h. runner.holds ≡ h → Reads t requested (option_map_or (losing t (released runner)) h (unchanged t (refused LeaseNotHeld)))) [
            | None ↦ λ none. unchanged_reads t requested (refused LeaseNotHeld)
            | Some lease ↦ λ holds.
                let outcome = outcome_of_loss t.runs lease in
                rest_reads t requested (lease_end_moves lease outcome t.runs)
                (record t { runs = with_ended lease outcome t.runs; runners = with_runner t.runners (released runner) }) reply.Ok
                (loss_keeps t name runner lease (kept_from_sound t s) is holds)
                (λ i a e. with_ended_keeps_identity lease outcome i t.runs ∙ e)
                (λ p n e. inl (sym (with_ended_keeps_leases lease outcome p t.runs) ∙ e))
          ] refl
    ] refl

step_reads : (t : TableState) (c : Command) → IsNoForget c → IsSound t → Reads t c (stepped t c)
step_reads t (command.Admit event) other s = admit_reads t event s
step_reads t (command.Claim claim) other s =
    either_reads t (command.Claim claim) (claim_answer t claim) (claiming t claim) (claiming_reads t claim s)
step_reads t (command.Done report) other s = report_reads t report s
step_reads t (command.Beat beat) other s = unchanged_reads t (command.Beat beat) (stepped t (command.Beat beat)).reply
step_reads t (command.Cancel id) other s = cancel_reads t id s
step_reads t (command.Lost name) other s = loss_reads t name s
step_reads t (command.Fetch id) other s = unchanged_reads t (command.Fetch id) (stepped t (command.Fetch id)).reply
step_reads t (command.Look id) other s = unchanged_reads t (command.Look id) (stepped t (command.Look id)).reply
step_reads t (command.Rerun requested) other s = rerun_reads t requested s
step_reads t (command.Forget id) other s = absurd other
step_reads t (command.Discharge name) other s =
    either_reads t (command.Discharge name) (discharge_answer t name) (discharging t name)
    (λ none. record { same_identity = (λ i x e. e); had_before = (λ p n e. inl e) })

-- ---- where a leg with a lease stood before

-- the leg at this site in the second table had the lease in the first, and a runner learns the same about it
record Had (t next : TableState) (p : LegSite) (n : ℕ) : Type 0 where
  site : LegSite
  had : had_at t.runs site ≡ Some n
  told : lease_at t.runs site n ≡ lease_at next.runs p n

-- a claim was answered with the lease
record IsAnswer (c : Command) (s : Step) (p : LegSite) (n : ℕ) : Type 0 where
  claim : Claimed
  claims : c ≡ command.Claim claim
  answer : s.reply ≡ reply.Lease (lease_at s.table.runs p n)

-- what a runner learns about a leg follows from the run's identity
same_lease : (runs next : List RunState) (p : LegSite) (n : ℕ) (x : Identity) → identity_at runs p.run ≡ Some x
    → identity_at next p.run ≡ Some x → lease_at runs p n ≡ lease_at next p n
same_lease runs next p n x before now = lease_reply_same runs next p n (now ∙ sym before)

its_identity : (runs : List RunState) (p : LegSite) (n : ℕ) → had_at runs p ≡ Some n → (x : Identity) × (identity_at runs p.run ≡ Some x)
its_identity runs p n e =
    let from = leg_from_had runs p n e in
    let place = (leg_in runs p from.value from.is).place in (identity_of place.run, ap identity_in place.run_is)

kept_had : (t : TableState) (c : Command) (s : Step) → Reads t c s → (p : LegSite) (n : ℕ) → had_at s.table.runs p ≡ Some n
    → Had t s.table p n ⊎ IsAnswer c s p n
kept_had t c s reads p n e =
    elim (reads.had_before p n e) [
      | inl had ↦
          let (x, is) = its_identity t.runs p n had in
          inl (record {
            site = p;
            had = had;
            told = same_lease t.runs s.table.runs p n x is (reads.same_identity p.run x is);
          })
      | inr new ↦
          let later = reads.same_identity p.run new.identity new.identity_is in
          inr (record {
            claim = new.claim;
            claims = new.claims;
            answer = new.answer ∙ ap (λ l. reply.Lease l) (same_lease t.runs s.table.runs p n new.identity new.identity_is later);
          })
    ]

-- where the first runs are dropped
forgot_had : (t : TableState) (id : ℕ) (p : LegSite) (n : ℕ) → had_at (forgot t id).table.runs p ≡ Some n → Had t (forgot t id).table p n
forgot_had t id p n e =
    let k = forgettable t id in
    let runs_are = (forgot_drops t id).runs in
    record {
      site = moved_leg k p;
      had = sym (ap (option_and_then (λ (v : RunState). had_in v p.job p.leg)) (run_dropped k t.runs p.run))
          ∙ sym (ap (λ runs. had_at runs p) runs_are) ∙ e;
      told = sym (ap (λ runs. lease_at runs p n) runs_are ∙ lease_dropped k t.runs p n);
    }

step_had_before : (t : TableState) (c : Command) → IsSound t → (p : LegSite) (n : ℕ) → had_at (stepped t c).table.runs p ≡ Some n
    → Had t (stepped t c).table p n ⊎ IsAnswer c (stepped t c) p n
step_had_before t (command.Forget id) s p n e = inl (forgot_had t id p n e)
step_had_before t c s p n e = kept_had t c (stepped t c) (step_reads t c tt s) p n e

-- ---- what a list of commands leaves

leased_from : (t : TableState) (commands : List Command) → IsSound t → (p : LegSite) (n : ℕ) → had_at (after t commands).runs p ≡ Some n
    → Had t (after t commands) p n ⊎ WasAnswered commands (replies t commands) (lease_at (after t commands).runs p n)
leased_from t [] s p n e = inl (record { site = p; had = e; told = refl })
leased_from t (c ∷ cs) s p n e =
    let sound = stepped_is_sound t c s in
    elim (leased_from (stepped t c).table cs sound p n e) [
      | inr w ↦ inr (suc w.0, w.1, w.2, w.3)
      | inl later ↦ elim (step_had_before t c s later.site n later.had) [
        | inl before ↦ inl (record { site = before.site; had = before.had; told = before.told ∙ later.told })
        | inr new ↦ inr (0, new.claim, ap Some new.claims, ap Some (new.answer ∙ ap (λ l. reply.Lease l) later.told))
      ]
    ]

pub leased_by_a_claim : (commands : List Command) (p : LegSite) (leg : LegState) (n : ℕ) → leg_at (after empty commands).runs p ≡ Some leg
    → leg.lease ≡ Some n → WasAnswered commands (replies empty commands) (lease_at (after empty commands).runs p n)
leased_by_a_claim commands p leg n at is =
    elim (leased_from empty commands empty_is_sound p n (had_from_leg (after empty commands).runs p leg at ∙ is)) [
      | inl before ↦ absurd (none-some n before.had)
      | inr w ↦ w
    ]
