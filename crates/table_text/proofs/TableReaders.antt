-- Reading of tables finds exactly what is encoded.
use Rattle.std.proofs.Common.{◌≡◌, inl, inr, ℕ, ◌≤◌, ◌<◌, ◌^◌, List, [], ◌∷◌, ◌++◌, refl, sym, ◌∙◌, ap, subst, arith}
use Rattle.std.specs.Prelude.{◌==◌, Bool, true, false, not, nat_le, Option, Some, None, if◌then◌else◌}
use Rattle.std.proofs.lemmas.Bool.{and_parts, cases_Bool, eqb-true, leb-true}
use Rattle.std.proofs.lemmas.Option.{same_Some, none-some, cond_some}
use Rattle.wf_value.specs.declared.outcome.JobResult.TheVariants as result
use Rattle.wf_value.specs.declared.outcome.Outcome.TheVariants as outcome
use Rattle.std.specs.Str.{is_utf8}
use Rattle.definitions.specs.SmallText.{Admitted, is_delivery_byte, is_runner_byte}
use Rattle.run_plan.specs.declared.command.Claim.{Claim}
use Rattle.run_plan.specs.declared.command.Done.{Done}
use Rattle.run_plan.specs.declared.command.Command.{Command}
use Rattle.run_plan.specs.declared.command.Command.TheVariants as requested
use Rattle.stored_tables.specs.Stored.{RunnerParts, TableParts, is_new}
use Rattle.table_model.specs.Forgotten.{ForgottenRuns, WorkflowCount}
use Rattle.table_model.specs.Parts.{RunParts}
use Rattle.table_model.specs.Runs.{LegState, JobState}
use Rattle.stored_tables.specs.declared.parts.LastParts.{LastParts}
use Rattle.stored_tables.specs.declared.parts.LastParts.TheVariants as last
use Rattle.stored_tables.specs.declared.parts.StoredLease.{StoredLease}
use Rattle.stored_tables.specs.declared.parts.StoredSite.{StoredSite}
use Rattle.table_model.specs.declared.phases.JobPhase.{JobPhase}
use Rattle.table_model.specs.declared.phases.JobPhase.TheVariants as job_phase
use Rattle.table_model.specs.declared.phases.LegPhase.{LegPhase}
use Rattle.table_model.specs.declared.phases.LegPhase.TheVariants as leg_phase
use Rattle.table_model.specs.declared.phases.RunPhase.{RunPhase}
use Rattle.table_model.specs.declared.phases.RunPhase.TheVariants as run_phase
use Rattle.command_encodings.specs.Commands.{admit, command, is_numbered, number, small_text}
use Rattle.definitions.specs.Format.{Format, byte, counted, follow, only, pair, parts, present, row, text, word}
use Rattle.command_encodings.specs.inner.Reading.{byte_at, counted_at, follow_at, items_at, pair_at, parts_at, present_at, some_at, text_at, word_at}
use Rattle.command_encodings.specs.inner.ReadingCommands.{admit_at, command_at, number_at, small_text_at}
use Rattle.table_text.specs.inner.ReadingTables.{attempt_at, claim_with, course_at, flag_at, job_at, job_phase_at, job_phases, kept_at}
use Rattle.table_text.specs.inner.ReadingTables.{kept_lease_at, kept_of, last_at, last_lease_at, last_of, last_with, lease_at, lease_of}
use Rattle.table_text.specs.inner.ReadingTables.{leg_at, leg_phase_at, leg_phases, of_byte, place_at, report_with, run_at, run_phase_at}
use Rattle.table_text.specs.inner.ReadingTables.{run_phases, runner_at, runners_at, runs_at, table_at}
use Rattle.table_text.specs.inner.ReadingTables.{count_at, forgotten_at, kept_of_forgotten_at, last_id_at, name_at}
use Rattle.table_text.specs.Tables.{IsKept, IsLease, flag_byte, is_attempt, is_last_lease, job, job_byte, jobs_planned, kept, kept_bytes}
use Rattle.table_text.specs.Tables.{kept_lease, last_command, last_parts, lease, lease_word, leg, leg_byte, names_rise, place, run}
use Rattle.table_text.specs.Tables.{count, deliveries_kept, forgotten, is_last_id, name, run_byte, runner, runs_and_runners, table}
use Rattle.table_text.specs.declared.kept.StoredReply.{StoredReply}
use Rattle.table_text.specs.declared.kept.StoredReply.TheVariants as replied
use Rattle.command_encodings.proofs.CommandReaders.{admit_reads, chosen, command_reads, number_reads, small_text_reads}
use Rattle.wf_value.proofs.Bytes.{AreBytes, AreBytes-drop}
use Rattle.command_encodings.proofs.FormReaders.{byte_reads, follow_reads, present_reads, row_reads}
use Rattle.command_encodings.proofs.Readers.{Prefixes, Reads, bind_some, counted_reads, only_reads, pair_reads, parts_reads, some_bind, some_reads}
use Rattle.command_encodings.proofs.Readers.{text_reads, these_read, word_reads}
use Rattle.table_model.proofs.Found.{find_passes}

-- ---- leases

lease_sound : (n : ℕ) (l : Option ℕ) → n < 2 ^ 32 → lease_of n ≡ Some l → IsLease l × (lease_word l ≡ n)
lease_sound n l fits h =
    let other : Option (Option ℕ) = if is_numbered n then Some (Some n) else None in
    elim (chosen (n == 0) (Some None) other (Some l) h) [
      | inl none ↦ subst (λ (q : Option ℕ). IsLease q × (lease_word q ≡ n)) (same_Some None l none.1) (tt, sym (eqb-true n 0 none.0))
      | inr some ↦ (let by = cond_some (is_numbered n) (Some n) l some.1 in
          subst (λ (q : Option ℕ). IsLease q × (lease_word q ≡ n)) by.1 ((fits, by.0), refl))
    ]

not_zero : (n : ℕ) → is_numbered n ≡ true → (n == 0) ≡ false
not_zero n h =
    let range = and_parts (nat_le 1 n) (nat_le n 999999999) h in
    let low : 1 ≤ n = leb-true 1 n range.0 in
    elim (cases_Bool (n == 0)) [
      | inl zero ↦ (let e : n ≡ 0 = eqb-true n 0 zero in absurd (omega (arith, e, low)))
      | inr other ↦ other
    ]

lease_found : (l : Option ℕ) → IsLease l → lease_of (lease_word l) ≡ Some l
lease_found None fits = refl
lease_found (Some n) fits =
    ap (λ b. if b then Some None else (if is_numbered n then Some (Some n) else None)) (not_zero n fits.1)
    ∙ ap (λ b. if b then Some (Some n) else None) fits.1

lease_fits : (l : Option ℕ) → IsLease l → lease_word l < 2 ^ 32
lease_fits None fits = omega arith
lease_fits (Some n) fits = fits.0

pub lease_reads : Reads lease lease_at
unfolding lease_at
lease_reads =
    these_read IsLease lease_word lease_of word word_at (λ l fits. (lease_fits l fits, lease_found l fits)) lease_sound word_reads

-- ---- values in one byte

byte_of_found : {A : Type 0} (code : A → ℕ) (values : List A) (b : ℕ) (x : A) → of_byte code values b ≡ Some x → code x ≡ b
byte_of_found code values b x h = sym (eqb-true b (code x) (find_passes (λ y. b == code y) values x h))

one_byte_reads : {A : Type 0} (code : A → ℕ) (values : List A) → ((x : A) → of_byte code values (code x) ≡ Some x)
    → Reads (parts code byte) (some_at (of_byte code values) byte_at)
one_byte_reads code values there = some_reads code (of_byte code values) byte byte_at there (byte_of_found code values) byte_reads

leg_phase_there : (p : LegPhase) → of_byte leg_byte leg_phases (leg_byte p) ≡ Some p
leg_phase_there leg_phase.New = refl
leg_phase_there leg_phase.Waiting = refl
leg_phase_there leg_phase.Ready = refl
leg_phase_there leg_phase.Running = refl
leg_phase_there leg_phase.Stopping = refl
leg_phase_there (leg_phase.Ended outcome.Success) = refl
leg_phase_there (leg_phase.Ended outcome.Failure) = refl
leg_phase_there (leg_phase.Ended outcome.Cancelled) = refl

job_phase_there : (p : JobPhase) → of_byte job_byte job_phases (job_byte p) ≡ Some p
job_phase_there job_phase.Blocked = refl
job_phase_there job_phase.Open = refl
job_phase_there (job_phase.Finished result.Success) = refl
job_phase_there (job_phase.Finished result.Failure) = refl
job_phase_there (job_phase.Finished result.Cancelled) = refl
job_phase_there (job_phase.Finished result.Skipped) = refl

run_phase_there : (p : RunPhase) → of_byte run_byte run_phases (run_byte p) ≡ Some p
run_phase_there run_phase.Waiting = refl
run_phase_there run_phase.Live = refl
run_phase_there run_phase.Ended = refl

flag_there : (flag : Bool) → of_byte flag_byte (false ∷ true ∷ []) (flag_byte flag) ≡ Some flag
flag_there false = refl
flag_there true = refl

pub leg_phase_reads : Reads (only (λ p. not (is_new p)) (parts leg_byte byte)) leg_phase_at
unfolding leg_phase_at
leg_phase_reads =
    only_reads (λ p. not (is_new p)) (parts leg_byte byte) (some_at (of_byte leg_byte leg_phases) byte_at)
    (one_byte_reads leg_byte leg_phases leg_phase_there)

pub job_phase_reads : Reads (parts job_byte byte) job_phase_at
unfolding job_phase_at
job_phase_reads = one_byte_reads job_byte job_phases job_phase_there

pub run_phase_reads : Reads (parts run_byte byte) run_phase_at
unfolding run_phase_at
run_phase_reads = one_byte_reads run_byte run_phases run_phase_there

pub flag_reads : Reads (parts flag_byte byte) flag_at
unfolding flag_at
flag_reads = one_byte_reads flag_byte (false ∷ true ∷ []) flag_there

-- ---- runs

pub leg_reads : Reads leg leg_at
unfolding leg_at
leg_reads =
    parts_reads (λ (l : LegState). (l.phase, l.lease)) (λ (p : LegPhase × Option ℕ). record { phase = p.0; lease = p.1 })
    (pair (only (λ p. not (is_new p)) (parts leg_byte byte)) lease) (pair_at leg_phase_at lease_at) (λ _. refl) (λ _. refl)
    (pair_reads (only (λ p. not (is_new p)) (parts leg_byte byte)) lease leg_phase_at lease_at leg_phase_reads lease_reads)

pub job_reads : Reads job job_at
unfolding job_at
job_reads =
    parts_reads (λ (j : JobState). (j.phase, j.legs)) (λ (p : JobPhase × List LegState). record { phase = p.0; legs = p.1 })
    (pair (parts job_byte byte) (counted 0 4294967295 leg)) (pair_at job_phase_at (counted_at 0 4294967295 leg_at)) (λ _. refl) (λ _. refl)
    (pair_reads (parts job_byte byte) (counted 0 4294967295 leg) job_phase_at (counted_at 0 4294967295 leg_at) job_phase_reads
    (counted_reads 0 4294967295 leg leg_at (omega arith) leg_reads))

pub attempt_reads : Reads (only is_attempt word) attempt_at
unfolding attempt_at
attempt_reads = only_reads is_attempt word word_at word_reads

-- the format after an attempt
abbrev state : Admitted → Format (RunPhase × (Bool × List JobState))
state a = pair (parts run_byte byte) (pair (parts flag_byte byte) (row (jobs_planned a) job))

-- the format after an event
abbrev course : Admitted → Format (ℕ × (RunPhase × (Bool × List JobState)))
course a = pair (only is_attempt word) (state a)

course_reads : (a : Admitted) → Reads (course a) (course_at a)
unfolding course_at
course_reads a =
    pair_reads (only is_attempt word) (state a) attempt_at (pair_at run_phase_at (pair_at flag_at (items_at job_at (jobs_planned a))))
    attempt_reads
    (pair_reads (parts run_byte byte) (pair (parts flag_byte byte) (row (jobs_planned a) job)) run_phase_at
    (pair_at flag_at (items_at job_at (jobs_planned a)))
    run_phase_reads
    (pair_reads (parts flag_byte byte) (row (jobs_planned a) job) flag_at (items_at job_at (jobs_planned a)) flag_reads
    (row_reads (jobs_planned a) job job_at job_reads)))

pub run_reads : Reads run run_at
unfolding run_at
run_reads =
    parts_reads (λ (r : RunParts). (r.admitted, (r.attempt, (r.phase, (r.stopping, r.jobs)))))
    (λ (p : Admitted × (ℕ × (RunPhase × (Bool × List JobState)))). record
    { admitted = p.0; attempt = p.1.0; phase = p.1.1.0; stopping = p.1.1.1.0; jobs = p.1.1.1.1 })
    (follow admit course) (follow_at admit_at course_at) (λ _. refl) (λ _. refl)
    (follow_reads admit course admit_at course_at admit_reads course_reads)

-- ---- runners

pub place_reads : Reads place place_at
unfolding place_at
place_reads =
    parts_reads (λ (p : StoredSite). (p.run, (p.attempt, (p.job, p.leg))))
    (λ (p : ℕ × (ℕ × (ℕ × ℕ))). record { run = p.0; attempt = p.1.0; job = p.1.1.0; leg = p.1.1.1 })
    (pair number (pair number (pair word word))) (pair_at number_at (pair_at number_at (pair_at word_at word_at))) (λ _. refl) (λ _. refl)
    (pair_reads number (pair number (pair word word)) number_at (pair_at number_at (pair_at word_at word_at)) number_reads
    (pair_reads number (pair word word) number_at (pair_at word_at word_at) number_reads
    (pair_reads word word word_at word_at word_reads word_reads)))

pub kept_lease_reads : Reads kept_lease kept_lease_at
unfolding kept_lease_at
kept_lease_reads =
    parts_reads (λ (l : StoredLease). (l.lease, l.place)) (λ (p : ℕ × Option StoredSite). record { lease = p.0; place = p.1 })
    (pair number (present place)) (pair_at number_at (present_at place_at)) (λ _. refl) (λ _. refl)
    (pair_reads number (present place) number_at (present_at place_at) number_reads (present_reads place place_at place_reads))

-- a reply without a lease is one byte
bare : (reply b : ℕ) (k : StoredReply) (rest : List ℕ) (found : StoredReply × List ℕ) → IsKept k → kept_bytes k ≡ b ∷ [] → AreBytes rest
    → (reply == b) ≡ true → Some (k, rest) ≡ Some found → Prefixes kept (reply ∷ rest) found
bare reply b k rest found takes encoded are is h =
    subst (λ (q : StoredReply × List ℕ). Prefixes kept (reply ∷ rest) q) (same_Some (k, rest) found h) (record {
      takes = takes;
      split = ap (λ (n : ℕ). n ∷ rest) (eqb-true reply b is) ∙ ap (λ (l : List ℕ). l ++ rest) (sym encoded);
      rest = are;
    })

with_one : (reply : ℕ) (rest : List ℕ) (found : StoredReply × List ℕ) → AreBytes rest → (reply == 1) ≡ true
    → parts_at (λ (l : StoredLease). replied.Leased l) kept_lease_at rest ≡ Some found → Prefixes kept (reply ∷ rest) found
with_one reply rest found are is h =
    let step = bind_some (kept_lease_at rest) (λ l. Some (replied.Leased l.0, l.1)) found h in
    let l = step.0 in
    let prefix = kept_lease_reads.sound rest l are step.1 in
    subst (λ (q : StoredReply × List ℕ). Prefixes kept (reply ∷ rest) q) (same_Some (replied.Leased l.0, l.1) found step.2) (record {
      takes = prefix.takes;
      split = ap (λ (n : ℕ). n ∷ rest) (eqb-true reply 1 is) ∙ ap (λ (t : List ℕ). 1 ∷ t) prefix.split;
      rest = prefix.rest;
    })

kept_after : (reply : ℕ) (rest : List ℕ) (found : StoredReply × List ℕ) → AreBytes rest → kept_of reply rest ≡ Some found
    → Prefixes kept (reply ∷ rest) found
unfolding kept_of
kept_after reply rest found are h =
    let third : Option (StoredReply × List ℕ) = if reply == 2 then Some (replied.Done, rest) else None in
    let one : Option (StoredReply × List ℕ) = parts_at (λ (l : StoredLease). replied.Leased l) kept_lease_at rest in
    let second : Option (StoredReply × List ℕ) = if reply == 1 then one else third in
    elim (chosen (reply == 0) (Some (replied.Nothing, rest)) second (Some found) h) [
      | inl zero ↦ bare reply 0 replied.Nothing rest found tt refl are zero.0 zero.1
      | inr more ↦ elim (chosen (reply == 1) one third (Some found) more.1) [
        | inl leased ↦ with_one reply rest found are leased.0 leased.1
        | inr most ↦ elim (chosen (reply == 2) (Some (replied.Done, rest)) None (Some found) most.1) [
          | inl two ↦ bare reply 2 replied.Done rest found tt refl are two.0 two.1
          | inr none ↦ absurd (none-some found none.1)
        ]
      ]
    ]

kept_finds : (bytes : List ℕ) (found : StoredReply × List ℕ) → AreBytes bytes → kept_at bytes ≡ Some found → Prefixes kept bytes found
unfolding kept_at
kept_finds [] found are h = absurd (none-some found h)
kept_finds (reply ∷ rest) found are h = kept_after reply rest found (AreBytes-drop 1 (reply ∷ rest) are) h

kept_found : (k : StoredReply) (rest : List ℕ) → IsKept k → kept_at (kept_bytes k ++ rest) ≡ Some (k, rest)
unfolding kept_at kept_of
kept_found replied.Nothing rest takes = refl
kept_found (replied.Leased l) rest takes =
    some_bind (kept_lease_at (kept_lease.encoding l ++ rest)) (λ x. Some (replied.Leased x.0, x.1)) (l, rest)
    (kept_lease_reads.complete l rest takes)
kept_found replied.Done rest takes = refl

pub kept_reads : Reads kept kept_at
kept_reads = record { sound = kept_finds; complete = kept_found }

pub last_there : (l : LastParts) → last_of (last_parts l) ≡ Some l
last_there (last.Claim claim None) = refl
last_there (last.Claim claim (Some l)) = refl
last_there (last.Done report) = refl

claim_back : (claim : Claim) (k : StoredReply) (l : LastParts) → claim_with claim k ≡ Some l → last_parts l ≡ (requested.Claim claim, k)
claim_back claim replied.Nothing l h = ap last_parts (sym (same_Some (last.Claim claim None) l h))
claim_back claim (replied.Leased given) l h = ap last_parts (sym (same_Some (last.Claim claim (Some given)) l h))
claim_back claim replied.Done l h = absurd (none-some l h)

report_back : (report : Done) (k : StoredReply) (l : LastParts) → report_with report k ≡ Some l → last_parts l ≡ (requested.Done report, k)
report_back report replied.Nothing l h = absurd (none-some l h)
report_back report (replied.Leased given) l h = absurd (none-some l h)
report_back report replied.Done l h = ap last_parts (sym (same_Some (last.Done report) l h))

pub last_back_of : (c : Command) (k : StoredReply) (l : LastParts) → last_with c k ≡ Some l → last_parts l ≡ (c, k)
last_back_of (requested.Admit event) k l h = absurd (none-some l h)
last_back_of (requested.Claim claim) k l h = claim_back claim k l h
last_back_of (requested.Done report) k l h = report_back report k l h
last_back_of (requested.Beat requests) k l h = absurd (none-some l h)
last_back_of (requested.Cancel r) k l h = absurd (none-some l h)
last_back_of (requested.Lost r) k l h = absurd (none-some l h)
last_back_of (requested.Look r) k l h = absurd (none-some l h)
last_back_of (requested.Fetch r) k l h = absurd (none-some l h)
last_back_of (requested.Rerun a) k l h = absurd (none-some l h)
last_back_of (requested.Forget r) k l h = absurd (none-some l h)
last_back_of (requested.Discharge r) k l h = absurd (none-some l h)

pub last_reads : Reads last_command last_at
unfolding last_at
last_reads =
    some_reads last_parts last_of (pair command kept) (pair_at command_at kept_at) last_there (λ a l h. last_back_of a.0 a.1 l h)
    (pair_reads command kept command_at kept_at command_reads kept_reads)

pub runner_reads : Reads runner runner_at
unfolding runner_at
runner_reads =
    parts_reads (λ (r : RunnerParts). (r.name, (r.number, (r.last, r.holds))))
    (λ (p : List ℕ × (ℕ × (LastParts × Option ℕ))). record { name = p.0; number = p.1.0; last = p.1.1.0; holds = p.1.1.1 })
    (pair (small_text is_runner_byte) (pair number (pair last_command lease)))
    (pair_at (small_text_at is_runner_byte) (pair_at number_at (pair_at last_at lease_at))) (λ _. refl) (λ _. refl)
    (pair_reads (small_text is_runner_byte) (pair number (pair last_command lease)) (small_text_at is_runner_byte)
    (pair_at number_at (pair_at last_at lease_at))
    (small_text_reads is_runner_byte)
    (pair_reads number (pair last_command lease) number_at (pair_at last_at lease_at) number_reads
    (pair_reads last_command lease last_at lease_at last_reads lease_reads)))

-- ---- what is kept of forgotten runs

pub name_reads : Reads name name_at
unfolding name_at
name_reads = only_reads is_utf8 text text_at text_reads

pub count_reads : Reads count count_at
unfolding count_at
count_reads =
    parts_reads (λ (c : WorkflowCount). (c.repo, (c.path, c.runs)))
    (λ (p : List ℕ × (List ℕ × ℕ)). record { repo = p.0; path = p.1.0; runs = p.1.1 })
    (pair name (pair name number)) (pair_at name_at (pair_at name_at number_at)) (λ _. refl) (λ _. refl)
    (pair_reads name (pair name number) name_at (pair_at name_at number_at) name_reads
    (pair_reads name number name_at number_at name_reads number_reads))

pub last_id_reads : Reads (only is_last_id word) last_id_at
unfolding last_id_at
last_id_reads = only_reads is_last_id word word_at word_reads

-- the counts, and the deliveries that are kept of so many forgotten runs
abbrev pub kept_of_forgotten : ℕ → Format (List WorkflowCount × List (List ℕ))
kept_of_forgotten n = pair (counted 0 4294967295 count) (row (deliveries_kept n) (small_text is_delivery_byte))

pub kept_of_forgotten_reads : (n : ℕ) → Reads (kept_of_forgotten n) (kept_of_forgotten_at n)
unfolding kept_of_forgotten_at
kept_of_forgotten_reads n =
    pair_reads (counted 0 4294967295 count) (row (deliveries_kept n) (small_text is_delivery_byte)) (counted_at 0 4294967295 count_at)
    (items_at (small_text_at is_delivery_byte) (deliveries_kept n))
    (counted_reads 0 4294967295 count count_at (omega arith) count_reads)
    (row_reads (deliveries_kept n) (small_text is_delivery_byte) (small_text_at is_delivery_byte) (small_text_reads is_delivery_byte))

pub forgotten_reads : Reads forgotten forgotten_at
unfolding forgotten_at
forgotten_reads =
    parts_reads (λ (f : ForgottenRuns). (f.through, (f.counts, f.deliveries)))
    (λ (p : ℕ × (List WorkflowCount × List (List ℕ))). record { through = p.0; counts = p.1.0; deliveries = p.1.1 })
    (follow (only is_last_id word) kept_of_forgotten) (follow_at last_id_at kept_of_forgotten_at) (λ _. refl) (λ _. refl)
    (follow_reads (only is_last_id word) kept_of_forgotten last_id_at kept_of_forgotten_at last_id_reads kept_of_forgotten_reads)

-- ---- tables

pub last_lease_reads : Reads (only is_last_lease word) last_lease_at
unfolding last_lease_at
last_lease_reads = only_reads is_last_lease word word_at word_reads

pub runs_reads : Reads (counted 0 100000 run) runs_at
unfolding runs_at
runs_reads = counted_reads 0 100000 run run_at (omega arith) run_reads

pub runners_reads : Reads (only names_rise (counted 0 4294967295 runner)) runners_at
unfolding runners_at
runners_reads =
    only_reads names_rise (counted 0 4294967295 runner) (counted_at 0 4294967295 runner_at)
    (counted_reads 0 4294967295 runner runner_at (omega arith) runner_reads)

pub runs_and_runners_reads : Reads runs_and_runners (pair_at runs_at runners_at)
runs_and_runners_reads =
    pair_reads (counted 0 100000 run) (only names_rise (counted 0 4294967295 runner)) runs_at runners_at runs_reads runners_reads

pub table_reads : Reads table table_at
unfolding table_at
table_reads =
    parts_reads (λ (t : TableParts). (t.last_lease, (t.forgotten, (t.runs, t.runners))))
    (λ (p : ℕ × (ForgottenRuns × (List RunParts × List RunnerParts))). record
    { last_lease = p.0; forgotten = p.1.0; runs = p.1.1.0; runners = p.1.1.1 })
    (pair (only is_last_lease word) (pair forgotten runs_and_runners))
    (pair_at last_lease_at (pair_at forgotten_at (pair_at runs_at runners_at))) (λ _. refl) (λ _. refl)
    (pair_reads (only is_last_lease word) (pair forgotten runs_and_runners) last_lease_at (pair_at forgotten_at (pair_at runs_at runners_at))
    last_lease_reads
    (pair_reads forgotten runs_and_runners forgotten_at (pair_at runs_at runners_at) forgotten_reads runs_and_runners_reads))
