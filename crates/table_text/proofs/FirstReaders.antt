-- Reading of tables in the first layout finds exactly what is encoded.
use Rattle.std.proofs.Common.{◌≡◌, inl, inr, ℕ, List, refl, sym, ◌∙◌, ap, subst, arith}
use Rattle.std.specs.Prelude.{◌==◌, Bool, true, Option, Some, None, if◌then◌else◌}
use Rattle.std.proofs.lemmas.Bool.{eqb-true}
use Rattle.std.proofs.lemmas.Option.{same_Some, none-some}
use Rattle.definitions.specs.SmallText.{Admitted, is_runner_byte}
use Rattle.stored_tables.specs.Stored.{RunnerParts, TableParts}
use Rattle.stored_tables.specs.declared.parts.LastParts.{LastParts}
use Rattle.stored_tables.specs.declared.parts.StoredLease.{StoredLease}
use Rattle.table_model.specs.Forgotten.{ForgottenRuns, none_forgotten}
use Rattle.table_model.specs.Parts.{RunParts}
use Rattle.table_model.specs.Runs.{JobState}
use Rattle.table_model.specs.declared.phases.RunPhase.{RunPhase}
use Rattle.table_text.specs.declared.kept.StoredReply.{StoredReply}
use Rattle.table_text.specs.declared.kept.StoredReply.TheVariants as replied
use Rattle.command_encodings.specs.Commands.{admit, command, number, small_text}
use Rattle.table_text.specs.FirstLayout.{IsFirstKept, first_kept, first_kept_parts, first_last_command, first_run, first_runner, first_table}
use Rattle.table_text.specs.SecondLayout.{unencoded}
use Rattle.table_text.specs.inner.ReadingSecond.{unencoded_at}
use Rattle.definitions.specs.Format.{Format, byte, counted, follow, only, pair, parts, row, word}
use Rattle.command_encodings.specs.inner.Reading.{byte_at, counted_at, follow_at, items_at, pair_at}
use Rattle.command_encodings.specs.inner.ReadingCommands.{admit_at, command_at, number_at, small_text_at}
use Rattle.table_text.specs.inner.ReadingFirst.{first_course_at, first_kept_at, first_kept_of, first_last_at, first_run_at, first_runner_at}
use Rattle.table_text.specs.inner.ReadingFirst.{first_runners_at, first_runs_at, first_table_at, with_lease, without_lease}
use Rattle.table_text.specs.inner.ReadingTables.{flag_at, job_at, last_lease_at, last_of, lease_at, run_phase_at}
use Rattle.table_text.specs.Tables.{flag_byte, is_last_lease, job, jobs_planned, last_parts, lease, names_rise, run_byte}
use Rattle.command_encodings.proofs.CommandReaders.{admit_reads, chosen, command_reads, number_reads, small_text_reads}
use Rattle.command_encodings.proofs.FormReaders.{byte_reads, follow_reads, row_reads}
use Rattle.command_encodings.proofs.Readers.{Prefixes, Reads, counted_reads, only_reads, pair_reads, parts_reads, some_reads, these_read}
use Rattle.table_text.proofs.TableReaders.{flag_reads, job_reads, last_back_of, last_lease_reads, last_there, lease_reads, run_phase_reads}

pub unencoded_reads : {A : Type 0} (x : A) → Reads (unencoded x) (unencoded_at x)
unencoded_reads {A} x = record {
  sound = λ bytes found are h.
      subst (λ (q : A × List ℕ). Prefixes (unencoded x) bytes q) (same_Some (x, bytes) found h)
      (record { takes = refl; split = refl; rest = are });
  complete = λ y rest takes. ap (λ (z : A). Some (z, rest)) (sym takes);
}

-- ---- runs

-- the format after an event, and the format after an attempt that is not encoded
abbrev state : Admitted → Format (RunPhase × (Bool × List JobState))
state a = pair (parts run_byte byte) (pair (parts flag_byte byte) (row (jobs_planned a) job))

abbrev course : Admitted → Format (ℕ × (RunPhase × (Bool × List JobState)))
course a = pair (unencoded 1) (state a)

course_reads : (a : Admitted) → Reads (course a) (first_course_at a)
unfolding first_course_at
course_reads a =
    pair_reads (unencoded 1) (state a) (unencoded_at 1) (pair_at run_phase_at (pair_at flag_at (items_at job_at (jobs_planned a))))
    (unencoded_reads 1)
    (pair_reads (parts run_byte byte) (pair (parts flag_byte byte) (row (jobs_planned a) job)) run_phase_at
    (pair_at flag_at (items_at job_at (jobs_planned a)))
    run_phase_reads
    (pair_reads (parts flag_byte byte) (row (jobs_planned a) job) flag_at (items_at job_at (jobs_planned a)) flag_reads
    (row_reads (jobs_planned a) job job_at job_reads)))

pub first_run_reads : Reads first_run first_run_at
unfolding first_run_at
first_run_reads =
    parts_reads (λ (r : RunParts). (r.admitted, (r.attempt, (r.phase, (r.stopping, r.jobs)))))
    (λ (p : Admitted × (ℕ × (RunPhase × (Bool × List JobState)))). record
    { admitted = p.0; attempt = p.1.0; phase = p.1.1.0; stopping = p.1.1.1.0; jobs = p.1.1.1.1 })
    (follow admit course) (follow_at admit_at first_course_at) (λ _. refl) (λ _. refl)
    (follow_reads admit course admit_at first_course_at admit_reads course_reads)

-- ---- runners

-- a kept reply is found from its parts
kept_there : (k : StoredReply) → IsFirstKept k → (pair byte lease).Takes (first_kept_parts k) × (first_kept_of (first_kept_parts k) ≡ Some k)
kept_there replied.Nothing takes = ((omega arith, tt), refl)
kept_there (replied.Leased l) takes =
    let none : None ≡ l.place = sym takes.1 in
    let same : record { lease = l.lease; place = None } ≡ l = λ i. record { lease = l.lease; place = none i } in
    ((omega arith, takes.0), ap (λ (x : StoredLease). Some (replied.Leased x)) same)
kept_there replied.Done takes = ((omega arith, tt), refl)

bare : (k : StoredReply) (l : Option ℕ) (found : StoredReply) → without_lease k l ≡ Some found → (k ≡ found) × (l ≡ None)
bare k None found h = (same_Some k found h, refl)
bare k (Some n) found h = absurd (none-some found h)

abbrev leased : ℕ → StoredReply
leased n = replied.Leased (record { lease = n; place = None })

with_one : (l : Option ℕ) (found : StoredReply) → with_lease l ≡ Some found → (n : ℕ) × (l ≡ Some n) × (leased n ≡ found)
with_one None found h = absurd (none-some found h)
with_one (Some n) found h = (n, refl, same_Some (leased n) found h)

-- and a reply with the parts of one is it
back : (b c : ℕ) (l m : Option ℕ) (of k : StoredReply) → lease.Takes l → (b == c) ≡ true → first_kept_parts of ≡ (c, m) → l ≡ m
    → (lease.Takes m → IsFirstKept of) → of ≡ k
    → IsFirstKept k × (first_kept_parts k ≡ (b, l))
back b c l m of k takes is parts same kept found = (
  subst IsFirstKept found (kept (subst lease.Takes same takes)),
  ap first_kept_parts (sym found) ∙ parts ∙ ap (λ n. (n, m)) (sym (eqb-true b c is)) ∙ ap (λ (o : Option ℕ). (b, o)) (sym same),
)

kept_back : (a : ℕ × Option ℕ) (k : StoredReply) → (pair byte lease).Takes a → first_kept_of a ≡ Some k
    → IsFirstKept k × (first_kept_parts k ≡ a)
kept_back (b, l) k takes h =
    let third : Option StoredReply = if b == 2 then without_lease replied.Done l else None in
    let second : Option StoredReply = if b == 1 then with_lease l else third in
    elim (chosen (b == 0) (without_lease replied.Nothing l) second (Some k) h) [
      | inl zero ↦ (let by = bare replied.Nothing l k zero.1 in
          back b 0 l None replied.Nothing k takes.1 zero.0 refl by.1 (λ _. tt) by.0)
      | inr more ↦ elim (chosen (b == 1) (with_lease l) third (Some k) more.1) [
        | inl one ↦ (let by = with_one l k one.1 in
            back b 1 l (Some by.0) (leased by.0) k takes.1 one.0 refl by.1 (λ number. (number, refl)) by.2)
        | inr most ↦ elim (chosen (b == 2) (without_lease replied.Done l) None (Some k) most.1) [
          | inl two ↦ (let by = bare replied.Done l k two.1 in
              back b 2 l None replied.Done k takes.1 two.0 refl by.1 (λ _. tt) by.0)
          | inr none ↦ absurd (none-some k none.1)
        ]
      ]
    ]

pub first_kept_reads : Reads first_kept first_kept_at
unfolding first_kept_at
first_kept_reads =
    these_read IsFirstKept first_kept_parts first_kept_of (pair byte lease) (pair_at byte_at lease_at) kept_there kept_back
    (pair_reads byte lease byte_at lease_at byte_reads lease_reads)

pub first_last_reads : Reads first_last_command first_last_at
unfolding first_last_at
first_last_reads =
    some_reads last_parts last_of (pair command first_kept) (pair_at command_at first_kept_at) last_there
    (λ a l h. last_back_of a.0 a.1 l h)
    (pair_reads command first_kept command_at first_kept_at command_reads first_kept_reads)

pub first_runner_reads : Reads first_runner first_runner_at
unfolding first_runner_at
first_runner_reads =
    parts_reads (λ (r : RunnerParts). (r.name, (r.number, (r.last, r.holds))))
    (λ (p : List ℕ × (ℕ × (LastParts × Option ℕ))). record { name = p.0; number = p.1.0; last = p.1.1.0; holds = p.1.1.1 })
    (pair (small_text is_runner_byte) (pair number (pair first_last_command lease)))
    (pair_at (small_text_at is_runner_byte) (pair_at number_at (pair_at first_last_at lease_at))) (λ _. refl) (λ _. refl)
    (pair_reads (small_text is_runner_byte) (pair number (pair first_last_command lease)) (small_text_at is_runner_byte)
    (pair_at number_at (pair_at first_last_at lease_at))
    (small_text_reads is_runner_byte)
    (pair_reads number (pair first_last_command lease) number_at (pair_at first_last_at lease_at) number_reads
    (pair_reads first_last_command lease first_last_at lease_at first_last_reads lease_reads)))

-- ---- tables

pub first_runs_reads : Reads (counted 0 100000 first_run) first_runs_at
unfolding first_runs_at
first_runs_reads = counted_reads 0 100000 first_run first_run_at (omega arith) first_run_reads

pub first_runners_reads : Reads (only names_rise (counted 0 4294967295 first_runner)) first_runners_at
unfolding first_runners_at
first_runners_reads =
    only_reads names_rise (counted 0 4294967295 first_runner) (counted_at 0 4294967295 first_runner_at)
    (counted_reads 0 4294967295 first_runner first_runner_at (omega arith) first_runner_reads)

abbrev first_runs_and_runners : Format (List RunParts × List RunnerParts)
first_runs_and_runners = pair (counted 0 100000 first_run) (only names_rise (counted 0 4294967295 first_runner))

pub first_table_reads : Reads first_table first_table_at
unfolding first_table_at
first_table_reads =
    parts_reads (λ (t : TableParts). (t.last_lease, (t.forgotten, (t.runs, t.runners))))
    (λ (p : ℕ × (ForgottenRuns × (List RunParts × List RunnerParts))). record
    { last_lease = p.0; forgotten = p.1.0; runs = p.1.1.0; runners = p.1.1.1 })
    (pair (only is_last_lease word) (pair (unencoded none_forgotten) first_runs_and_runners))
    (pair_at last_lease_at (pair_at (unencoded_at none_forgotten) (pair_at first_runs_at first_runners_at))) (λ _. refl) (λ _. refl)
    (pair_reads (only is_last_lease word) (pair (unencoded none_forgotten) first_runs_and_runners) last_lease_at
    (pair_at (unencoded_at none_forgotten) (pair_at first_runs_at first_runners_at))
    last_lease_reads
    (pair_reads (unencoded none_forgotten) first_runs_and_runners (unencoded_at none_forgotten) (pair_at first_runs_at first_runners_at)
    (unencoded_reads none_forgotten)
    (pair_reads (counted 0 100000 first_run) (only names_rise (counted 0 4294967295 first_runner)) first_runs_at first_runners_at
    first_runs_reads first_runners_reads)))
