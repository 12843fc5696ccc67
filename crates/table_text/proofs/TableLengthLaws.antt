-- The length of a table's encoding is the sum over its fields.
use Rattle.std.proofs.Common.{◌≡◌, ℕ, ◌+◌, ◌*◌, List, [], ◌∷◌, ◌++◌, length, refl, sym, ◌∙◌, ap, arith}
use Rattle.std.specs.Prelude.{flat_map, map, sum_by, Option, Some, None}
use Rattle.std.specs.Option.{option_map_or}
use Rattle.std.proofs.lemmas.List.Concat.{length-flat_map}
use Rattle.std.proofs.lemmas.List.Sums.{sum_by-cons}
use Rattle.run_plan.specs.declared.command.Command.TheVariants as requested
use Rattle.run_plan.specs.declared.last_command.ClaimReply.TheVariants as given
use Rattle.run_plan.specs.declared.last_command.LastCommand.{LastCommand}
use Rattle.run_plan.specs.declared.last_command.LastCommand.TheVariants as kept_last
use Rattle.run_table.specs.inner.RunnerSizes.{last_size, runner_size}
use Rattle.table_model.specs.TableState.{RunnerState}
use Rattle.stored_tables.specs.Stored.{RunnerParts, TableParts, stored_last, stored_runner}
use Rattle.table_model.specs.Forgotten.{ForgottenRuns, WorkflowCount}
use Rattle.table_model.specs.Parts.{RunParts, stored_run}
use Rattle.table_model.specs.Runs.{LegState, JobState, RunState}
use Rattle.table_runs.specs.StoredSizes.{job_size, leg_counts, run_size}
use Rattle.stored_tables.specs.declared.parts.LastParts.{LastParts}
use Rattle.stored_tables.specs.declared.parts.LastParts.TheVariants as last
use Rattle.stored_tables.specs.declared.parts.StoredLease.{StoredLease}
use Rattle.stored_tables.specs.declared.parts.StoredSite.{StoredSite}
use Rattle.command_encodings.specs.Commands.{admit, command_bytes}
use Rattle.definitions.specs.Format.{present, text_bytes, word_bytes}
use Rattle.command_encodings.specs.Lengths.{command_length, fields_length, length_of, text_length}
use Rattle.table_text.specs.TableLengths.{count_length, forgotten_length, last_length, lease_length, run_length, runner_length, table_length}
use Rattle.table_text.specs.Tables.{count, flag_byte, forgotten, job, kept, kept_lease, last_command, lease, leg, place, run, run_byte, runner, table}
use Rattle.table_text.specs.declared.kept.StoredReply.TheVariants as replied
use Rattle.command_encodings.proofs.LengthLaws.{after_one, length_admit, length_command, length_counted, length_text, length_two, length_word}
use Rattle.command_encodings.proofs.LengthLaws.{sum_same}

length_leg : (l : LegState) → length_of leg l ≡ 5
length_leg l = after_one (lease.encoding l.lease) (length_lease l.lease) ∙ omega arith
  where
    length_lease : (o : Option ℕ) → length (lease.encoding o) ≡ 4
    length_lease o = length_word _

-- the same sum over the values seen through a view
pub sum_seen : {X Y : Type 0} (f : Y → ℕ) (g : X → Y) (xs : List X) → sum_by f (map g xs) ≡ sum_by (λ x. f (g x)) xs
sum_seen f g [] = refl
sum_seen f g (x ∷ xs) =
    sum_by-cons f (g x) (map g xs) ∙ ap (λ n. f (g x) + n) (sum_seen f g xs) ∙ sym (sum_by-cons (λ x. f (g x)) x xs)

-- each of the legs has five bytes
five_each : (legs : List LegState) → sum_by (λ (l : LegState). 5) legs ≡ 5 * length legs
five_each [] = refl
five_each (l ∷ ls) =
    let more = sum_by-cons (λ (l : LegState). 5) l ls in
    let before = five_each ls in
    omega (arith, more, before)

length_job : (j : JobState) → length_of job j ≡ job_size (length j.legs)
length_job j =
    let legs = length_counted leg.encoding (λ (l : LegState). 5) j.legs length_leg in
    let five = five_each j.legs in
    after_one (word_bytes (length j.legs) ++ flat_map leg.encoding j.legs) legs ∙ omega (arith, five)

length_run : (r : RunParts) → length_of run r ≡ run_length r
length_run r =
    let sizes = sum_by job_size (leg_counts r.jobs) in
    let jobs : length (flat_map job.encoding r.jobs) ≡ sizes =
    length-flat_map job.encoding r.jobs
    ∙ sum_same (λ j. length (job.encoding j)) (λ j. job_size (length j.legs)) r.jobs length_job
    ∙ sym (sum_seen job_size (λ (j : JobState). length j.legs) r.jobs) in
    length_two (admit.encoding r.admitted) (word_bytes r.attempt ++ run_byte r.phase ∷ flag_byte r.stopping ∷ flat_map job.encoding r.jobs)
    (fields_length (requested.Admit r.admitted))
    (4 + (1 + (1 + sizes))) (length_admit r.admitted)
    (length_two (word_bytes r.attempt) (run_byte r.phase ∷ flag_byte r.stopping ∷ flat_map job.encoding r.jobs) 4
    (1 + (1 + sizes)) (length_word r.attempt)
    (after_one (flag_byte r.stopping ∷ flat_map job.encoding r.jobs) (after_one (flat_map job.encoding r.jobs) jobs)))
    ∙ omega arith

length_place : (o : Option StoredSite) → length_of (present place) o ≡ option_map_or (λ _. 16) o 0
length_place None = refl
length_place (Some p) =
    length_two (word_bytes p.run) (word_bytes p.attempt ++ (word_bytes p.job ++ word_bytes p.leg)) 4 12 (length_word p.run)
    (length_two (word_bytes p.attempt) (word_bytes p.job ++ word_bytes p.leg) 4 8 (length_word p.attempt)
    (length_two (word_bytes p.job) (word_bytes p.leg) 4 4 (length_word p.job) (length_word p.leg)))

length_kept_lease : (l : StoredLease) → length_of kept_lease l ≡ lease_length l
length_kept_lease l =
    length_two (word_bytes l.lease) ((present place).encoding l.place) 4 (option_map_or (λ _. 16) l.place 0) (length_word l.lease)
    (length_place l.place)

length_last : (l : LastParts) → length_of last_command l ≡ last_length l
length_last (last.Claim claim None) =
    length_two (command_bytes (requested.Claim claim)) (kept.encoding replied.Nothing) (command_length (requested.Claim claim)) 1
    (length_command (requested.Claim claim)) refl
length_last (last.Claim claim (Some l)) =
    length_two (command_bytes (requested.Claim claim)) (kept.encoding (replied.Leased l)) (command_length (requested.Claim claim))
    (1 + lease_length l)
    (length_command (requested.Claim claim)) (after_one (kept_lease.encoding l) (length_kept_lease l))
    ∙ omega arith
length_last (last.Done report) =
    length_two (command_bytes (requested.Done report)) (kept.encoding replied.Done) (command_length (requested.Done report)) 1
    (length_command (requested.Done report)) refl

length_runner : (r : RunnerParts) → length_of runner r ≡ runner_length r
length_runner r =
    length_two (text_bytes r.name) (word_bytes r.number ++ (last_command.encoding r.last ++ lease.encoding r.holds)) (text_length r.name)
    (4 + (last_length r.last + 4)) (length_text r.name)
    (length_two (word_bytes r.number) (last_command.encoding r.last ++ lease.encoding r.holds) 4 (last_length r.last + 4)
    (length_word r.number)
    (length_two (last_command.encoding r.last) (lease.encoding r.holds) (last_length r.last) 4 (length_last r.last) (length_word _)))
    ∙ omega arith

length_count : (c : WorkflowCount) → length_of count c ≡ count_length c
length_count c =
    length_two (text_bytes c.repo) (text_bytes c.path ++ word_bytes c.runs) (text_length c.repo) (text_length c.path + 4) (length_text c.repo)
    (length_two (text_bytes c.path) (word_bytes c.runs) (text_length c.path) 4 (length_text c.path) (length_word c.runs))
    ∙ omega arith

length_forgotten : (f : ForgottenRuns) → length_of forgotten f ≡ forgotten_length f
length_forgotten f =
    let counts = length_counted count.encoding count_length f.counts length_count in
    let deliveries : length (flat_map text_bytes f.deliveries) ≡ sum_by text_length f.deliveries =
    length-flat_map text_bytes f.deliveries ∙ sum_same (λ d. length (text_bytes d)) text_length f.deliveries length_text in
    length_two (word_bytes f.through) _ 4 ((4 + sum_by count_length f.counts) + sum_by text_length f.deliveries) (length_word f.through)
    (length_two (word_bytes (length f.counts) ++ flat_map count.encoding f.counts) (flat_map text_bytes f.deliveries)
    (4 + sum_by count_length f.counts) (sum_by text_length f.deliveries) counts deliveries)
    ∙ omega arith

pub length_table : (t : TableParts) → length_of table t ≡ table_length t
length_table t =
    let runs = length_counted run.encoding run_length t.runs length_run in
    let runners = length_counted runner.encoding runner_length t.runners length_runner in
    length_two (word_bytes t.last_lease) _ 4
    (forgotten_length t.forgotten + ((4 + sum_by run_length t.runs) + (4 + sum_by runner_length t.runners)))
    (length_word t.last_lease)
    (length_two (forgotten.encoding t.forgotten) _ (forgotten_length t.forgotten)
    ((4 + sum_by run_length t.runs) + (4 + sum_by runner_length t.runners)) (length_forgotten t.forgotten)
    (length_two (word_bytes (length t.runs) ++ flat_map run.encoding t.runs)
    (word_bytes (length t.runners) ++ flat_map runner.encoding t.runners)
    (4 + sum_by run_length t.runs) (4 + sum_by runner_length t.runners) runs runners))
    ∙ omega arith

-- ---- the runs and the runners of a table, whose sizes it keeps

pub run_sizes : (runs : List RunState) → sum_by run_size runs ≡ sum_by run_length (map stored_run runs)
run_sizes runs = sym (sum_seen run_length stored_run runs)

same_last : (l : LastCommand) → last_size l ≡ last_length (stored_last l)
same_last (kept_last.Claim claim given.Nothing) = refl
same_last (kept_last.Claim claim (given.Lease kept)) = omega arith
same_last (kept_last.Done report) = refl

same_size : (r : RunnerState) → runner_size r ≡ runner_length (stored_runner r)
same_size r = let one = same_last r.last in omega (arith, one)

pub runner_sizes : (runners : List RunnerState) → sum_by runner_size runners ≡ sum_by runner_length (map stored_runner runners)
runner_sizes runners =
    sum_same runner_size (λ (r : RunnerState). runner_length (stored_runner r)) runners same_size ∙ sym (sum_seen runner_length stored_runner runners)
