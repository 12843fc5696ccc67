-- What is answered from the table as it is.
use Rattle.std.specs.Prelude.{◌≡◌, ◌+◌, ℕ, ◌&&◌, Bool, true, false, not, nat_eq, is_some, Option, Some, None, option_map, if◌then◌else◌, refl}
use Rattle.std.proofs.Common.{sym, ap, subst, ◌∙◌, inl, inr, arith}
use Rattle.std.proofs.lemmas.Bool.Decides.{nat_tests}
use Rattle.std.proofs.lemmas.Option.{same_Some}
use Rattle.std.specs.Option.{option_or, option_map_or}
use Rattle.wf_value.specs.declared.code.Code.{Code}
use Rattle.wf_value.specs.declared.code.Code.TheVariants.{LeaseNotHeld, NoRunner}
use Rattle.wf_value.specs.declared.refusal.Refusal.{Refusal}
use Rattle.wf_value.specs.declared.refusal.Refusal.TheVariants.{Numbered, Turn}
use Rattle.run_plan.specs.ReplyText.{carries_text}
use Rattle.run_plan.specs.LastCommand.{is_last_claim, is_last_report, kept_reply}
use Rattle.run_plan.specs.declared.command.Attempt.{Attempt}
use Rattle.run_plan.specs.declared.command.Beat.{Beat}
use Rattle.run_plan.specs.declared.command.Claim.{Claim}
use Rattle.run_plan.specs.declared.command.Command.{Command}
use Rattle.run_plan.specs.declared.command.Command.TheVariants as command
use Rattle.run_plan.specs.declared.command.Done.{Done}
use Rattle.run_plan.specs.declared.last_command.LastCommand.{LastCommand}
use Rattle.run_plan.specs.declared.last_command.LastCommand.TheVariants as last
use Rattle.run_plan.specs.declared.reply.Reply.{Reply}
use Rattle.run_plan.specs.declared.reply.Reply.TheVariants as reply
use Rattle.definitions.specs.SmallText.{Admitted}
use Rattle.wf_value.specs.declared.code.Code.TheVariants as code
use Rattle.table_model.specs.Runs.{RunState}
use Rattle.table_model.specs.declared.phases.RunPhase.{RunPhase}
use Rattle.table_model.specs.declared.phases.RunPhase.TheVariants as phase
use Rattle.table_model.specs.declared.sites.LegSite.{LegSite}
use Rattle.table_model.specs.Fitting.{first_fit, is_lease_stopping}
use Rattle.table_model.specs.TableState.{answer_by_number, holds_lease, holds_this, number_refusal, runner_named}
use Rattle.table_model.specs.Step.{admitting, admission_answer, answer_of_attempt, answer_of_next, answer_of_run, beat_answer, cancel_answer, cancelling, claim_answer, claiming, fetch_answer, is_allocation_free, lease_answer, leasing, look_answer, losing, read_only_reply, refused, released, report_answer, reporting, rerun_answer, rerunning, serving_nothing, stepped, unchanged}
use Rattle.table_model.specs.Step.{discharge_answer, discharging, forget_answer, forgettable, forgetting, is_full}
use Rattle.table_model.specs.TableState.{RunnerState, Step, TableState, run_of_delivery, run_with}
use Rattle.step_laws.specs.Texts.{CarriesText, IsAnsweredAnyway}

-- ---- an answer from the table, or a change of it

from_table : (o : Option Reply) (t : TableState) (s : Step) (r : Reply) → (option_map_or (unchanged t) o s).reply ≡ r → (s.reply ≡ r → ⊥)
    → o ≡ Some r
from_table None t s r is never = absurd (never is)
from_table (Some x) t s r is never = ap (λ (y : Reply). Some y) is

free_of : (o : Option Reply) (r : Reply) → carries_text r ≡ false → o ≡ Some r → is_allocation_free o ≡ true
free_of o r e is = ap is_allocation_free is ∙ ap not e

claiming_is_no_refusal : (t : TableState) (claim : Claim) (o : Option LegSite) (e : Refusal)
    → (option_map_or (leasing t claim) o (serving_nothing t claim)).reply ≡ reply.Refused e → ⊥
claiming_is_no_refusal t claim None e is = cc
claiming_is_no_refusal t claim (Some p) e is = cc

-- a runner that holds no lease, or one
held_refused : (t : TableState) (runner : RunnerState) (h : Option ℕ) (e : Refusal)
    → (option_map_or (losing t (released runner)) h (unchanged t (refused LeaseNotHeld))).reply ≡ reply.Refused e
    → (if is_some h then None else Some (refused LeaseNotHeld)) ≡ Some (reply.Refused e)
held_refused t runner None e is = ap (λ (y : Reply). Some y) is
held_refused t runner (Some lease) e is = absurd (cc)

-- a known runner, or none of that name
loss_refused : (t : TableState) (o : Option RunnerState) (e : Refusal)
    → (option_map_or (λ (runner : RunnerState). option_map_or (losing t (released runner)) runner.holds (unchanged t (refused LeaseNotHeld))) o
    (unchanged t (refused NoRunner))).reply ≡ reply.Refused e
    → option_map_or (λ (runner : RunnerState). if is_some runner.holds then None else Some (refused LeaseNotHeld)) o (Some (refused NoRunner))
    ≡ Some (reply.Refused e)
loss_refused t None e is = ap (λ (y : Reply). Some y) is
loss_refused t (Some runner) e is = held_refused t runner runner.holds e is

-- a `forget` is not refused
forgot_told : (t : TableState) (id : ℕ) (b : Bool) (e : Refusal)
    → (option_map_or (unchanged t) (if b then Some (reply.Forgotten t.forgotten.through) else None) (forgetting t id)).reply
    ≡ reply.Refused e → ⊥
forgot_told t id true e is = cc
forgot_told t id false e is = cc

pub refused_from_table : (t : TableState) (c : Command) (e : Refusal) → (stepped t c).reply ≡ reply.Refused e
    → read_only_reply t c ≡ Some (reply.Refused e)
refused_from_table t (command.Admit event) e is = from_table (admission_answer t event) t (admitting t event) _ is (λ h. cc)
refused_from_table t (command.Claim claim) e is =
    from_table (claim_answer t claim) t (claiming t claim) _ is (claiming_is_no_refusal t claim (first_fit claim.labels t.runs) e)
refused_from_table t (command.Done report) e is = from_table (report_answer t report) t (reporting t report) _ is (λ h. cc)
refused_from_table t (command.Beat beat) e is = ap (λ (y : Reply). Some y) is
refused_from_table t (command.Cancel id) e is = from_table (cancel_answer t id) t (cancelling t id) _ is (λ h. cc)
refused_from_table t (command.Lost name) e is = loss_refused t (runner_named t.runners name) e is
refused_from_table t (command.Fetch id) e is = ap (λ (y : Reply). Some y) is
refused_from_table t (command.Look id) e is = ap (λ (y : Reply). Some y) is
refused_from_table t (command.Rerun requested) e is = from_table (rerun_answer t requested) t (rerunning t requested) _ is (λ h. cc)
refused_from_table t (command.Forget id) e is = absurd (forgot_told t id (nat_eq (forgettable t id) 0) e is)
refused_from_table t (command.Discharge name) e is = from_table (discharge_answer t name) t (discharging t name) _ is (λ h. cc)

pub numbered_anyway : (t : TableState) (c : Command) (code : Code) → (stepped t c).reply ≡ refused code → IsAnsweredAnyway t c
numbered_anyway t c code is = free_of (read_only_reply t c) (refused code) refl (refused_from_table t c (Numbered code) is)

pub turn_anyway : (t : TableState) (c : Command) (last : ℕ) → (stepped t c).reply ≡ reply.Refused (Turn last) → IsAnsweredAnyway t c
turn_anyway t c last is = free_of (read_only_reply t c) (reply.Refused (Turn last)) refl (refused_from_table t c (Turn last) is)

-- ---- beats

told : (stopping : Bool) → carries_text (if stopping then reply.Stop else reply.GoOn) ≡ false
told true = refl
told false = refl

told_if : (holds stopping : Bool)
    → carries_text (if holds then (if stopping then reply.Stop else reply.GoOn) else refused LeaseNotHeld) ≡ false
told_if true stopping = told stopping
told_if false stopping = refl

beat_of : (t : TableState) (beat : Beat) (o : Option RunnerState)
    → carries_text (option_map_or (λ (runner : RunnerState).
    if holds_this beat.lease (Some runner)
    then (if is_lease_stopping t.runs beat.lease then reply.Stop else reply.GoOn)
    else refused LeaseNotHeld) o (refused NoRunner)) ≡ false
beat_of t beat None = refl
beat_of t beat (Some runner) = told_if (holds_this beat.lease (Some runner)) (is_lease_stopping t.runs beat.lease)

pub beat_anyway : (t : TableState) (beat : Beat) → IsAnsweredAnyway t (command.Beat beat)
beat_anyway t beat = ap not (beat_of t beat (runner_named t.runners beat.runner))

-- ---- what is known already

pub known_anyway : (t : TableState) (event : Admitted) (run : ℕ) → run_of_delivery t event.delivery ≡ Some run
    → IsAnsweredAnyway t (command.Admit event)
known_anyway t event run is =
    ap (λ (known : Option ℕ). is_allocation_free (option_or (option_map (λ (id : ℕ). reply.Created id) known)
    (if is_full t then Some (refused code.LastCounter) else None))) is

pub cancel_anyway : (t : TableState) (id : ℕ) (x : RunState) → run_with t id ≡ Some x → x.phase ≡ phase.Live → x.stopping ≡ true
    → IsAnsweredAnyway t (command.Cancel id)
cancel_anyway t id x at live stopping =
    ap (λ (o : Option RunState). is_allocation_free (option_map_or (λ (run : RunState). answer_of_run run.phase run.stopping) o
    (Some (refused code.NoRun)))) at
    ∙ ap (λ (p : RunPhase). is_allocation_free (answer_of_run p x.stopping)) live
    ∙ ap (λ (b : Bool). is_allocation_free (answer_of_run phase.Live b)) stopping

pub rerun_anyway : (t : TableState) (a : Attempt) (x : RunState) → run_with t a.run ≡ Some x → x.attempt ≡ a.attempt
    → IsAnsweredAnyway t (command.Rerun a)
rerun_anyway t a x at same =
    let present : nat_eq a.attempt x.attempt ≡ true = grind (arith, nat_tests) in
    ap (λ (o : Option RunState). is_allocation_free (option_map_or (λ (run : RunState). answer_of_attempt run a) o
    (Some (refused code.NoRun)))) at
    ∙ ap (λ (b : Bool). is_allocation_free (if b then Some (reply.Again a)
    else (if nat_eq a.attempt (x.attempt + 1) then answer_of_next x else Some (reply.Refused (Turn x.attempt))))) present

pub forget_anyway : (t : TableState) (id : ℕ) → forgettable t id ≡ 0 → IsAnsweredAnyway t (command.Forget id)
forget_anyway t id none =
    let found : nat_eq (forgettable t id) 0 ≡ true = ap (λ n. nat_eq n 0) none in
    ap (λ (b : Bool). is_allocation_free (if b then Some (reply.Forgotten t.forgotten.through) else None)) found

-- ---- a runner's last command again

by_number : (o : Option RunnerState) (x : RunnerState) (n : ℕ) (same : LastCommand → Bool) (rest : Option Reply) → o ≡ Some x
    → x.number ≡ n → same x.last ≡ true → option_or (answer_by_number o n same) rest ≡ Some (kept_reply x.last)
by_number o x n same rest is number again =
    let numbered : nat_eq x.number n ≡ true = grind (arith, nat_tests) in
    let repeated : (nat_eq x.number n && same x.last) ≡ true = ap (λ (b : Bool). b && same x.last) numbered ∙ again in
    ap (λ (r : Option RunnerState). option_or (answer_by_number r n same) rest) is
    ∙ ap (λ (b : Bool). option_or (if b then Some (kept_reply x.last) else number_refusal x.number n) rest) repeated

pub claim_anyway : (t : TableState) (claim : Claim) (x : RunnerState) → runner_named t.runners claim.runner ≡ Some x
    → x.number ≡ claim.number → is_last_claim claim x.last ≡ true → (stepped t (command.Claim claim)).reply ≡ reply.Nothing
    → IsAnsweredAnyway t (command.Claim claim)
claim_anyway t claim x is number again nothing =
    let rest = if holds_lease (runner_named t.runners claim.runner) then Some (refused code.HasLease) else lease_answer t claim in
    let kept : claim_answer t claim ≡ Some (kept_reply x.last) =
    by_number (runner_named t.runners claim.runner) x claim.number (is_last_claim claim) rest is number again in
    let told : (stepped t (command.Claim claim)).reply ≡ kept_reply x.last =
    ap (λ (o : Option Reply). (option_map_or (unchanged t) o (claiming t claim)).reply) kept in
    free_of (claim_answer t claim) (kept_reply x.last) (ap carries_text (sym told ∙ nothing)) kept

kept_ok : (l : LastCommand) (report : Done) → is_last_report report l ≡ true → carries_text (kept_reply l) ≡ false
kept_ok (last.Claim claim given) report again = absurd (cc)
kept_ok (last.Done earlier) report again = refl

pub done_anyway : (t : TableState) (report : Done) (x : RunnerState) → runner_named t.runners report.runner ≡ Some x
    → x.number ≡ report.number → is_last_report report x.last ≡ true → IsAnsweredAnyway t (command.Done report)
done_anyway t report x is number again =
    let rest = if holds_this report.lease (runner_named t.runners report.runner) then None else Some (refused LeaseNotHeld) in
    let kept : report_answer t report ≡ Some (kept_reply x.last) =
    by_number (runner_named t.runners report.runner) x report.number (is_last_report report) rest is number again in
    free_of (report_answer t report) (kept_reply x.last) (kept_ok x.last report again) kept

-- ---- and nothing with a text

free_is_some : (o : Option Reply) → is_allocation_free o ≡ true → (r : Reply) × (o ≡ Some r) × (not (carries_text r) ≡ true)
free_is_some None free = absurd (cc)
free_is_some (Some r) free = (r, refl, free)

no_text : (r : Reply) → not (carries_text r) ≡ true → CarriesText r → ⊥
no_text r free (inl (l, is)) = let e = ap (λ (x : Reply). not (carries_text x)) is in cc
no_text r free (inr (inl (view, is))) = let e = ap (λ (x : Reply). not (carries_text x)) is in cc
no_text r free (inr (inr (body, is))) = let e = ap (λ (x : Reply). not (carries_text x)) is in cc

held_told : (t : TableState) (runner : RunnerState) (h : Option ℕ) (r : Reply)
    → (if is_some h then None else Some (refused LeaseNotHeld)) ≡ Some r
    → (option_map_or (losing t (released runner)) h (unchanged t (refused LeaseNotHeld))).reply ≡ r
held_told t runner None r is = same_Some (refused LeaseNotHeld) r is
held_told t runner (Some lease) r is = absurd (cc)

loss_told : (t : TableState) (o : Option RunnerState) (r : Reply)
    → option_map_or (λ (runner : RunnerState). if is_some runner.holds then None else Some (refused LeaseNotHeld)) o (Some (refused NoRunner))
    ≡ Some r
    → (option_map_or (λ (runner : RunnerState). option_map_or (losing t (released runner)) runner.holds (unchanged t (refused LeaseNotHeld))) o
    (unchanged t (refused NoRunner))).reply ≡ r
loss_told t None r is = same_Some (refused NoRunner) r is
loss_told t (Some runner) r is = held_told t runner runner.holds r is

told_by : (t : TableState) (o : Option Reply) (s : Step) (r : Reply) → o ≡ Some r → (option_map_or (unchanged t) o s).reply ≡ r
told_by t o s r is = ap (λ (x : Option Reply). (option_map_or (unchanged t) x s).reply) is

table_told : (t : TableState) (c : Command) (r : Reply) → read_only_reply t c ≡ Some r → (stepped t c).reply ≡ r
table_told t (command.Admit event) r is = told_by t (admission_answer t event) (admitting t event) r is
table_told t (command.Claim claim) r is = told_by t (claim_answer t claim) (claiming t claim) r is
table_told t (command.Done report) r is = told_by t (report_answer t report) (reporting t report) r is
table_told t (command.Beat beat) r is = same_Some (beat_answer t beat) r is
table_told t (command.Cancel id) r is = told_by t (cancel_answer t id) (cancelling t id) r is
table_told t (command.Lost name) r is = loss_told t (runner_named t.runners name) r is
table_told t (command.Fetch id) r is = same_Some (fetch_answer t id) r is
table_told t (command.Look id) r is = same_Some (look_answer t id) r is
table_told t (command.Rerun requested) r is = told_by t (rerun_answer t requested) (rerunning t requested) r is
table_told t (command.Forget id) r is = told_by t (forget_answer t id) (forgetting t id) r is
table_told t (command.Discharge name) r is = told_by t (discharge_answer t name) (discharging t name) r is

pub anyway_without_text : (t : TableState) (c : Command) → IsAnsweredAnyway t c → CarriesText (stepped t c).reply → ⊥
anyway_without_text t c free text =
    let found = free_is_some (read_only_reply t c) free in
    no_text found.0 found.2 (subst CarriesText (table_told t c found.0 found.1) text)
