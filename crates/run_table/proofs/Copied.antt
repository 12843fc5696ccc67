-- If a reply holds a text and the command is no claim, the table is unchanged. An answer that leaves the table
-- unchanged and holds no text is a reply without one.
use Rattle.std.specs.Prelude.{◌≡◌, true, false, List, ℕ, IsOk, OnErr, Option, Some, None, Result, Ok, Err, refl}
use Rattle.std.specs.Option.{option_map_or}
use Rattle.std.proofs.Common.{inl, inr, ap, sym, ◌∙◌}
use Rattle.std.proofs.lemmas.Bool.{cases_Bool, not-true}
use Rattle.wf_value.specs.declared.code.Code.TheVariants.{LeaseNotHeld, NoRunner}
use Rattle.wf_value.specs.declared.refusal.Refusal.{Refusal}
use Rattle.wf_value.proofs.PassedOn.{same_Ok}
use Rattle.run_plan.specs.ReplyText.{carries_text}
use Rattle.run_plan.specs.declared.command.Claim.{Claim as Claimed}
use Rattle.run_plan.specs.declared.command.Command.{Command}
use Rattle.run_plan.specs.declared.command.Command.TheVariants as command
use Rattle.run_plan.specs.declared.reply.Reply.{Reply}
use Rattle.table_model.specs.inner.Claims.{is_claim}
use Rattle.table_model.specs.TableState.{Step, TableState, runner_named}
use Rattle.table_model.specs.Step.{admission_answer, admitting, beat_answer, cancel_answer, cancelling, claim_answer, claiming, fetch_answer}
use Rattle.table_model.specs.Step.{read_only_reply as answer_of, is_allocation_free, look_answer, losing, lost, refused, released, report_answer, reporting}
use Rattle.table_model.specs.Step.{discharge_answer, discharging, forget_answer, forgetting, rerun_answer, rerunning, step, stepped, unchanged}

abbrev Stays : TableState → Step → Type 0
Stays t s = carries_text s.reply ≡ true → s.table ≡ t

read_only_reply : (t : TableState) (answer : Option Reply) (change : Step) → carries_text change.reply ≡ false
    → Stays t (option_map_or (unchanged t) answer change)
read_only_reply t (Some reply) change plain text = refl
read_only_reply t None change plain text = absurd (cc (sym plain ∙ text))

lost_stays : (t : TableState) (name : List ℕ) → Stays t (lost t name)
lost_stays t name =
    elim (runner_named t.runners name) as
    (λ o. Stays t (option_map_or (λ runner. option_map_or (losing t (released runner)) runner.holds (unchanged t (refused LeaseNotHeld))) o
    (unchanged t (refused NoRunner)))) [
      | None ↦ λ text. refl
      | Some runner ↦ elim (runner.holds) as
          (λ h. Stays t (option_map_or (losing t (released runner)) h (unchanged t (refused LeaseNotHeld)))) [
            | None ↦ λ text. refl
            | Some lease ↦ λ text. absurd (cc text)
          ]
    ]

text_stays : (t : TableState) (c : Command) → is_claim c ≡ false → Stays t (stepped t c)
text_stays t (command.Admit event) other = read_only_reply t (admission_answer t event) (admitting t event) refl
text_stays t (command.Claim claim) other = absurd (cc other)
text_stays t (command.Done report) other = read_only_reply t (report_answer t report) (reporting t report) refl
text_stays t (command.Beat beat) other = λ text. refl
text_stays t (command.Cancel id) other = read_only_reply t (cancel_answer t id) (cancelling t id) refl
text_stays t (command.Lost name) other = lost_stays t name
text_stays t (command.Fetch id) other = λ text. refl
text_stays t (command.Look id) other = λ text. refl
text_stays t (command.Rerun requested) other = read_only_reply t (rerun_answer t requested) (rerunning t requested) refl
text_stays t (command.Forget id) other = read_only_reply t (forget_answer t id) (forgetting t id) refl
text_stays t (command.Discharge name) other = read_only_reply t (discharge_answer t name) (discharging t name) refl

-- If the reply cannot be copied, it holds a text.
pub copy_refused : {T : Type 0} (t next : TableState) (reply : Reply) (c : Command) (r : Result T Refusal) → is_claim c ≡ false
    → ◌≡◌ {A = Result (TableState × Reply) Refusal} (Ok (step t c)) (Ok (next, reply)) → (carries_text reply ≡ false → IsOk r)
    → OnErr r (next ≡ t)
copy_refused t next reply c (Ok x) other gave answers = tt
copy_refused t next reply c (Err e) other gave answers =
    let is = same_Ok (step t c) (next, reply) gave in
    let table : (stepped t c).table ≡ next = ap (λ (p : TableState × Reply). p.0) is in
    let lease_reply : (stepped t c).reply ≡ reply = ap (λ (p : TableState × Reply). p.1) is in
    elim (cases_Bool (carries_text reply)) [
      | inl text ↦ sym table ∙ text_stays t c other (ap carries_text lease_reply ∙ text)
      | inr plain ↦ absurd (cc (answers plain))
    ]

pub no_claim : (c : Command) → ((claim : Claimed) → c ≡ command.Claim claim → ⊥) → is_claim c ≡ false
no_claim (command.Claim claim) other = absurd (other claim refl)
no_claim (command.Admit event) other = refl
no_claim (command.Done report) other = refl
no_claim (command.Beat beat) other = refl
no_claim (command.Cancel id) other = refl
no_claim (command.Lost name) other = refl
no_claim (command.Fetch id) other = refl
no_claim (command.Look id) other = refl
no_claim (command.Rerun requested) other = refl
no_claim (command.Forget id) other = refl
no_claim (command.Discharge name) other = refl

-- ---- replies without a text

abbrev IsPlain : Step → Type 0
IsPlain s = carries_text s.reply ≡ false

plain_answer : (t : TableState) (answer : Option Reply) (change : Step) → is_allocation_free answer ≡ true
    → IsPlain (option_map_or (unchanged t) answer change)
plain_answer t (Some reply) change free = not-true (carries_text reply) free
plain_answer t None change free = absurd (cc free)

lost_plain : (t : TableState) (name : List ℕ) → IsPlain (lost t name)
lost_plain t name =
    elim (runner_named t.runners name) as
    (λ o. IsPlain (option_map_or (λ runner. option_map_or (losing t (released runner)) runner.holds (unchanged t (refused LeaseNotHeld))) o
    (unchanged t (refused NoRunner)))) [
      | None ↦ refl
      | Some runner ↦ elim (runner.holds) as
          (λ h. IsPlain (option_map_or (losing t (released runner)) h (unchanged t (refused LeaseNotHeld)))) [
            | None ↦ refl
            | Some lease ↦ refl
          ]
    ]

free_plain : (t : TableState) (c : Command) → is_allocation_free (answer_of t c) ≡ true → IsPlain (stepped t c)
free_plain t (command.Admit event) free = plain_answer t (admission_answer t event) (admitting t event) free
free_plain t (command.Claim claim) free = plain_answer t (claim_answer t claim) (claiming t claim) free
free_plain t (command.Done report) free = plain_answer t (report_answer t report) (reporting t report) free
free_plain t (command.Beat beat) free = not-true (carries_text (beat_answer t beat)) free
free_plain t (command.Cancel id) free = plain_answer t (cancel_answer t id) (cancelling t id) free
free_plain t (command.Lost name) free = lost_plain t name
free_plain t (command.Fetch id) free = not-true (carries_text (fetch_answer t id)) free
free_plain t (command.Look id) free = not-true (carries_text (look_answer t id)) free
free_plain t (command.Rerun requested) free = plain_answer t (rerun_answer t requested) (rerunning t requested) free
free_plain t (command.Forget id) free = plain_answer t (forget_answer t id) (forgetting t id) free
free_plain t (command.Discharge name) free = plain_answer t (discharge_answer t name) (discharging t name) free

-- Such a reply can be copied.
pub copied_free : {T : Type 0} (t next : TableState) (reply : Reply) (c : Command) (r : Result T Refusal)
    → ◌≡◌ {A = Result (TableState × Reply) Refusal} (Ok (step t c)) (Ok (next, reply)) → (carries_text reply ≡ false → IsOk r)
    → is_allocation_free (answer_of t c) ≡ true → IsOk r
copied_free t next reply c r gave answers free =
    let lease_reply : (stepped t c).reply ≡ reply = ap (λ (p : TableState × Reply). p.1) (same_Ok (step t c) (next, reply) gave) in
    answers (ap carries_text (sym lease_reply) ∙ free_plain t c free)
