-- What is kept about a runner does not change until a later command of it is carried out or it is discharged: its last number, the command,
-- and the reply to it. A lease of a forgotten run is no longer the reply.
use Rattle.std.proofs.Common.{◌≡◌, ℕ, ◌+◌, ◌<◌, ◌≤◌, Bool, true, false, List, [], ◌∷◌, map, not, refl, sym, ◌∙◌, ap, subst}
use Rattle.std.proofs.Common.{arith, cond, inl, inr}
use Rattle.std.specs.Prelude.{Option, Some, None, option_map, if◌then◌else◌, nat_eq, nat_le, nat_lt, ◌&&◌}
use Rattle.std.specs.Option.{option_map_or, option_or}
use Rattle.std.specs.Str.{bytes_eq}
use Rattle.std.proofs.lemmas.Bool.{and_parts, cases_eq, eq-eqb, eqb-true, le-leb, leb-true, lt-ltb, ltb-false, ltb-true, true≢false}
use Rattle.std.proofs.lemmas.List.{length-take-le}
use Rattle.std.proofs.lemmas.Slice.Eq.{bytes_eq-Decides}
use Rattle.std.proofs.lemmas.Option.{same_Some}
use Rattle.wf_value.specs.declared.code.Code.TheVariants.{HasLease, LastCounter, LeaseNotHeld, NoRunner}
use Rattle.wf_value.specs.declared.refusal.Refusal.{Refusal}
use Rattle.wf_value.specs.declared.refusal.Refusal.TheVariants.{Numbered, Turn}
use Rattle.run_plan.proofs.SameCommands.{claims_decide, reports_decide}
use Rattle.run_plan.specs.LastCommand.{is_last_claim, is_last_report, kept_reply}
use Rattle.run_plan.specs.declared.command.Claim.{Claim as Claimed}
use Rattle.run_plan.specs.declared.command.Command.{Command}
use Rattle.run_plan.specs.declared.command.Command.TheVariants as command
use Rattle.run_plan.specs.declared.command.Done.{Done as Reported}
use Rattle.run_plan.specs.declared.last_command.ClaimReply.TheVariants as given
use Rattle.run_plan.specs.declared.last_command.LastCommand.{LastCommand}
use Rattle.run_plan.specs.declared.last_command.LastCommand.TheVariants as last
use Rattle.run_plan.specs.declared.reply.Reply.{Reply}
use Rattle.run_plan.specs.declared.reply.Reply.TheVariants as reply
use Rattle.table_model.specs.Fitting.{first_fit}
use Rattle.table_model.specs.Step.{after, admission_answer, admitting, cancel_answer, cancelling, claim_answer, claiming, claiming_runner}
use Rattle.table_model.specs.Forgotten.{ForgottenRuns}
use Rattle.table_model.specs.TableState.{Step, RunnerState, TableState, is_named}
use Rattle.table_model.specs.Step.{discharge_answer, discharging, forgettable, forgot, last_through, runner_through, without}
use Rattle.table_model.specs.Step.{has_no_lease_left}
use Rattle.table_model.specs.Step.{kept_lease_at, lease_answer, lease_at, leasing, losing, lost, refused, released, report_answer, reporting}
use Rattle.table_model.specs.Step.{reporting_runner, outcome, rerun_answer, rerunning, serving_nothing, step, stepped, unchanged}
use Rattle.table_model.specs.TableState.{answer_by_number, holds_lease, holds_this, is_repeated, number_of, runner_named, number_refusal, with_runner}
use Rattle.table_model.proofs.Filters.{find_kept}
use Rattle.settling_laws.proofs.ForgetKeepsSound.{first_within}
use Rattle.run_table.proofs.RunnerPut.{found_new, found_other, has_the_name}
use Rattle.table_laws.specs.ExactlyOnce.{HasNumber, HaveNoDischarge, HaveNoLaterNumber, IsRefused}
use Rattle.table_laws.specs.Remembered.{IsNoDischarge, IsNoLaterNumber, reply_then, reply_without}
use Rattle.table_laws.proofs.ForgetSteps.{IsNoForget, forget_or_not, forgot_is}
use Rattle.table_laws.proofs.StepsStay.{forgotten_stays, through_rises, through_rises_on}

-- ---- what is kept

-- the runner's last command has this number, passes the test, and keeps this reply
pub record HasKept (t : TableState) (name : List ℕ) (number : ℕ) (same : LastCommand → Bool) (kept : Reply) : Type 0 where
  pub runner : RunnerState
  pub found : runner_named t.runners name ≡ Some runner
  pub number_is : runner.number ≡ number
  pub passes : same runner.last ≡ true
  pub keeps : kept_reply runner.last ≡ kept

module _ (name : List ℕ) (number : ℕ) (same : LastCommand → Bool) (kept : Reply) where
  abbrev Has : TableState → Type 0
  Has t = HasKept t name number same kept

  has_runners : (t next : TableState) → next.runners ≡ t.runners → Has t → Has next
  has_runners t next is has = record {
    runner = has.runner;
    found = ap (λ (l : List RunnerState). runner_named l name) is ∙ has.found;
    number_is = has.number_is;
    passes = has.passes;
    keeps = has.keeps;
  }

  -- a runner is added or replaced
  has_beside : (t next : TableState) (new : RunnerState) → next.runners ≡ with_runner t.runners new
      → ((has : Has t) → name ≡ new.name → Has next) → Has t → Has next
  has_beside t next new is same_name has =
      elim (bytes_eq name new.name) as (λ b. bytes_eq name new.name ≡ b → Has next) [
        | true ↦ λ named. same_name has ((bytes_eq-Decides name new.name).0 named)
        | false ↦ λ other. record {
          runner = has.runner;
          found = ap (λ (l : List RunnerState). runner_named l name) is
              ∙ found_other t.runners new name (λ e. absurd (true≢false (sym ((bytes_eq-Decides name new.name).1 e) ∙ other)))
              ∙ has.found;
          number_is = has.number_is;
          passes = has.passes;
          keeps = has.keeps;
        }
      ] refl

  -- a runner with its next command
  is_numbered : (t next : TableState) (new : RunnerState) → next.runners ≡ with_runner t.runners new
      → new.number ≡ number_of (runner_named t.runners new.name) + 1 → (new.name ≡ name → new.number ≤ number) → Has t → Has next
  is_numbered t next new is numbered no_later has = has_beside t next new is (λ has named.
      let found : runner_named t.runners new.name ≡ Some has.runner = ap (runner_named t.runners) (sym named) ∙ has.found in
      let last : number_of (runner_named t.runners new.name) ≡ number = ap number_of found ∙ has.number_is in
      absurd (omega (arith, numbered, last, no_later (sym named)))) has

  -- a runner that loses its lease
  releasing : (t next : TableState) (lost_one : List ℕ) (runner : RunnerState) → runner_named t.runners lost_one ≡ Some runner
      → next.runners ≡ with_runner t.runners (released runner) → Has t → Has next
  releasing t next lost_one runner found is has =
      has_beside t next (released runner) is (λ has named.
      let same_one : has.runner ≡ runner = same_Some has.runner runner
      (sym has.found ∙ ap (runner_named t.runners) (named ∙ has_the_name t.runners lost_one runner found) ∙ found) in
      record {
        runner = released runner;
        found = ap (λ (l : List RunnerState). runner_named l name) is ∙ ap (runner_named (with_runner t.runners (released runner))) named
            ∙ found_new t.runners (released runner);
        number_is = ap (λ (x : RunnerState). x.number) (sym same_one) ∙ has.number_is;
        passes = ap (λ (x : RunnerState). same x.last) (sym same_one) ∙ has.passes;
        keeps = ap (λ (x : RunnerState). kept_reply x.last) (sym same_one) ∙ has.keeps;
      }) has

  answered : (t : TableState) (answer : Option Reply) (change : Step) → Has t → (answer ≡ None → Has change.table)
      → Has (option_map_or (unchanged t) answer change).table
  answered t None change has h = h refl
  answered t (Some given) change has h = has

  numbered_is : (o : Option RunnerState) (n : ℕ) (test : LastCommand → Bool) (others : Option Reply)
      → option_or (answer_by_number o n test) others ≡ None
      → n ≡ number_of o + 1
  numbered_is o n test others none =
      elim (option_map_or (is_repeated n test) o false) as
      (λ b. option_map_or (is_repeated n test) o false ≡ b
      → option_or (if b then option_map (λ (r : RunnerState). kept_reply r.last) o else number_refusal (number_of o) n) others ≡ None
      → n ≡ number_of o + 1) [
        | true ↦ λ is h. absurd (repeated o is h)
        | false ↦ λ is h. elim (nat_eq n (number_of o + 1)) as
            (λ b. nat_eq n (number_of o + 1) ≡ b → option_or (if b then None else Some (reply.Refused (Turn (number_of o)))) others ≡ None
            → n ≡ number_of o + 1) [
              | true ↦ λ at h. eqb-true n (number_of o + 1) at
              | false ↦ λ at h. cc
            ] refl h
      ] refl none
    where
      repeated : (o : Option RunnerState) → option_map_or (is_repeated n test) o false ≡ true
          → option_or (option_map (λ (r : RunnerState). kept_reply r.last) o) others ≡ None → ⊥
      repeated None is h = cc is
      repeated (Some x) is h = cc h

  has_claim : (t : TableState) (claim : Claimed) → (claim.runner ≡ name → claim.number ≤ number) → claim_answer t claim ≡ None → Has t
      → Has (claiming t claim).table
  has_claim t claim no_later none has =
      let numbered = numbered_is (runner_named t.runners claim.runner) claim.number (is_last_claim claim)
      (if holds_lease (runner_named t.runners claim.runner) then Some (refused HasLease) else lease_answer t claim) none in
      elim (first_fit claim.labels t.runs) as (λ o. Has (option_map_or (leasing t claim) o (serving_nothing t claim)).table) [
        | None ↦ is_numbered t (serving_nothing t claim).table (claiming_runner claim None given.Nothing) refl numbered no_later has
        | Some p ↦ is_numbered t (leasing t claim p).table
            (claiming_runner claim (Some (t.last_lease + 1)) (given.Lease (kept_lease_at t.runs p (t.last_lease + 1)))) refl numbered no_later has
      ]

  has_report : (t : TableState) (report : Reported) → (report.runner ≡ name → report.number ≤ number)
      → report_answer t report ≡ None → Has t
      → Has (reporting t report).table
  has_report t report no_later none has =
      let numbered = numbered_is (runner_named t.runners report.runner) report.number (is_last_report report)
      (if holds_this report.lease (runner_named t.runners report.runner) then None else Some (refused LeaseNotHeld)) none in
      is_numbered t (reporting t report).table (reporting_runner report) refl numbered no_later has

  has_lost : (t : TableState) (who : List ℕ) → Has t → Has (lost t who).table
  has_lost t who has =
      elim (runner_named t.runners who) as
      (λ o. runner_named t.runners who ≡ o
      → Has (option_map_or (λ runner. option_map_or (losing t (released runner)) runner.holds (unchanged t (refused LeaseNotHeld))) o
      (unchanged t (refused NoRunner))).table) [
        | None ↦ λ is. has
        | Some runner ↦ λ is. elim (runner.holds) as
            (λ h. Has (option_map_or (losing t (released runner)) h (unchanged t (refused LeaseNotHeld))).table) [
              | None ↦ has
              | Some lease ↦ releasing t (losing t (released runner) lease).table who runner is refl has
            ]
      ] refl

  -- a claim that changes the table is not refused, and neither is a report
  claim_unrefused : (t : TableState) (claim : Claimed) → claim_answer t claim ≡ None → IsRefused (stepped t (command.Claim claim)).reply → ⊥
  claim_unrefused t claim none =
      subst (λ (o : Option Reply). IsRefused (option_map_or (unchanged t) o (claiming t claim)).reply → ⊥) (sym none)
      (elim (first_fit claim.labels t.runs) as
      (λ o. IsRefused (option_map_or (leasing t claim) o (serving_nothing t claim)).reply → ⊥) [
        | None ↦ λ is. cc is.1
        | Some p ↦ λ is. cc is.1
      ])

  report_unrefused : (t : TableState) (report : Reported) → report_answer t report ≡ None
      → IsRefused (stepped t (command.Done report)).reply → ⊥
  report_unrefused t report none =
      subst (λ (o : Option Reply). IsRefused (option_map_or (unchanged t) o (reporting t report)).reply → ⊥) (sym none) (λ is. cc is.1)

  at_most : (n : ℕ) → (number < n → ⊥) → n ≤ number
  at_most n no_more =
      elim (nat_lt number n) as (λ b. nat_lt number n ≡ b → n ≤ number) [
        | true ↦ λ is. absurd (no_more (ltb-true number n is))
        | false ↦ λ is. ltb-false number n is
      ] refl

  -- a runner is discharged
  has_discharge : (t : TableState) (who : List ℕ) → (who ≡ name → ⊥) → Has t → Has (discharging t who).table
  has_discharge t who other has = record {
    runner = has.runner;
    found = find_kept (is_named name) (λ x. not (is_named who x)) (λ x named. ap not (not_named x named)) t.runners ∙ has.found;
    number_is = has.number_is;
    passes = has.passes;
    keeps = has.keeps;
  }
    where
      not_named : (x : RunnerState) → is_named name x ≡ true → is_named who x ≡ false
      not_named x named =
          elim (is_named who x) as (λ b. is_named who x ≡ b → b ≡ false) [
            | true ↦ λ too.
                absurd (other (sym ((bytes_eq-Decides x.name who).0 too) ∙ (bytes_eq-Decides x.name name).0 named))
            | false ↦ λ isnt. refl
          ] refl

  discharge_unrefused : (t : TableState) (who : List ℕ) → discharge_answer t who ≡ None
      → IsRefused (stepped t (command.Discharge who)).reply → ⊥
  discharge_unrefused t who none =
      subst (λ (o : Option Reply). IsRefused (option_map_or (unchanged t) o (discharging t who)).reply → ⊥) (sym none) (λ is. cc is.1)

  -- a command that forgets no run
  kept_step : (t : TableState) (c : Command) → IsNoForget c → IsNoLaterNumber name number c (stepped t c).reply
      → IsNoDischarge name c (stepped t c).reply → Has t → Has (stepped t c).table
  kept_step t (command.Admit event) other no_later no_discharge has =
      answered t (admission_answer t event) (admitting t event) has (λ none. has_runners t (admitting t event).table refl has)
  kept_step t (command.Claim claim) other no_later no_discharge has =
      answered t (claim_answer t claim) (claiming t claim) has
      (λ none. has_claim t claim
      (λ own. at_most claim.number (λ more. claim_unrefused t claim none (no_later claim.number (own, refl) more))) none has)
  kept_step t (command.Done report) other no_later no_discharge has =
      answered t (report_answer t report) (reporting t report) has
      (λ none. has_report t report
      (λ own. at_most report.number (λ more. report_unrefused t report none (no_later report.number (own, refl) more))) none has)
  kept_step t (command.Beat beat) other no_later no_discharge has = has
  kept_step t (command.Cancel id) other no_later no_discharge has =
      answered t (cancel_answer t id) (cancelling t id) has (λ none. has_runners t (cancelling t id).table refl has)
  kept_step t (command.Lost who) other no_later no_discharge has = has_lost t who has
  kept_step t (command.Fetch id) other no_later no_discharge has = has
  kept_step t (command.Look id) other no_later no_discharge has = has
  kept_step t (command.Rerun requested) other no_later no_discharge has =
      answered t (rerun_answer t requested) (rerunning t requested) has (λ none. has_runners t (rerunning t requested).table refl has)
  kept_step t (command.Forget id) other no_later no_discharge has = absurd other
  kept_step t (command.Discharge who) other no_later no_discharge has =
      answered t (discharge_answer t who) (discharging t who) has
      (λ none. has_discharge t who
      (λ named. discharge_unrefused t who none (no_discharge (ap (λ w. command.Discharge w) named))) has)

  -- the same command again
  pub answer_again : (t : TableState) → Has t → answer_by_number (runner_named t.runners name) number same ≡ Some kept
  answer_again t has =
      let x = has.runner in
      let repeats : is_repeated number same x ≡ true =
      ap (λ (b : Bool). b && same x.last) (eq-eqb x.number number has.number_is) ∙ ap (λ (b : Bool). true && b) has.passes in
      ap (λ (o : Option RunnerState). answer_by_number o number same) has.found
      ∙ ap (λ (b : Bool). if b then Some (kept_reply x.last) else number_refusal x.number number) repeats
      ∙ ap (λ (r : Reply). Some r) has.keeps

-- ---- the reply once runs are forgotten

-- the test of a last command does not depend on the kept reply
abbrev pub IgnoresReply : (LastCommand → Bool) → Type 0
IgnoresReply same = (through : ℕ) (l : LastCommand) → same (last_through through l) ≡ same l

same_reply : (t next : TableState) (given : Reply) → next.forgotten.through ≡ t.forgotten.through → reply_then t next given ≡ given
same_reply t next given same =
    elim (nat_lt t.forgotten.through next.forgotten.through) as
    (λ b. nat_lt t.forgotten.through next.forgotten.through ≡ b
    → (if b then reply_without next.forgotten.through given else given) ≡ given) [
      | true ↦ λ is. absurd (omega (arith, same, ltb-true t.forgotten.through next.forgotten.through is))
      | false ↦ λ is. refl
    ] refl

other_reply : (t next : TableState) (given : Reply) → t.forgotten.through < next.forgotten.through
    → reply_then t next given ≡ reply_without next.forgotten.through given
other_reply t next given more =
    ap (λ (b : Bool). if b then reply_without next.forgotten.through given else given)
    (lt-ltb t.forgotten.through next.forgotten.through more)

reply_without_more : (a b : ℕ) (given : Reply) → a ≤ b → reply_without b (reply_without a given) ≡ reply_without b given
reply_without_more a b (reply.Lease lease) le =
    elim (nat_le lease.run a) as
    (λ x. nat_le lease.run a ≡ x
    → reply_without b (if x then reply.Nothing else reply.Lease lease) ≡ (if nat_le lease.run b then reply.Nothing else reply.Lease lease)) [
      | true ↦ λ is.
          let low = leb-true lease.run a is in
          sym (ap (λ (x : Bool). if x then reply.Nothing else reply.Lease lease) (le-leb lease.run b (omega (arith, low, le))))
      | false ↦ λ is. refl
    ] refl
reply_without_more a b given le = refl

-- in two steps
reply_then_on : (t mid last : TableState) (given : Reply) → t.forgotten.through ≤ mid.forgotten.through
    → mid.forgotten.through ≤ last.forgotten.through → reply_then mid last (reply_then t mid given) ≡ reply_then t last given
reply_then_on t mid last given first second =
    let a = t.forgotten.through in
    let b = mid.forgotten.through in
    let c = last.forgotten.through in
    elim (cases_eq b a) [
      | inl same ↦
          ap (reply_then mid last) (same_reply t mid given same)
          ∙ ap (λ n. if nat_lt n c then reply_without c given else given) same
      | inr less ↦
          let more : a < b = omega (arith, less, first) in
          ap (reply_then mid last) (other_reply t mid given more)
          ∙ elim (cases_eq c b) [
            | inl same ↦
                same_reply mid last (reply_without b given) same
                ∙ ap (λ n. reply_without n given) (sym same) ∙ sym (other_reply t last given (omega (arith, more, same)))
            | inr later ↦
                let still : b < c = omega (arith, later, second) in
                other_reply mid last (reply_without b given) still
                ∙ reply_without_more b c given second ∙ sym (other_reply t last given (omega (arith, more, still)))
          ]
    ]

named_through : (through : ℕ) (name : List ℕ) (runners : List RunnerState)
    → runner_named (map (runner_through through) runners) name ≡ option_map (runner_through through) (runner_named runners name)
named_through through name [] = refl
named_through through name (x ∷ xs) =
    elim (is_named name x) as
    (λ b. cond b (Some (runner_through through x)) (runner_named (map (runner_through through) xs) name)
    ≡ option_map (runner_through through) (cond b (Some x) (runner_named xs name))) [
      | true ↦ refl
      | false ↦ named_through through name xs
    ]

kept_through : (through : ℕ) (l : LastCommand) → kept_reply (last_through through l) ≡ reply_without through (kept_reply l)
kept_through through (last.Claim claim given.Nothing) = refl
kept_through through (last.Claim claim (given.Lease kept)) =
    elim (nat_le kept.lease_reply.run through) as
    (λ b. kept_reply (last.Claim claim (if b then given.Nothing else given.Lease kept))
    ≡ (if b then reply.Nothing else reply.Lease kept.lease_reply)) [ true ↦ refl | false ↦ refl ]
kept_through through (last.Done report) = refl

module _ (name : List ℕ) (number : ℕ) (same : LastCommand → Bool) (ignores : IgnoresReply same) where
  abbrev Keeps : Reply → TableState → Type 0
  Keeps kept t = HasKept t name number same kept

  as_kept : (t : TableState) (kept given : Reply) → given ≡ kept → Keeps given t → Keeps kept t
  as_kept t kept given is has = subst (λ r. Keeps r t) is has

  forgot_has : (t : TableState) (kept : Reply) (id : ℕ) → Keeps kept t → Keeps (reply_then t (forgot t id).table kept) (forgot t id).table
  forgot_has t kept id has =
      let k = forgettable t id in
      forgot_is (λ next. Keeps (reply_then t next kept) next) t id
      (λ none. as_kept t (reply_then t t kept) kept (sym (same_reply t t kept refl)) has)
      (λ some.
      let next = without k t in
      let through = next.forgotten.through in
      let taken = length-take-le k t.runs (first_within t id) in
      let more : t.forgotten.through < through = omega (arith, some, taken) in
      record {
        runner = runner_through through has.runner;
        found = named_through through name t.runners ∙ ap (option_map (runner_through through)) has.found;
        number_is = has.number_is;
        passes = ignores through has.runner.last ∙ has.passes;
        keeps = kept_through through has.runner.last ∙ ap (reply_without through) has.keeps ∙ sym (other_reply t next kept more);
      })

  pub has_step : (t : TableState) (kept : Reply) (c : Command) → IsNoLaterNumber name number c (stepped t c).reply
      → IsNoDischarge name c (stepped t c).reply → Keeps kept t → Keeps (reply_then t (stepped t c).table kept) (stepped t c).table
  has_step t kept c no_later no_discharge has =
      elim (forget_or_not c) [
        | inl forgets ↦
            subst (λ (d : Command). Keeps (reply_then t (stepped t d).table kept) (stepped t d).table) (sym forgets.1)
            (forgot_has t kept forgets.0 has)
        | inr other ↦
            let next = (stepped t c).table in
            as_kept next (reply_then t next kept) kept
            (sym (same_reply t next kept (ap (λ (f : ForgottenRuns). f.through) (forgotten_stays t c other))))
            (kept_step name number same kept t c other no_later no_discharge has)
      ]

  -- after more commands
  pub has_on : (t : TableState) (kept : Reply) (c : Command) (cs : List Command)
      → Keeps (reply_then (stepped t c).table (after (stepped t c).table cs) (reply_then t (stepped t c).table kept)) (after (stepped t c).table cs)
      → Keeps (reply_then t (after t (c ∷ cs)) kept) (after t (c ∷ cs))
  has_on t kept c cs has =
      let next = (stepped t c).table in
      let last = after next cs in
      as_kept last (reply_then t last kept) (reply_then next last (reply_then t next kept))
      (reply_then_on t next last kept (through_rises t c) (through_rises_on next cs)) has

  pub has_first : (t : TableState) (kept : Reply) → Keeps kept t → Keeps (reply_then t t kept) t
  has_first t kept has = as_kept t (reply_then t t kept) kept (sym (same_reply t t kept refl)) has

  pub has_after : (t : TableState) (kept : Reply) (cs : List Command) → HaveNoLaterNumber name number cs → HaveNoDischarge name cs
      → Keeps kept t → Keeps (reply_then t (after t cs) kept) (after t cs)
  has_after t kept [] no_later no_discharge has = has_first t kept has
  has_after t kept (c ∷ cs) no_later no_discharge has =
      let next = (stepped t c).table in
      has_on t kept c cs
      (has_after next (reply_then t next kept) cs no_later.1 no_discharge.1
      (has_step t kept c (λ n numbered later. absurd (omega (arith, no_later.0 n numbered, later))) (λ is. absurd (no_discharge.0 is)) has))

-- ---- what a command that is not refused leaves

-- for the runner that is added or replaced
put_has : (t next : TableState) (new : RunnerState) (same : LastCommand → Bool) (kept : Reply) → next.runners ≡ with_runner t.runners new
    → same new.last ≡ true → kept_reply new.last ≡ kept → HasKept next new.name new.number same kept
put_has t next new same kept is passes keeps = record {
  runner = new;
  found = ap (λ (l : List RunnerState). runner_named l new.name) is ∙ found_new t.runners new;
  number_is = refl;
  passes = passes;
  keeps = keeps;
}

-- what was already kept
repeated_has : (t : TableState) (name : List ℕ) (number : ℕ) (same : LastCommand → Bool) (x : RunnerState)
    → runner_named t.runners name ≡ Some x
    → is_repeated number same x ≡ true → HasKept t name number same (kept_reply x.last)
repeated_has t name number same x found is =
    let parts = and_parts (nat_eq x.number number) (same x.last) is in
    record {
      runner = x;
      found = found;
      number_is = eqb-true x.number number parts.0;
      passes = parts.1;
      keeps = refl;
    }

-- A numbered command is answered from what is kept, or is refused, or changes the table.
abbrev turned : TableState → Option RunnerState → Bool → ℕ → Option Reply → Step → Step
turned t o b number others change =
    option_map_or (unchanged t)
    (option_or (if b then option_map (λ (r : RunnerState). kept_reply r.last) o else number_refusal (number_of o) number) others) change

module _ (t : TableState) (name : List ℕ) (number : ℕ) (same : LastCommand → Bool) (others : Option Reply) (change : Step)
    (refuses : (r : Reply) → others ≡ Some r → IsRefused r)
    (changes : others ≡ None → HasKept change.table name number same change.reply) where
  others_has : (o : Option Reply) → others ≡ o → (IsRefused (option_map_or (unchanged t) o change).reply → ⊥)
      → HasKept (option_map_or (unchanged t) o change).table name number same (option_map_or (unchanged t) o change).reply
  others_has None is taken = changes is
  others_has (Some r) is taken = absurd (taken (refuses r is))

  first_has : (o : Option RunnerState) → runner_named t.runners name ≡ o → option_map_or (is_repeated number same) o false ≡ true
      → HasKept (turned t o true number others change).table name number same (turned t o true number others change).reply
  first_has None found is = cc is
  first_has (Some x) found is = repeated_has t name number same x found is

  pub taken_has : (IsRefused (option_map_or (unchanged t) (option_or (answer_by_number (runner_named t.runners name) number same) others)
      change).reply → ⊥)
      → HasKept (option_map_or (unchanged t) (option_or (answer_by_number (runner_named t.runners name) number same) others) change).table
      name number
      same (option_map_or (unchanged t) (option_or (answer_by_number (runner_named t.runners name) number same) others) change).reply
  taken_has taken =
      let o = runner_named t.runners name in
      elim (option_map_or (is_repeated number same) o false) as
      (λ b. option_map_or (is_repeated number same) o false ≡ b → (IsRefused (turned t o b number others change).reply → ⊥)
      → HasKept (turned t o b number others change).table name number same (turned t o b number others change).reply) [
        | true ↦ λ is h. first_has o refl is
        | false ↦ λ is h. elim (nat_eq number (number_of o + 1)) as
            (λ b. (IsRefused (option_map_or (unchanged t) (option_or (if b then None else Some (reply.Refused (Turn (number_of o)))) others)
            change).reply → ⊥)
            → HasKept (option_map_or (unchanged t) (option_or (if b then None else Some (reply.Refused (Turn (number_of o)))) others)
            change).table
            name number same (option_map_or (unchanged t) (option_or (if b then None else Some (reply.Refused (Turn (number_of o)))) others)
            change).reply) [
              | true ↦ λ k. others_has others refl k
              | false ↦ λ k. absurd (k (Turn (number_of o), refl))
            ] h
      ] refl taken

if_refused : (b : Bool) (e : Refusal) (r : Reply) → (if b then Some (reply.Refused e) else None) ≡ Some r → IsRefused r
if_refused true e r is = (e, cc is)
if_refused false e r is = cc is

claim_has : (t : TableState) (claim : Claimed) → (IsRefused (stepped t (command.Claim claim)).reply → ⊥)
    → HasKept (stepped t (command.Claim claim)).table claim.runner claim.number (is_last_claim claim)
    (stepped t (command.Claim claim)).reply
claim_has t claim taken =
    taken_has t claim.runner claim.number (is_last_claim claim) others (claiming t claim) refuses changes taken
  where
    others : Option Reply
    others = if holds_lease (runner_named t.runners claim.runner) then Some (refused HasLease) else lease_answer t claim

    refuses : (r : Reply) → others ≡ Some r → IsRefused r
    refuses r is =
        elim (holds_lease (runner_named t.runners claim.runner)) as
        (λ b. (if b then Some (refused HasLease) else lease_answer t claim) ≡ Some r → IsRefused r) [
          | true ↦ λ h. (Numbered HasLease, same_Some r (refused HasLease) (sym h))
          | false ↦ λ h. if_refused (has_no_lease_left t claim) (Numbered LastCounter) r h
        ] is

    changes : others ≡ None → HasKept (claiming t claim).table claim.runner claim.number (is_last_claim claim) (claiming t claim).reply
    changes none =
        elim (first_fit claim.labels t.runs) as
        (λ o. HasKept (option_map_or (leasing t claim) o (serving_nothing t claim)).table claim.runner claim.number (is_last_claim claim)
        (option_map_or (leasing t claim) o (serving_nothing t claim)).reply) [
          | None ↦ put_has t (serving_nothing t claim).table (claiming_runner claim None given.Nothing) (is_last_claim claim)
              reply.Nothing refl
              ((claims_decide claim claim).1 refl) refl
          | Some p ↦ (let lease = t.last_lease + 1 in
              put_has t (leasing t claim p).table (claiming_runner claim (Some lease) (given.Lease (kept_lease_at t.runs p lease)))
              (is_last_claim claim) (reply.Lease (lease_at t.runs p lease)) refl ((claims_decide claim claim).1 refl) refl)
        ]

report_has : (t : TableState) (report : Reported) → (IsRefused (stepped t (command.Done report)).reply → ⊥)
    → HasKept (stepped t (command.Done report)).table report.runner report.number (is_last_report report)
    (stepped t (command.Done report)).reply
report_has t report taken =
    taken_has t report.runner report.number (is_last_report report) others (reporting t report) refuses changes taken
  where
    others : Option Reply
    others = if holds_this report.lease (runner_named t.runners report.runner) then None else Some (refused LeaseNotHeld)

    refuses : (r : Reply) → others ≡ Some r → IsRefused r
    refuses r is =
        elim (holds_this report.lease (runner_named t.runners report.runner)) as
        (λ b. (if b then None else Some (refused LeaseNotHeld)) ≡ Some r → IsRefused r) [
          | true ↦ λ h. absurd (cc h)
          | false ↦ λ h. (Numbered LeaseNotHeld, same_Some r (refused LeaseNotHeld) (sym h))
        ] is

    changes : others ≡ None → HasKept (reporting t report).table report.runner report.number (is_last_report report)
        (reporting t report).reply
    changes none = put_has t (reporting t report).table (reporting_runner report) (is_last_report report) reply.Ok refl
        ((reports_decide report report).1 refl) refl

-- ---- both kinds of numbered commands

abbrev pub test_of : Command → LastCommand → Bool
test_of (command.Claim claim) = is_last_claim claim
test_of (command.Done report) = is_last_report report
test_of (command.Admit event) = λ l. false
test_of (command.Beat beat) = λ l. false
test_of (command.Cancel id) = λ l. false
test_of (command.Lost name) = λ l. false
test_of (command.Look id) = λ l. false
test_of (command.Fetch id) = λ l. false
test_of (command.Rerun requested) = λ l. false
test_of (command.Forget id) = λ l. false
test_of (command.Discharge name) = λ l. false

pub tests_ignore : (c : Command) → IgnoresReply (test_of c)
tests_ignore (command.Claim claim) through (last.Claim earlier given) = refl
tests_ignore (command.Claim claim) through (last.Done earlier) = refl
tests_ignore (command.Done report) through (last.Claim earlier given) = refl
tests_ignore (command.Done report) through (last.Done earlier) = refl
tests_ignore c through l = refl

at_number : (P : List ℕ → ℕ → Type 0) (a b : List ℕ) (m n : ℕ) → a ≡ b → m ≡ n → P a m → P b n
at_number P a b m n names numbers h = subst (λ (x : List ℕ). P x n) names (subst (λ (k : ℕ). P a k) numbers h)

pub numbered_has : (t : TableState) (c : Command) (name : List ℕ) (number : ℕ) → HasNumber c name number → (IsRefused (stepped t c).reply → ⊥)
    → HasKept (stepped t c).table name number (test_of c) (stepped t c).reply
numbered_has t (command.Claim claim) name number numbered taken =
    let s = stepped t (command.Claim claim) in
    at_number (λ x n. HasKept s.table x n (is_last_claim claim) s.reply) claim.runner name claim.number number numbered.0 numbered.1
    (claim_has t claim taken)
numbered_has t (command.Done report) name number numbered taken =
    let s = stepped t (command.Done report) in
    at_number (λ x n. HasKept s.table x n (is_last_report report) s.reply) report.runner name report.number number numbered.0 numbered.1
    (report_has t report taken)
numbered_has t (command.Admit event) name number numbered taken = absurd numbered
numbered_has t (command.Beat beat) name number numbered taken = absurd numbered
numbered_has t (command.Cancel id) name number numbered taken = absurd numbered
numbered_has t (command.Lost who) name number numbered taken = absurd numbered
numbered_has t (command.Look id) name number numbered taken = absurd numbered
numbered_has t (command.Fetch id) name number numbered taken = absurd numbered
numbered_has t (command.Rerun requested) name number numbered taken = absurd numbered
numbered_has t (command.Forget id) name number numbered taken = absurd numbered
numbered_has t (command.Discharge who) name number numbered taken = absurd numbered

pub numbered_again : (t : TableState) (c : Command) (name : List ℕ) (number : ℕ) (kept : Reply) → HasNumber c name number
    → HasKept t name number (test_of c) kept → step t c ≡ (t, kept)
numbered_again t (command.Claim claim) name number kept numbered has =
    let own = at_number (λ x n. HasKept t x n (is_last_claim claim) kept) name claim.runner number claim.number (sym numbered.0)
    (sym numbered.1) has in
    let others = if holds_lease (runner_named t.runners claim.runner) then Some (refused HasLease) else lease_answer t claim in
    ap (λ (o : Option Reply). outcome (option_map_or (unchanged t) (option_or o others) (claiming t claim)))
    (answer_again claim.runner claim.number (is_last_claim claim) kept t own)
numbered_again t (command.Done report) name number kept numbered has =
    let own = at_number (λ x n. HasKept t x n (is_last_report report) kept) name report.runner number report.number (sym numbered.0)
    (sym numbered.1) has in
    let others = if holds_this report.lease (runner_named t.runners report.runner) then None else Some (refused LeaseNotHeld) in
    ap (λ (o : Option Reply). outcome (option_map_or (unchanged t) (option_or o others) (reporting t report)))
    (answer_again report.runner report.number (is_last_report report) kept t own)
numbered_again t (command.Admit event) name number kept numbered has = absurd numbered
numbered_again t (command.Beat beat) name number kept numbered has = absurd numbered
numbered_again t (command.Cancel id) name number kept numbered has = absurd numbered
numbered_again t (command.Lost who) name number kept numbered has = absurd numbered
numbered_again t (command.Look id) name number kept numbered has = absurd numbered
numbered_again t (command.Fetch id) name number kept numbered has = absurd numbered
numbered_again t (command.Rerun requested) name number kept numbered has = absurd numbered
numbered_again t (command.Forget id) name number kept numbered has = absurd numbered
numbered_again t (command.Discharge who) name number kept numbered has = absurd numbered

-- ---- the law

pub reply_again : (t : TableState) (c : Command) (name : List ℕ) (number : ℕ) (later : List Command) → HasNumber c name number
    → (IsRefused (stepped t c).reply → ⊥) → HaveNoLaterNumber name number later → HaveNoDischarge name later
    → step (after (stepped t c).table later) c
    ≡ (after (stepped t c).table later, reply_then (stepped t c).table (after (stepped t c).table later) (stepped t c).reply)
reply_again t c name number later numbered taken no_later no_discharge =
    let s = stepped t c in
    let last = after s.table later in
    numbered_again last c name number (reply_then s.table last s.reply) numbered
    (has_after name number (test_of c) (tests_ignore c) s.table s.reply later no_later no_discharge (numbered_has t c name number numbered taken))
