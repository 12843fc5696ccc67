-- A leg keeps its lease in each step in which its run keeps its attempt.
use Rattle.std.specs.Prelude.{◌≡◌, ℕ, ◌+◌, List, [], ◌∷◌, ◌++◌, Option, Some, None, option_and_then, refl}
use Rattle.std.specs.Option.{option_map_or}
use Rattle.std.proofs.Common.{arith, ap, inl, inr, sym, ◌∙◌}
use Rattle.std.proofs.lemmas.Bool.{cases_eq}
use Rattle.std.proofs.lemmas.Option.{none-some}
use Rattle.run_plan.specs.declared.command.Attempt.{Attempt}
use Rattle.run_plan.specs.declared.command.Claim.{Claim as Claimed}
use Rattle.run_plan.specs.declared.command.Command.{Command}
use Rattle.run_plan.specs.declared.command.Command.TheVariants as command
use Rattle.run_plan.specs.declared.reply.Reply.{Reply}
use Rattle.wf_value.specs.declared.code.Code.TheVariants.{LeaseNotHeld, NoRunner}
use Rattle.table_model.specs.Fitting.{first_fit}
use Rattle.table_model.specs.Step.{after, admission_answer, admitting, cancel_answer, cancelling, claim_answer, claimed, claiming, entered}
use Rattle.table_model.specs.Step.{discharge_answer, discharging}
use Rattle.table_model.specs.TableState.{Step, TableState, index_of, runner_named}
use Rattle.table_model.specs.Runs.{with_leg, with_run, again, leased_leg, LegState, RunState}
use Rattle.table_model.specs.declared.sites.LegSite.{LegSite}
use Rattle.table_model.specs.Settling.{settled}
use Rattle.table_model.specs.Sound.{IsSound}
use Rattle.table_model.specs.Step.{leasing, losing, lost, refused, released, report_answer, reporting, serving_nothing}
use Rattle.table_model.specs.Step.{entered_again, rerun, rerun_answer, rerunning, stepped, unchanged}
use Rattle.table_model.specs.Stops.{with_ended, outcome_of_loss, stopped_run}
use Rattle.run_table.proofs.AdmitKeeps.{same_reads}
use Rattle.run_table.proofs.BeginsAgain.{begins_again}
use Rattle.run_table.proofs.ClaimKeeps.{fitting_leg, had_changes, leasing_keeps, ready_has_no_lease}
use Rattle.run_table.proofs.Entered.{entered_keeps, entered_settles}
use Rattle.run_table.proofs.EnteredAgain.{entered_again_settles}
use Rattle.table_model.proofs.Changed.{at_another}
use Rattle.settling_laws.proofs.HoldersKeep.{run_stop_settles}
use Rattle.run_table.proofs.Kept.{kept_from_sound}
use Rattle.table_model.proofs.LeaseReads.{place_or_another}
use Rattle.table_model.proofs.LegReads.{had_at, had_from_leg, had_in}
use Rattle.run_table.proofs.ReportKeeps.{loss_keeps, report_keeps}
use Rattle.table_model.proofs.RunFits.{RunsFit, leases_fit}
use Rattle.settling_laws.proofs.SettlingKeeps.{settling_settles}
use Rattle.settling_laws.specs.Moved.{moved_leg}
use Rattle.table_laws.specs.Names.{attempt_of}
use Rattle.table_laws.proofs.AttemptNames.{attempt_before, attempt_then}
use Rattle.table_laws.proofs.ForgetSteps.{Dropped, IsNoForget, run_then}
use Rattle.table_laws.proofs.ReachedTables.{with_ended_keeps_leases}
use Rattle.table_model.specs.declared.holder.Holder.TheVariants.{Leg}

abbrev pub HadStays : List RunState → List RunState → Type 0
HadStays runs next = (p : LegSite) (n : ℕ) → had_at runs p ≡ Some n → had_at next p ≡ Some n

had_by : (t : TableState) (answer : Option Reply) (change : Step) → (answer ≡ None → HadStays t.runs change.table.runs)
    → HadStays t.runs (option_map_or (unchanged t) answer change).table.runs
had_by t None change h = h refl
had_by t (Some r) change h = λ p n e. e

had_at_rest : (runs next : List RunState) → RunsFit next → HadStays runs next → HadStays runs (settled next)
had_at_rest runs next fit stays p n e = (settling_settles next fit).same_had p ∙ stays p n e

-- a ready leg, which has no lease, is leased
lease_had : (runs : List RunState) (labels : List (List ℕ)) (p : LegSite) (lease : ℕ) → RunsFit runs → first_fit labels runs ≡ Some p
    → HadStays runs (with_leg p (λ _. leased_leg lease) runs)
lease_had runs labels p lease fit fits q n e =
    let ready = fitting_leg labels runs p fits in
    let z = ready.leg_of in
    elim (place_or_another q p) [
      | inl same ↦
          let none = ready_has_no_lease z.phase z.lease ready.ready (leases_fit runs fit p z ready.is) in
          absurd (none-some n (sym (had_from_leg runs p z ready.is ∙ none) ∙ ap (had_at runs) (sym same) ∙ e))
      | inr other ↦ (had_changes runs p z (λ _. leased_leg lease) ready.is).elsewhere q other ∙ e
    ]

claim_had : (t : TableState) (claim : Claimed) → IsSound t → HadStays t.runs (claimed t claim).table.runs
claim_had t claim s =
    had_by t (claim_answer t claim) (claiming t claim) (λ none.
    elim (first_fit claim.labels t.runs) as
    (λ o. first_fit claim.labels t.runs ≡ o → HadStays t.runs (option_map_or (leasing t claim) o (serving_nothing t claim)).table.runs) [
      | None ↦ λ is. had_at_rest t.runs t.runs (kept_from_sound t s).fit (λ p n e. e)
      | Some p ↦ λ is.
          had_at_rest t.runs (with_leg p (λ _. leased_leg (t.last_lease + 1)) t.runs) (leasing_keeps t claim p
          (kept_from_sound t s) none is).fit
          (lease_had t.runs claim.labels p (t.last_lease + 1) (kept_from_sound t s).fit is)
    ] refl)

loss_had : (t : TableState) (name : List ℕ) → IsSound t → HadStays t.runs (lost t name).table.runs
loss_had t name s =
    elim (runner_named t.runners name) as
    (λ o. runner_named t.runners name ≡ o → HadStays t.runs (option_map_or
    (λ runner. option_map_or (losing t (released runner)) runner.holds (unchanged t (refused LeaseNotHeld))) o
    (unchanged t (refused NoRunner))).table.runs) [
      | None ↦ λ is p n e. e
      | Some runner ↦ λ is. elim (runner.holds) as
          (λ h. runner.holds ≡ h
          → HadStays t.runs (option_map_or (losing t (released runner)) h (unchanged t (refused LeaseNotHeld))).table.runs) [
            | None ↦ λ none p n e. e
            | Some lease ↦ λ holds.
                let o = outcome_of_loss t.runs lease in
                had_at_rest t.runs (with_ended lease o t.runs) (loss_keeps t name runner lease (kept_from_sound t s) is holds).fit
                (λ p n e. with_ended_keeps_leases lease o p t.runs ∙ e)
          ] refl
    ] refl

-- the legs of a run that begins again are gone, and the run is at another attempt
again_had : (t : TableState) (requested : Attempt) → IsSound t → (p : LegSite) (n : ℕ)
    → attempt_of (rerun t requested).table.runs (Leg p) ≡ attempt_of t.runs (Leg p) → had_at t.runs p ≡ Some n
    → had_at (rerun t requested).table.runs p ≡ Some n
again_had t requested s p n =
    elim (rerun_answer t requested) as
    (λ o. rerun_answer t requested ≡ o
    → attempt_of (option_map_or (unchanged t) o (rerunning t requested)).table.runs (Leg p) ≡ attempt_of t.runs (Leg p)
    → had_at t.runs p ≡ Some n → had_at (option_map_or (unchanged t) o (rerunning t requested)).table.runs p ≡ Some n) [
      | Some given ↦ λ is same e. e
      | None ↦ λ none same e.
          let begins = begins_again t requested none in
          let r = index_of t requested.run in
          let fit = (kept_from_sound t s).fit in
          let entry = entered_again_settles t r fit in
          elim (cases_eq p.run r) [
            | inl here ↦
                let before : attempt_of t.runs (Leg p) ≡ begins.was.attempt =
                attempt_before t r begins.was begins.there fit (Leg p) here in
                let next : attempt_of (rerunning t requested).table.runs (Leg p) ≡ begins.was.attempt + 1 =
                attempt_then t r begins.was begins.there fit (Leg p) here in
                absurd (omega (arith, before, next, same))
            | inr other ↦
                (settling_settles (entered_again t r).runs entry.stay.fit).same_had p ∙ entry.same_had p
                ∙ ap (option_and_then (λ (v : RunState). had_in v p.job p.leg)) (at_another r again t.runs p.run other) ∙ e
          ]
    ] refl

-- for a run that keeps its attempt
pub step_had : (t : TableState) (c : Command) → IsNoForget c → IsSound t → (p : LegSite) (n : ℕ)
    → attempt_of (stepped t c).table.runs (Leg p) ≡ attempt_of t.runs (Leg p) → had_at t.runs p ≡ Some n
    → had_at (stepped t c).table.runs p ≡ Some n
step_had t (command.Admit event) other s p n same =
    had_by t (admission_answer t event) (admitting t event) (λ none.
    let kept = kept_from_sound t s in
    had_at_rest t.runs (entered t event).runs (entered_keeps t event kept none).fit
    (λ p n e. (entered_settles t event kept.fit).same_had p ∙ same_reads t.forgotten t.runs event (λ (z : LegState). z.lease) p ∙ e)) p n
step_had t (command.Claim claim) other s p n same = claim_had t claim s p n
step_had t (command.Done report) other s p n same =
    had_by t (report_answer t report) (reporting t report) (λ none.
    had_at_rest t.runs (with_ended report.lease report.result t.runs) (report_keeps t report (kept_from_sound t s) none).fit
    (λ p n e. with_ended_keeps_leases report.lease report.result p t.runs ∙ e)) p n
step_had t (command.Beat beat) other s p n same = λ e. e
step_had t (command.Cancel id) other s p n same =
    had_by t (cancel_answer t id) (cancelling t id) (λ none.
    let stop = run_stop_settles t.runs (index_of t id) (kept_from_sound t s).fit in
    had_at_rest t.runs (with_run (index_of t id) stopped_run t.runs) stop.stay.fit (λ p n e. stop.same_had p ∙ e)) p n
step_had t (command.Lost name) other s p n same = loss_had t name s p n
step_had t (command.Fetch id) other s p n same = λ e. e
step_had t (command.Look id) other s p n same = λ e. e
step_had t (command.Rerun requested) other s p n same = again_had t requested s p n same
step_had t (command.Forget id) other s p n same = absurd other
step_had t (command.Discharge name) other s p n same =
    had_by t (discharge_answer t name) (discharging t name) (λ none p n e. e) p n

-- the legs of the runs that are not dropped keep theirs
pub dropped_had : (k : ℕ) (t next : TableState) → Dropped k t next → (p : LegSite) → had_at next.runs p ≡ had_at t.runs (moved_leg k p)
dropped_had k t next dropped p = ap (option_and_then (λ (v : RunState). had_in v p.job p.leg)) (run_then k t next dropped p.run)

pub after_both : (t : TableState) (first second : List Command) → after t (first ++ second) ≡ after (after t first) second
after_both t [] second = refl
after_both t (c ∷ cs) second = after_both (stepped t c).table cs second
