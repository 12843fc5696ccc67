-- No command lowers the last lease, and a claim that is answered with a lease repeats the runner's last command or gets the one after the last.
use Rattle.std.specs.Prelude.{◌≡◌, ◌⊎◌, ℕ, ◌+◌, ◌≤◌, List, [], ◌∷◌, nat_eq, Option, Some, None, if◌then◌else◌, refl}
use Rattle.std.specs.Option.{option_map_or}
use Rattle.std.proofs.Common.{arith, ap, inl, inr, subst}
use Rattle.wf_value.specs.declared.code.Code.TheVariants.{LeaseNotHeld, NoRunner}
use Rattle.run_plan.specs.declared.command.Claim.{Claim as Claimed}
use Rattle.run_plan.specs.declared.command.Command.{Command}
use Rattle.run_plan.specs.declared.command.Command.TheVariants as command
use Rattle.run_plan.specs.declared.reply.Lease.{Lease as Leased}
use Rattle.run_plan.specs.declared.reply.Reply.{Reply}
use Rattle.run_plan.specs.declared.reply.Reply.TheVariants as reply
use Rattle.table_model.specs.Fitting.{first_fit}
use Rattle.table_model.specs.Step.{admission_answer, admitting, after, cancel_answer, cancelling, claim_answer, claiming, discharge_answer, discharging}
use Rattle.table_model.specs.Step.{forgetting, forgettable, leasing, losing, refused, released, report_answer, reporting, rerun_answer, rerunning}
use Rattle.table_model.specs.Step.{serving_nothing, stepped, unchanged}
use Rattle.table_model.specs.TableState.{Step, TableState, runner_named}
use Rattle.table_laws.specs.ExactlyOnce.{IsRefused}
use Rattle.table_laws.specs.LeasesGranted.{IsNextLease}
use Rattle.table_laws.specs.Remembered.{LastCommandIs}
use Rattle.table_laws.proofs.Remembered.{answered_is_last}

-- ---- the last lease

abbrev AsLate : TableState → Step → Type 0
AsLate t s = t.last_lease ≤ s.table.last_lease

as_late : (t : TableState) (answer : Option Reply) (change : Step) → AsLate t change → AsLate t (option_map_or (unchanged t) answer change)
as_late t None change late = late
as_late t (Some given) change late = omega arith

last_lease_then : (t : TableState) (c : Command) → t.last_lease ≤ (stepped t c).table.last_lease
last_lease_then t (command.Admit event) = as_late t (admission_answer t event) (admitting t event) (omega arith)
last_lease_then t (command.Claim claim) = as_late t (claim_answer t claim) (claiming t claim)
    (elim (first_fit claim.labels t.runs) as (λ o. AsLate t (option_map_or (leasing t claim) o (serving_nothing t claim)))
    [ None ↦ omega arith | Some p ↦ omega arith ])
last_lease_then t (command.Done report) = as_late t (report_answer t report) (reporting t report) (omega arith)
last_lease_then t (command.Beat beat) = omega arith
last_lease_then t (command.Cancel id) = as_late t (cancel_answer t id) (cancelling t id) (omega arith)
last_lease_then t (command.Lost name) =
    elim (runner_named t.runners name) as
    (λ o. AsLate t (option_map_or (λ runner. option_map_or (losing t (released runner)) runner.holds (unchanged t (refused LeaseNotHeld))) o
    (unchanged t (refused NoRunner)))) [
      | None ↦ omega arith
      | Some runner ↦ elim (runner.holds) as (λ h. AsLate t (option_map_or (losing t (released runner)) h (unchanged t (refused LeaseNotHeld))))
          [ None ↦ omega arith | Some lease ↦ omega arith ]
    ]
last_lease_then t (command.Fetch id) = omega arith
last_lease_then t (command.Look id) = omega arith
last_lease_then t (command.Rerun requested) = as_late t (rerun_answer t requested) (rerunning t requested) (omega arith)
last_lease_then t (command.Forget id) =
    as_late t (if nat_eq (forgettable t id) 0 then Some (reply.Forgotten t.forgotten.through) else None) (forgetting t id) (omega arith)
last_lease_then t (command.Discharge name) = as_late t (discharge_answer t name) (discharging t name) (omega arith)

pub last_lease_rises : (t : TableState) (later : List Command) → t.last_lease ≤ (after t later).last_lease
last_lease_rises t [] = omega arith
last_lease_rises t (c ∷ cs) =
    let first = last_lease_then t c in let others = last_lease_rises (stepped t c).table cs in omega (arith, first, others)

-- ---- a claim that is answered with a lease

-- by the number of the lease
abbrev lease_in : Reply → ℕ
lease_in (reply.Lease lease) = lease.lease
lease_in _ = 0

a_lease_is_no_refusal : (lease : Leased) → IsRefused (reply.Lease lease) → ⊥
a_lease_is_no_refusal lease is = cc is.1

pub granted_or_repeated : (t : TableState) (claim : Claimed) (lease : Leased)
    → (stepped t (command.Claim claim)).reply ≡ reply.Lease lease
    → LastCommandIs t claim.runner (command.Claim claim) (reply.Lease lease) ⊎ IsNextLease t (stepped t (command.Claim claim)).table lease
granted_or_repeated t claim lease given =
    let c = command.Claim claim in
    let last : LastCommandIs (stepped t c).table claim.runner c (reply.Lease lease) =
    subst (LastCommandIs (stepped t c).table claim.runner c) given
    (answered_is_last t c claim.runner claim.number (refl, refl)
    (λ is. a_lease_is_no_refusal lease (subst (λ (r : Reply). IsRefused r) given is))) in
    elim (claim_answer t claim) as
    (λ o. (option_map_or (unchanged t) o (claiming t claim)).reply ≡ reply.Lease lease
    → LastCommandIs (option_map_or (unchanged t) o (claiming t claim)).table claim.runner c (reply.Lease lease)
    → LastCommandIs t claim.runner c (reply.Lease lease) ⊎ IsNextLease t (option_map_or (unchanged t) o (claiming t claim)).table lease) [
      | Some answer ↦ λ told known. inl known
      | None ↦ λ told known. elim (first_fit claim.labels t.runs) as
          (λ o. (option_map_or (leasing t claim) o (serving_nothing t claim)).reply ≡ reply.Lease lease
          → LastCommandIs t claim.runner c (reply.Lease lease)
          ⊎ IsNextLease t (option_map_or (leasing t claim) o (serving_nothing t claim)).table lease) [
            | None ↦ λ nothing. cc
            | Some p ↦ λ leased. inr (let next : t.last_lease + 1 ≡ lease.lease = ap lease_in leased in
                record { is_next = omega (arith, next); is_last = next })
          ] told
    ] given last
