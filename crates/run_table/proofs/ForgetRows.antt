-- Examples, by computation: what is forgotten of literal tables, and what is known of it afterwards.
use Rattle.std.specs.Prelude.{◌≡◌, ℕ, List, [], ◌∷◌, Some, None, false, codes, refl}
use Rattle.wf_reader.specs.Event.{event_of}
use Rattle.wf_value.specs.declared.code.Code.TheVariants.{HasLease, NoRun, NoRunner}
use Rattle.run_plan.specs.declared.command.Attempt.{Attempt}
use Rattle.run_plan.specs.declared.command.Claim.{Claim as Claimed}
use Rattle.run_plan.specs.declared.command.Command.TheVariants as command
use Rattle.run_plan.specs.declared.last_command.ClaimReply.{ClaimReply}
use Rattle.run_plan.specs.declared.last_command.ClaimReply.TheVariants as given
use Rattle.run_plan.specs.declared.last_command.KeptLease.{KeptLease}
use Rattle.run_plan.specs.declared.reply.Reply.TheVariants as reply
use Rattle.table_model.specs.Forgotten.{ForgottenRuns, none_forgotten}
use Rattle.table_model.specs.Runs.{RunState}
use Rattle.table_model.specs.Step.{claiming_runner, empty, refused, step}
use Rattle.table_model.specs.TableState.{RunnerState, TableState}
use Rattle.table_model.specs.declared.phases.RunPhase.{RunPhase}
use Rattle.table_model.specs.declared.phases.RunPhase.TheVariants as run
use Rattle.run_table.proofs.CancelRows.{cancelled_job}

-- the run of a delivery, with this id, which is its number too
abbrev run_of : ℕ → List ℕ → RunPhase → RunState
run_of id delivery phase = record {
  id = id;
  number = id;
  admitted = record { delivery = delivery; event = codes "push"; body = codes "{}" };
  attempt = 1;
  phase = phase;
  stopping = false;
  jobs = cancelled_job ∷ [];
}

-- a lease of a run, as it is kept with the reply to its claim
abbrev lease_of : ℕ → KeptLease
lease_of id = record { lease_reply = record { lease = 1; run = id; job = codes "build"; leg = 0; combo = [] }; attempt = 1; job = 0 }

abbrev claim_of_r1 : Claimed
claim_of_r1 = record { runner = codes "r1"; number = 3; labels = codes "linux" ∷ [] }

abbrev r1 : ClaimReply → RunnerState
r1 reply = claiming_runner claim_of_r1 None reply

abbrev table_of : ForgottenRuns → List RunState → List RunnerState → TableState
table_of forgotten runs runners = record { last_lease = 1; forgotten = forgotten; runs = runs; runners = runners }

-- one run is forgotten
abbrev first_forgotten : ForgottenRuns
first_forgotten = record {
  through = 1;
  counts = record { repo = (event_of (codes "{}")).repo; path = (event_of (codes "{}")).path; runs = 1 } ∷ [];
  deliveries = codes "d1" ∷ [];
}

abbrev two_runs : RunPhase → RunPhase → List RunState
two_runs first second = run_of 1 (codes "d1") first ∷ run_of 2 (codes "d2") second ∷ []

-- ---- forget

-- the first run has completed, and the second has not
first_is_forgotten : step (table_of none_forgotten (two_runs run.Ended run.Live) []) (command.Forget 2)
    ≡ (table_of first_forgotten (run_of 2 (codes "d2") run.Live ∷ []) [], reply.Forgotten 1)
first_is_forgotten = refl

-- only up to the id
second_is_kept : step (table_of none_forgotten (two_runs run.Ended run.Ended) []) (command.Forget 1)
    ≡ (table_of first_forgotten (run_of 2 (codes "d2") run.Ended ∷ []) [], reply.Forgotten 1)
second_is_kept = refl

-- a run that has not completed keeps those after it
first_goes_on : step (table_of none_forgotten (two_runs run.Live run.Ended) []) (command.Forget 2)
    ≡ (table_of none_forgotten (two_runs run.Live run.Ended) [], reply.Forgotten 0)
first_goes_on = refl

-- a run that is forgotten already
forgotten_again : step (table_of first_forgotten (run_of 2 (codes "d2") run.Ended ∷ []) []) (command.Forget 1)
    ≡ (table_of first_forgotten (run_of 2 (codes "d2") run.Ended ∷ []) [], reply.Forgotten 1)
forgotten_again = refl

past_the_last : step empty (command.Forget 999999999) ≡ (empty, reply.Forgotten 0)
past_the_last = refl

-- ---- what is known afterwards

abbrev after : TableState
after = table_of first_forgotten (run_of 2 (codes "d2") run.Live ∷ []) (r1 given.Nothing ∷ [])

delivery_is_known : step after (command.Admit (record { delivery = codes "d1"; event = codes "push"; body = codes "[]" })) ≡ (after, reply.Created 1)
delivery_is_known = refl

delivery_of_another_run : step after (command.Admit (record { delivery = codes "d2"; event = codes "push"; body = codes "[]" }))
    ≡ (after, reply.Created 2)
delivery_of_another_run = refl

look_at_it : step after (command.Look 1) ≡ (after, refused NoRun)
look_at_it = refl

cancel_of_it : step after (command.Cancel 1) ≡ (after, refused NoRun)
cancel_of_it = refl

fetch_of_it : step after (command.Fetch 1) ≡ (after, refused NoRun)
fetch_of_it = refl

abbrev second_attempt : Attempt
second_attempt = record { run = 1; attempt = 2 }

rerun_of_it : step after (command.Rerun second_attempt) ≡ (after, refused NoRun)
rerun_of_it = refl

fetch_of_another : step after (command.Fetch 2) ≡ (after, reply.Body (codes "{}"))
fetch_of_another = refl

-- ---- kept leases

-- a lease of the run that is forgotten is no longer the reply; one of another run is
lease_is_over : step (table_of none_forgotten (two_runs run.Ended run.Ended) (r1 (given.Lease (lease_of 1)) ∷ [])) (command.Forget 1)
    ≡ (table_of first_forgotten (run_of 2 (codes "d2") run.Ended ∷ []) (r1 given.Nothing ∷ []), reply.Forgotten 1)
lease_is_over = refl

lease_stays : step (table_of none_forgotten (two_runs run.Ended run.Ended) (r1 (given.Lease (lease_of 2)) ∷ [])) (command.Forget 1)
    ≡ (table_of first_forgotten (run_of 2 (codes "d2") run.Ended ∷ []) (r1 (given.Lease (lease_of 2)) ∷ []), reply.Forgotten 1)
lease_stays = refl

claim_again : step after (command.Claim claim_of_r1) ≡ (after, reply.Nothing)
claim_again = refl

-- ---- discharge

discharge_of_no_runner : step empty (command.Discharge (codes "r1")) ≡ (empty, refused NoRunner)
discharge_of_no_runner = refl

runner_is_discharged : step after (command.Discharge (codes "r1"))
    ≡ (table_of first_forgotten (run_of 2 (codes "d2") run.Live ∷ []) [], reply.Ok)
runner_is_discharged = refl

abbrev at_work : TableState
at_work = table_of none_forgotten [] (claiming_runner claim_of_r1 (Some 1) given.Nothing ∷ [])

runner_with_a_lease : step at_work (command.Discharge (codes "r1")) ≡ (at_work, refused HasLease)
runner_with_a_lease = refl
