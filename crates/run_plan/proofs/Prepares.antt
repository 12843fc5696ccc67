-- The contents of a body, from its event and the plan of its jobs.
use Rattle.std.proofs.Common.{◌≡◌, ℕ, List, [], ◌++◌, map, Ok, Err, sym, ap, ◌∙◌}
use Rattle.wf_value.specs.declared.refusal.Refusal.{Refusal}
use Rattle.wf_reader.specs.Event.{event_faults, event_of}
use Rattle.wf_reader.specs.Faults.{unless_faulty}
use Rattle.wf_reader.specs.declared.event.Event.{Event}
use Rattle.run_plan.specs.PlanOf.{faults_of, plan_of, planned_job, plan_faults}
use Rattle.run_plan.specs.declared.planned.PlannedJob.{PlannedJob}
use Rattle.wf_reader.proofs.Contents.{same_refusal}
use Rattle.wf_reader.proofs.InOrder.{no_fault, same_value}

-- if the event has no faults, the faults are those of its plan
faults_left : (body : List ℕ) (read : Event) → unless_faulty (event_faults body) (event_of body) ≡ Ok read
    → faults_of body ≡ plan_faults read.workflow
faults_left body read lease_reply =
    ap (λ fs. fs ++ plan_faults (event_of body).workflow) (no_fault (event_faults body) (event_of body) read lease_reply)
    ∙ ap (λ (e : Event). plan_faults e.workflow) (same_value (event_faults body) (event_of body) read lease_reply)

pub refused_run : {Y : Type 0} (body : List ℕ) (read : Event) (y : Y) (e : Refusal)
    → unless_faulty (event_faults body) (event_of body) ≡ Ok read
    → unless_faulty (plan_faults read.workflow) (map planned_job read.workflow.jobs) ≡ Err e → unless_faulty (faults_of body) y ≡ Err e
refused_run body read y e lease_reply refused =
    ap (λ fs. unless_faulty fs y) (faults_left body read lease_reply)
    ∙ same_refusal (plan_faults read.workflow) (map planned_job read.workflow.jobs) y e refused

pub faultless_run : (body : List ℕ) (read : Event) (plan : List PlannedJob)
    → unless_faulty (event_faults body) (event_of body) ≡ Ok read
    → unless_faulty (plan_faults read.workflow) (map planned_job read.workflow.jobs) ≡ Ok plan → faults_of body ≡ []
faultless_run body read plan lease_reply planned =
    faults_left body read lease_reply ∙ no_fault (plan_faults read.workflow) (map planned_job read.workflow.jobs) plan planned

pub plan_of_run : (body : List ℕ) (read : Event) (plan : List PlannedJob)
    → unless_faulty (event_faults body) (event_of body) ≡ Ok read
    → unless_faulty (plan_faults read.workflow) (map planned_job read.workflow.jobs) ≡ Ok plan → plan ≡ plan_of body
plan_of_run body read plan lease_reply planned =
    sym (same_value (plan_faults read.workflow) (map planned_job read.workflow.jobs) plan planned)
    ∙ ap (λ (e : Event). map planned_job e.workflow.jobs) (sym (same_value (event_faults body) (event_of body) read lease_reply))
