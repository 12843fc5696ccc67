-- The graph of a plan is the graph of its workflow's jobs.
use Rattle.std.specs.Prelude.{◌≡◌, ℕ, List, [], ◌∷◌, ◌++◌, map, Bool, true, false, IsTrue, if◌then◌else◌, Ok, Err}
use Rattle.std.specs.List.{list_all}
use Rattle.std.proofs.Common.{sym, ap, ◌∙◌}
use Rattle.std.proofs.lemmas.Simd.{map-map}
use Rattle.wf_value.proofs.Rising.{rises_over}
use Rattle.wf_reader.specs.Faults.{unless_faulty}
use Rattle.wf_reader.specs.JobOrder as read
use Rattle.wf_reader.specs.declared.job.Job.{Job}
use Rattle.wf_reader.proofs.InOrder.{no_fault, same_value}
use Rattle.definitions.specs.Rising.{JobNeeds}
use Rattle.needs_graph.specs.Needs.{graph_of, ids_rise, is_job, needs_of, own_ancestors, unknown_need, unless_cycle}
use Rattle.run_plan.specs.PlanOf.{jobs_faults, legs_faults, needs_faults, needs_listed, needs_of_job, needs_of_planned, planned_job}
use Rattle.run_plan.specs.declared.planned.PlannedJob.{PlannedJob}

-- listing the needs of jobs keeps their order
pub listed_rise : (jobs : List Job) → IsTrue (read.ids_rise jobs) → IsTrue (ids_rise (map needs_of_job jobs))
listed_rise jobs rise = rises_over (λ n. n.id) needs_of_job jobs ∙ rise

-- planned jobs list the same needs
pub planned_needs : (jobs : List Job) (planned : List PlannedJob) → unless_faulty (legs_faults jobs) (map planned_job jobs) ≡ Ok planned
    → needs_listed planned ≡ map needs_of_job jobs
planned_needs jobs planned lease_reply =
    ap needs_listed (sym (same_value (legs_faults jobs) (map planned_job jobs) planned lease_reply)) ∙ map-map needs_of_planned planned_job jobs

-- if no matrix has a fault, the faults are those of the needs
pub needs_decide : {X Y : Type 0} (jobs : List Job) (x v : X) (y : Y) → unless_faulty (legs_faults jobs) x ≡ Ok v
    → unless_faulty (jobs_faults jobs) y ≡ unless_faulty (needs_faults jobs) y
needs_decide jobs x v y lease_reply = ap (λ fs. unless_faulty (fs ++ needs_faults jobs) y) (no_fault (legs_faults jobs) x v lease_reply)

-- a graph, if there is one, is that of the needs
of_parts : (known : Bool) (ids needs g : List (List ℕ)) → (if known then unless_cycle ids needs else Err unknown_need) ≡ Ok g → g ≡ needs
of_parts true [] needs g h = cc
of_parts true (id ∷ ids) needs g h = absurd cc
of_parts false ids needs g h = absurd cc

pub graph_is : (jobs : List JobNeeds) (g : List (List ℕ)) → graph_of jobs ≡ Ok g → g ≡ needs_of jobs
graph_is jobs g h = of_parts (list_all (λ job. list_all (is_job jobs) job.needs) jobs) (own_ancestors jobs) (needs_of jobs) g h
