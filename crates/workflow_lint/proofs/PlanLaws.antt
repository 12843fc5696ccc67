-- The first of all findings is the refusal of the reader or of the plan.
use Rattle.std.proofs.Common.{◌≡◌, ℕ, ◌+◌, List, [], ◌∷◌, ◌++◌, map, Bool, true, false, ◌&&◌, if◌then◌else◌, Some, Result, Err}
use Rattle.std.proofs.Common.{refl, ap, ◌∙◌}
use Rattle.std.specs.Prelude.{codes}
use Rattle.std.specs.List.{enumerate_from, flat_map, list_all}
use Rattle.wf_value.specs.declared.refusal.Refusal.{Refusal}
use Rattle.wf_reader.specs.Faults.{outcome_faults}
use Rattle.wf_reader.specs.Workflow.{workflow_faults, workflow_of}
use Rattle.wf_reader.specs.declared.job.Job.{Job}
use Rattle.definitions.specs.Rising.{JobNeeds}
use Rattle.needs_graph.specs.Needs.{graph_of, is_job, needs_of, own_ancestors, unknown_need, unless_cycle}
use Rattle.run_plan.specs.PlanOf.{job_faults, jobs_faults, legs_faults, needs_of_job, plan_faults}
use Rattle.workflow_lint.specs.Findings.{at, refusals}
use Rattle.workflow_lint.specs.InWorkflow.{found_in_text}
use Rattle.workflow_lint.specs.Paths.{item_path, member_path}
use Rattle.workflow_lint.specs.Plans.{first_of, found_in, matrices_found, matrix_found, need_found, needs_found, or_else, path_in_job, plan_found}
use Rattle.workflow_lint.specs.Plans.{unknown_found, unknown_in}
use Rattle.workflow_lint.specs.declared.finding.Finding.{Finding}
use Rattle.workflow_lint.proofs.Laws.{of_at, of_each, of_join, of_text}

decides : (fs gs : List Refusal) (e : Refusal) → first_of fs ≡ Some e → first_of (fs ++ gs) ≡ Some e
decides [] gs e is = absurd cc
decides (f ∷ fs) gs e is = is

-- ---- unknown ids

-- there is no finding, or the first is an unknown id
abbrev Says : Bool → List Finding → Type 0
Says true found = found ≡ []
Says false found = first_of (refusals found) ≡ Some unknown_need

says_join : (a b : Bool) (xs ys : List Finding) → Says a xs → Says b ys → Says (a && b) (xs ++ ys)
says_join true true xs ys none later = ap (λ l. l ++ ys) none ∙ later
says_join true false xs ys none later = ap (λ l. first_of (refusals (l ++ ys))) none ∙ later
says_join false true xs ys one later = ap first_of (of_join xs ys) ∙ decides (refusals xs) (refusals ys) unknown_need one
says_join false false xs ys one later = ap first_of (of_join xs ys) ∙ decides (refusals xs) (refusals ys) unknown_need one

says_need : (jobs : List JobNeeds) (id : List ℕ) (n : ℕ) (need : List ℕ) → Says (is_job jobs need) (need_found jobs id (n, need))
says_need jobs id n need = by (is_job jobs need)
  where
    by : (b : Bool) → Says b (if b then [] else at (item_path (path_in_job id (codes "needs")) n) (unknown_need ∷ []))
    by true = refl
    by false = refl

says_needs : (jobs : List JobNeeds) (id : List ℕ) (n : ℕ) (needs : List (List ℕ))
    → Says (list_all (is_job jobs) needs) (flat_map (need_found jobs id) (enumerate_from n needs))
says_needs jobs id n [] = refl
says_needs jobs id n (need ∷ needs) =
    says_join (is_job jobs need) (list_all (is_job jobs) needs) _ _ (says_need jobs id n need) (says_needs jobs id (n + 1) needs)

says_jobs : (all jobs : List JobNeeds) → Says (list_all (λ job. list_all (is_job all) job.needs) jobs) (flat_map (unknown_in all) jobs)
says_jobs all [] = refl
says_jobs all (job ∷ jobs) =
    says_join (list_all (is_job all) job.needs) (list_all (λ j. list_all (is_job all) j.needs) jobs) _ _ (says_needs all job.id 0 job.needs)
    (says_jobs all jobs)

-- ---- needs: unknown ids first, then a cycle

first_of_else : (b : Bool) (found : List Finding) (graph : Result (List (List ℕ)) Refusal) → Says b found
    → first_of (refusals (or_else found (at (codes "jobs") (outcome_faults (if b then graph else Err unknown_need)))))
    ≡ first_of (outcome_faults (if b then graph else Err unknown_need))
first_of_else true found graph none =
    ap (λ l. first_of (refusals (or_else l (at (codes "jobs") (outcome_faults graph))))) none ∙ ap first_of (of_at (codes "jobs") (outcome_faults graph))
first_of_else false [] graph one = absurd cc
first_of_else false (f ∷ fs) graph one = one

first_of_needs : (jobs : List JobNeeds) → first_of (refusals (needs_found jobs)) ≡ first_of (outcome_faults (graph_of jobs))
first_of_needs jobs =
    first_of_else (list_all (λ job. list_all (is_job jobs) job.needs) jobs) (unknown_found jobs) (unless_cycle (own_ancestors jobs) (needs_of jobs))
    (says_jobs jobs jobs)

-- ---- the plan

same_after : (fs gs hs : List Refusal) → first_of gs ≡ first_of hs → first_of (fs ++ gs) ≡ first_of (fs ++ hs)
same_after [] gs hs same = same
same_after (f ∷ fs) gs hs same = refl

of_matrices : (jobs : List Job) → refusals (matrices_found jobs) ≡ legs_faults jobs
of_matrices jobs =
    of_each matrix_found job_faults (λ job. of_at (member_path (path_in_job job.id (codes "strategy")) (codes "matrix")) (job_faults job)) jobs

first_of_plan : (jobs : List Job) → first_of (refusals (plan_found jobs)) ≡ first_of (jobs_faults jobs)
first_of_plan jobs =
    ap first_of (of_join (matrices_found jobs) (needs_found (map needs_of_job jobs)))
    ∙ ap (λ l. first_of (l ++ refusals (needs_found (map needs_of_job jobs)))) (of_matrices jobs)
    ∙ same_after (legs_faults jobs) _ _ (first_of_needs (map needs_of_job jobs))

-- ---- all findings

first_of_both : (text later : List Finding) (fs gs : List Refusal) → refusals text ≡ fs → first_of (refusals later) ≡ first_of gs
    → first_of (refusals (or_else text later)) ≡ first_of (fs ++ gs)
first_of_both [] later fs gs same plan = plan ∙ ap (λ l. first_of (l ++ gs)) same
first_of_both (f ∷ text) later fs gs same plan = ap (λ l. first_of (l ++ gs)) same

pub first_of_all : (bytes : List ℕ) → first_of (refusals (found_in bytes))
    ≡ first_of (workflow_faults bytes ++ plan_faults (workflow_of bytes))
first_of_all bytes =
    first_of_both (found_in_text bytes) (plan_found (workflow_of bytes).jobs) (workflow_faults bytes) (plan_faults (workflow_of bytes))
    (of_text bytes) (first_of_plan (workflow_of bytes).jobs)
