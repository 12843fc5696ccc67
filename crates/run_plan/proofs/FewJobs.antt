-- A body without faults has at most `max_jobs` jobs.
use Rattle.std.specs.Prelude.{◌≡◌, ℕ, ◌≤◌, List, [], ◌∷◌, ◌++◌, map, length, Bool, true, false, nat_le, Option, Some, None, unwrap_or}
use Rattle.std.specs.Prelude.{codes, is_some, if◌then◌else◌, refl}
use Rattle.std.proofs.Common.{arith, ap, sym, ◌∙◌, inl, inr}
use Rattle.std.proofs.lemmas.Bool.{cases_Bool, leb-true}
use Rattle.std.proofs.lemmas.List.{length-map}
use Rattle.definitions.specs.Limits.{max_body, max_jobs}
use Rattle.serde_json.specs.Data.{Data, null}
use Rattle.serde_json.specs.Find.{as_object, get}
use Rattle.wf_value.specs.declared.code.Code.{Code}
use Rattle.wf_value.specs.declared.code.Code.TheVariants.{NotJson, TooLong, TooManyJobs, WrongKind}
use Rattle.wf_value.specs.declared.refusal.Refusal.{Refusal}
use Rattle.wf_reader.specs.Workflow.{json_of, inside_workflow, jobs_faults, workflow_faults_in}
use Rattle.wf_reader.specs.Event.{contexts_faults, event_faults, event_faults_in, event_of, filled_text_faults, inside_envelope}
use Rattle.wf_expr.specs.declared.context_site.ContextSite.TheVariants as context_site
use Rattle.wf_reader.specs.Job.{concurrency_faults, job_of}
use Rattle.wf_reader.specs.Faults.{fault, faults_in_order, optional, required, text_faults}
use Rattle.wf_reader.specs.Json.{member_at, members_of}
use Rattle.run_plan.specs.PlanOf.{faults_of, plan_of, planned_job, plan_faults}

-- both parts of an empty list are empty
no_prefix : {X : Type 0} (xs ys : List X) → xs ++ ys ≡ [] → xs ≡ []
no_prefix [] ys h = refl
no_prefix (x ∷ xs) ys h = absurd (cc)

no_back : {X : Type 0} (xs ys : List X) → xs ++ ys ≡ [] → ys ≡ []
no_back [] ys h = h
no_back (x ∷ xs) ys h = absurd (cc)

-- the later ones of several checks
third : (a b c : List Refusal) → faults_in_order (a ∷ b ∷ c ∷ []) ≡ [] → c ≡ []
third a b c h = no_prefix c [] (no_back b (c ++ []) (no_back a (b ++ (c ++ [])) h))

fourth : (a b c d : List Refusal) → faults_in_order (a ∷ b ∷ c ∷ d ∷ []) ≡ [] → d ≡ []
fourth a b c d h = third b c d (no_back a (faults_in_order (b ∷ c ∷ d ∷ [])) h)

-- a required member that passes its check
there : (missing : Code) (check : Data → List Refusal) (o : Option Data) → required missing check o ≡ [] → check (unwrap_or o null) ≡ []
there missing check None h = absurd (cc)
there missing check (Some d) h = h

is_object : (b : Bool) (inside : List Refusal) → (if b then inside else fault WrongKind) ≡ [] → inside ≡ []
is_object true inside h = h
is_object false inside h = absurd (cc)

few_members : (js : List (List ℕ × Data)) → jobs_faults js ≡ [] → length js ≤ max_jobs
few_members [] h = omega arith
few_members (j ∷ js) h = elim (cases_Bool (nat_le (length (j ∷ js)) max_jobs)) [
  | inl few ↦ leb-true (length (j ∷ js)) max_jobs few
  | inr many ↦ (
      let none = no_prefix _ _ h in
      let one : fault TooManyJobs ≡ [] = sym (ap (λ b. if b then [] else fault TooManyJobs) many) ∙ none in
      absurd (cc))
]

few_in_workflow : (d : Data) → workflow_faults_in d ≡ [] → length (members_of (member_at (codes "jobs") d)) ≤ max_jobs
few_in_workflow d h =
    let inside : inside_workflow d ≡ [] = is_object (is_some (as_object d)) (inside_workflow d) h in
    few_members (members_of (member_at (codes "jobs") d))
    (third (optional text_faults (get (codes "name") d)) (optional (concurrency_faults context_site.Workflow) (get (codes "concurrency") d))
    (jobs_faults (members_of (member_at (codes "jobs") d))) inside)

few_in_event : (d : Data) → event_faults_in d ≡ [] → length (members_of (member_at (codes "jobs") (member_at (codes "workflow") d))) ≤ max_jobs
few_in_event d h =
    let inside : inside_envelope d ≡ [] = is_object (is_some (as_object d)) (inside_envelope d) h in
    few_in_workflow (member_at (codes "workflow") d)
    (there WrongKind workflow_faults_in (get (codes "workflow") d)
    (fourth (required WrongKind filled_text_faults (get (codes "repo") d)) (required WrongKind filled_text_faults (get (codes "path") d))
    (contexts_faults d)
    (required WrongKind workflow_faults_in (get (codes "workflow") d)) inside))

few_in_body : (short : Bool) (read : Option Data) → (if short then required NotJson event_faults_in read else fault TooLong) ≡ []
    → length (members_of (member_at (codes "jobs") (member_at (codes "workflow") (unwrap_or read null)))) ≤ max_jobs
few_in_body true read h = few_in_event (unwrap_or read null) (there NotJson event_faults_in read h)
few_in_body false read h = absurd (cc)

pub few_jobs : (b : List ℕ) → faults_of b ≡ [] → length (plan_of b) ≤ max_jobs
few_jobs b h =
    let ms = members_of (member_at (codes "jobs") (member_at (codes "workflow") (unwrap_or (json_of b) null))) in
    let few : length ms ≤ max_jobs = few_in_body (nat_le (length b) max_body) (json_of b)
    (no_prefix (event_faults b) (plan_faults (event_of b).workflow) h) in
    let read : length (map job_of ms) ≡ length ms = length-map ms job_of in
    let planned : length (plan_of b) ≡ length (map job_of ms) = length-map (map job_of ms) planned_job in
    omega (arith, few, read, planned)
