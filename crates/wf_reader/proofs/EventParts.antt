-- An envelope after its two texts, and an event from its parts.
use Rattle.std.proofs.Common.{◌≡◌, ℕ, List, [], ◌++◌, true, is_some, Option, Result, Ok, unwrap_or, ap, ◌∙◌, subst, codes}
use Rattle.serde_json.specs.Data.{Data, null}
use Rattle.serde_json.specs.Find.{get, as_object}
use Rattle.wf_value.specs.declared.code.Code.TheVariants.{WrongKind}
use Rattle.wf_value.specs.declared.refusal.Refusal.{Refusal}
use Rattle.wf_reader.specs.Contexts.{ContextObjects, contexts_in}
use Rattle.wf_reader.specs.Event.{filled_text_faults, contexts_faults, inside_envelope, event_faults_in, event_in}
use Rattle.wf_reader.specs.Faults.{unless_faulty, required}
use Rattle.wf_reader.specs.Json.{text_in, member_at}
use Rattle.wf_reader.specs.Workflow.{workflow_faults_in, workflow_in}
use Rattle.wf_reader.specs.declared.event.Event.{Event}
use Rattle.wf_reader.specs.declared.workflow.Workflow.{Workflow}
use Rattle.wf_reader.proofs.InOrder.{skip}
use Rattle.wf_reader.proofs.JobFaults.{inside_object}

abbrev after_texts : Data → List Refusal
after_texts d = contexts_faults d ++ (required WrongKind workflow_faults_in (get (codes "workflow") d) ++ [])

pub past_texts : {X : Type 0} (d : Data) (x : X) (r : Result X Refusal) (p q repo path : List ℕ)
    → true ≡ is_some (as_object d)
    → unless_faulty (required WrongKind filled_text_faults (get (codes "repo") d)) p ≡ Ok repo
    → unless_faulty (required WrongKind filled_text_faults (get (codes "path") d)) q ≡ Ok path
    → unless_faulty (after_texts d) x ≡ r → unless_faulty (event_faults_in d) x ≡ r
past_texts d x r p q repo path o first second later =
    inside_object inside_envelope d x r o (
    skip (required WrongKind filled_text_faults (get (codes "repo") d)) _ p repo x r first (
    skip (required WrongKind filled_text_faults (get (codes "path") d)) (after_texts d) q path x r second later))

abbrev event_with : List ℕ → List ℕ → ContextObjects → Workflow → Event
event_with repo path contexts workflow = record { repo = repo; path = path; contexts = contexts; workflow = workflow }

pub event_made : (d : Data) (repo path : List ℕ) (c : ContextObjects) (w : Workflow) → text_in (member_at (codes "repo") d) ≡ repo
    → text_in (member_at (codes "path") d) ≡ path → contexts_in d ≡ c → workflow_in (member_at (codes "workflow") d) ≡ w
    → event_in d ≡ event_with repo path c w
event_made d repo path c w p q r t =
    ap (λ x. event_with x (text_in (member_at (codes "path") d)) (contexts_in d) (workflow_in (member_at (codes "workflow") d))) p
    ∙ ap (λ x. event_with repo x (contexts_in d) (workflow_in (member_at (codes "workflow") d))) q
    ∙ ap (λ x. event_with repo path x (workflow_in (member_at (codes "workflow") d))) r
    ∙ ap (event_with repo path c) t

-- the result of reading the workflow that is moved out
pub of_given : (given held : Option Data) (r : Result Workflow Refusal) → given ≡ held
    → unless_faulty (required WrongKind workflow_faults_in given) (workflow_in (unwrap_or given null)) ≡ r
    → unless_faulty (required WrongKind workflow_faults_in held) (workflow_in (unwrap_or held null)) ≡ r
of_given given held r same = subst
    (λ o. unless_faulty (required WrongKind workflow_faults_in o) (workflow_in (unwrap_or o null)) ≡ r) same
