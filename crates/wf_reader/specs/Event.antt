-- The body of an event: an envelope with the repository, the workflow's path, three contexts and the workflow. Other members are
-- ignored. The envelope is defined by this project.
-- GitHub Docs, "Contexts": github, inputs, vars.
use Rattle.std.specs.Prelude.{ℕ, List, [], ◌∷◌, length, nat_lt, codes, flat_map}
use Rattle.serde_json.specs.Data.{Data}
use Rattle.serde_json.specs.Find.{get}
use Rattle.wf_value.specs.declared.code.Code.TheVariants.{WrongKind}
use Rattle.wf_value.specs.declared.refusal.Refusal.{Refusal}
use Rattle.wf_reader.specs.Workflow.{body_value, body_faults, workflow_faults_in, workflow_in}
use Rattle.wf_reader.specs.Contexts.{contexts_in}
use Rattle.wf_reader.specs.Faults.{fault_unless, faults_in_order, optional, required, object_faults, faults_within}
use Rattle.wf_reader.specs.Json.{text_in, member_at}
use Rattle.wf_reader.specs.declared.event.Event.{Event}

abbrev pub filled_text_faults : Data → List Refusal
filled_text_faults d = fault_unless (nat_lt 0 (length (text_in d))) WrongKind

-- each is an object if it is present; they are checked in this order
abbrev pub contexts_faults : Data → List Refusal
contexts_faults d = flat_map (λ name. optional object_faults (get name d)) (codes "github" ∷ codes "inputs" ∷ codes "vars" ∷ [])

abbrev pub inside_envelope : Data → List Refusal
inside_envelope d = faults_in_order (required WrongKind filled_text_faults (get (codes "repo") d)
    ∷ required WrongKind filled_text_faults (get (codes "path") d)
    ∷ contexts_faults d
    ∷ required WrongKind workflow_faults_in (get (codes "workflow") d) ∷ [])

abbrev pub event_faults_in : Data → List Refusal
event_faults_in = faults_within inside_envelope

abbrev pub event_in : Data → Event
event_in d = record {
  repo = text_in (member_at (codes "repo") d);
  path = text_in (member_at (codes "path") d);
  contexts = contexts_in d;
  workflow = workflow_in (member_at (codes "workflow") d);
}

-- the faults of a body as an event, and its event if there are none
abbrev pub event_faults : List ℕ → List Refusal
event_faults bytes = body_faults event_faults_in bytes

abbrev pub event_of : List ℕ → Event
event_of bytes = event_in (body_value bytes)
