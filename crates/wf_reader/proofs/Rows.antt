-- Examples on bodies, computed from the definitions: each list has all faults, and the refusal is the first of them.
use Rattle.std.proofs.Common.{◌≡◌, ℕ, List, [], ◌∷◌, ◌++◌, false, codes, None, Some, refl}
use Rattle.std.specs.Prelude.{pos}
use Rattle.serde_json.specs.Data.{unsigned, null, number, array, object, no_items, no_members, member}
use Rattle.wf_value.specs.declared.code.Code.TheVariants.{NotJson, WrongKind, JobId, NoLabels, LeftOut, Expression, StrategyMember}
use Rattle.wf_value.specs.declared.code.Code.TheVariants.{Condition}
use Rattle.wf_value.specs.declared.condition.Condition.TheVariants.{Success}
use Rattle.wf_value.specs.declared.scalar.Scalar.TheVariants.{Null, Whole}
use Rattle.wf_expr.specs.declared.piece.Operand.TheVariants.{Reference}
use Rattle.wf_expr.specs.declared.piece.Piece.{Piece}
use Rattle.wf_expr.specs.declared.piece.Piece.TheVariants.{Plain, Braced}
use Rattle.wf_reader.specs.Contexts.{ContextObjects, sent_value}
use Rattle.wf_reader.specs.Event.{event_faults, event_of}
use Rattle.wf_reader.specs.Workflow.{workflow_faults, workflow_of}
use Rattle.wf_reader.specs.declared.flag.Flag.TheVariants.{Fixed, Template}
use Rattle.wf_reader.specs.declared.job.Job.{Job}
use Rattle.wf_reader.specs.declared.workflow.Workflow.{Workflow}
use Rattle.wf_reader.proofs.OnLiterals.{FaultsAre, ValuesAre, wf_reader_on_literals}

-- workflow bodies with all their faults
of_workflows : FaultsAre workflow_faults (
    -- not UTF-8
    (255 ∷ [], NotJson ∷ [])
    -- not JSON
    ∷ (codes "[", NotJson ∷ [])
    -- empty object
    ∷ (codes "{}", WrongKind ∷ [])
    -- not an object
    ∷ (codes "[1]", WrongKind ∷ [])
    -- no job
    ∷ (codes "{\"jobs\":{}}", WrongKind ∷ [])
    -- null name
    ∷ (codes "{\"name\":null,\"jobs\":{\"a\":{\"runs-on\":\"x\"}}}", WrongKind ∷ [])
    -- workflow concurrency
    ∷ (codes "{\"concurrency\":null,\"jobs\":{\"a\":{\"runs-on\":\"x\"}}}", WrongKind ∷ [])
    -- id that begins with a digit
    ∷ (codes "{\"jobs\":{\"1a\":{\"runs-on\":\"x\"}}}", JobId ∷ [])
    -- id comes before its job
    ∷ (codes "{\"jobs\":{\"1a\":{}}}", JobId ∷ NoLabels ∷ [])
    -- missing labels
    ∷ (codes "{\"jobs\":{\"a\":{}}}", NoLabels ∷ [])
    -- empty labels
    ∷ (codes "{\"jobs\":{\"a\":{\"runs-on\":[]}}}", NoLabels ∷ [])
    -- reusable workflow
    ∷ (codes "{\"jobs\":{\"a\":{\"uses\":\"./x.yml\"}}}", LeftOut ∷ NoLabels ∷ [])
    -- runner group
    ∷ (codes "{\"jobs\":{\"a\":{\"runs-on\":{}}}}", LeftOut ∷ [])
    -- label kind
    ∷ (codes "{\"jobs\":{\"a\":{\"runs-on\":[\"x\",{}]}}}", WrongKind ∷ [])
    -- labels in order
    ∷ (codes "{\"jobs\":{\"a\":{\"runs-on\":[\"${{ x }}\",5]}}}", Expression ∷ WrongKind ∷ [])
    -- label outside the profile
    ∷ (codes "{\"jobs\":{\"a\":{\"runs-on\":\"a${{ secrets.x }}\"}}}", Expression ∷ [])
    -- flag kind
    ∷ (codes "{\"jobs\":{\"a\":{\"runs-on\":\"x\",\"continue-on-error\":null}}}", WrongKind ∷ [])
    -- flag expression
    ∷ (codes "{\"jobs\":{\"a\":{\"continue-on-error\":\"${{ a }}\",\"runs-on\":\"${{ }}\"}}}", Expression ∷ Expression ∷ [])
    -- jobs in order
    ∷ (codes "{\"jobs\":{\"b\":{\"runs-on\":5},\"a\":{\"runs-on\":\"x\",\"needs\":5}}}", WrongKind ∷ WrongKind ∷ [])
    -- members in order
    ∷ (
      codes "{\"jobs\":{\"a\":{\"runs-on\":\"x\",\"strategy\":null,\"concurrency\":\"${{ a }}\"," ++ codes
          "\"continue-on-error\":5,\"if\":\"b\",\"needs\":[{}]}}}",
      WrongKind ∷ Condition ∷ WrongKind ∷ Expression ∷ StrategyMember ∷ [],
    )
    -- ignored members
    ∷ (codes "{\"on\":\"push\",\"env\":{},\"jobs\":{\"a\":{\"runs-on\":[\"x\",\"\"],\"steps\":[1],\"name\":5}}}", [])
    ∷ [])
unfolding wf_reader_on_literals
of_workflows = refl

-- event bodies with all their faults
of_events : FaultsAre event_faults (
    -- missing envelope members
    (codes "{}", WrongKind ∷ WrongKind ∷ WrongKind ∷ [])
    -- empty repo
    ∷ (codes "{\"repo\":\"\",\"path\":\"p\",\"workflow\":{\"jobs\":{\"a\":{\"runs-on\":\"x\"}}}}", WrongKind ∷ [])
    -- contexts
    ∷ (
      codes "{\"repo\":\"r\",\"path\":\"p\",\"github\":null,\"inputs\":[],\"vars\":{}," ++ codes
          "\"workflow\":{\"jobs\":{\"1a\":{\"runs-on\":\"x\"}}}}",
      WrongKind ∷ WrongKind ∷ JobId ∷ [],
    )
    -- envelope comes first
    ∷ (codes "{\"path\":\"p\",\"repo\":1,\"workflow\":{\"jobs\":{\"a\":{}}}}", WrongKind ∷ NoLabels ∷ [])
    -- no fault
    ∷ (codes "{\"repo\":\"o/r\",\"path\":\"ci.json\",\"workflow\":{\"jobs\":{\"build\":{\"runs-on\":\"linux\"}}}}", [])
    ∷ [])
unfolding wf_reader_on_literals
of_events = refl

-- a job with labels only
abbrev job_on : List ℕ → List (List Piece) → Job
job_on id labels = record {
  id = id;
  labels = labels;
  needs = [];
  condition = Success;
  continue_on_error = Fixed false;
  concurrency = None;
  strategy = None;
}

abbrev workflow_with : List ℕ → List Job → Workflow
workflow_with name jobs = record { name = name; concurrency = None; jobs = jobs }

-- the jobs are in the order of their ids
in_order : workflow_of (codes "{\"name\":\"n\",\"jobs\":{\"b\":{\"runs-on\":[\"linux\",\"x64\"]},\"a\":{\"runs-on\":\"y\"}}}")
    ≡ workflow_with (codes "n") (job_on (codes "a") ((Plain (codes "y") ∷ []) ∷ [])
    ∷ job_on (codes "b") ((Plain (codes "linux") ∷ []) ∷ (Plain (codes "x64") ∷ []) ∷ []) ∷ [])
unfolding wf_reader_on_literals
in_order = refl

templates : workflow_of (codes "{\"jobs\":{\"a\":{\"runs-on\":\"${{ vars.os }}-x\",\"continue-on-error\":\"${{ matrix.soft }}\"}}}")
    ≡ workflow_with []
    (record (job_on (codes "a") ((Braced (Reference (codes "vars" ∷ codes "os" ∷ []) ∷ []) ∷ Plain (codes "-x") ∷ []) ∷ [])) {
      continue_on_error = Template (Braced (Reference (codes "matrix" ∷ codes "soft" ∷ []) ∷ []) ∷ []);
    } ∷ [])
unfolding wf_reader_on_literals
templates = refl

envelope : event_of (codes "{\"repo\":\"o/r\",\"path\":\"ci.json\",\"vars\":{\"l\":1},"
    ++ codes "\"workflow\":{\"jobs\":{\"build\":{\"runs-on\":\"linux\"}}}}")
    ≡ record {
      repo = codes "o/r";
      path = codes "ci.json";
      contexts = record
          { github = None; inputs = None; vars = Some (object (member (codes "l") (number (unsigned 1)) no_members)) };
      workflow = workflow_with [] (job_on (codes "build") ((Plain (codes "linux") ∷ []) ∷ []) ∷ []);
    }
unfolding wf_reader_on_literals
envelope = refl

-- ---- the value of a path in the contexts

abbrev sent : ContextObjects
sent = record {
  github = Some (object (member (codes "event") (object (member (codes "n") (number (unsigned 7)) no_members)) no_members));
  inputs = None;
  vars = Some (object (member (codes "a") null (member (codes "b") (array no_items) no_members)));
}

of_paths : ValuesAre (sent_value sent) (
    -- nested
    (codes "github" ∷ codes "event" ∷ codes "n" ∷ [], Some (Whole (pos 7)))
    -- null is a value
    ∷ (codes "vars" ∷ codes "a" ∷ [], Some Null)
    -- a list has no value
    ∷ (codes "vars" ∷ codes "b" ∷ [], None)
    -- an object has no value
    ∷ (codes "github" ∷ codes "event" ∷ [], None)
    -- a missing context has no value
    ∷ (codes "inputs" ∷ codes "a" ∷ [], None)
    ∷ [])
of_paths = refl
