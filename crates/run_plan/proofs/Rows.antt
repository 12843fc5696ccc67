-- Examples of small texts, replies and plans, computed from the definitions.
use Rattle.std.specs.Prelude.{◌≡◌, ℕ, pos, List, [], ◌∷◌, map, Some, None, true, false, refl, codes}
use Rattle.std.specs.Fmt.{digits}
use Rattle.std.specs.Str.{is_utf8, chars}
use Rattle.serde_json.proofs.OnLiterals.{serde_json_on_literals}
use Rattle.wf_value.specs.ScalarValue.{NamedValues}
use Rattle.wf_value.specs.declared.code.Code.TheVariants.{HasLease, LegCount, MatrixTooLarge, UnknownNeed}
use Rattle.wf_value.specs.declared.condition.Condition.TheVariants.{Success, Always}
use Rattle.wf_value.specs.declared.refusal.Refusal.TheVariants.{Numbered, Cycle, Turn}
use Rattle.wf_value.specs.declared.scalar.Scalar.TheVariants.{Null, Truth, Whole, Text}
use lib.Utf8.{encode}
use Rattle.wf_expr.specs.inner.Parsing.{run}
use Rattle.wf_expr.specs.declared.piece.Piece.TheVariants.{Plain}
use Rattle.wf_reader.specs.declared.flag.Flag.TheVariants.{Fixed}
use Rattle.wf_reader.specs.declared.job.Job.{Job}
use Rattle.wf_reader.specs.declared.workflow.Workflow.{Workflow}
use Rattle.run_plan.specs.declared.reply.Reply.TheVariants as reply
use Rattle.run_plan.specs.PlanOf.{plan_faults, plan_graph, plan_of, workflow_plan}
use Rattle.run_plan.specs.ReplyText.{combo_text, reply_text}
use Rattle.definitions.specs.SmallText.{delivery_id_of, event_name_of, label_list_of, number_of, runner_name_of}

-- ---- small texts

delivery : delivery_id_of (codes "d1") ≡ Some (codes "d1")
delivery = refl

no_delivery : delivery_id_of (codes "d_1") ≡ None
no_delivery = refl

event : event_name_of (codes "push") ≡ Some (codes "push")
event = refl

no_event : event_name_of (codes "Push") ≡ None
no_event = refl

runner : runner_name_of (codes "r-1.x_Y") ≡ Some (codes "r-1.x_Y")
runner = refl

no_runner : runner_name_of [] ≡ None
no_runner = refl

labels : label_list_of (codes "X64,linux") ≡ Some (codes "X64" ∷ codes "linux" ∷ [])
labels = refl

empty_label : label_list_of (codes "X64,") ≡ None
empty_label = refl

label_with_space : label_list_of (codes "X64, linux") ≡ None
label_with_space = refl

last_number : number_of (codes "999999999") ≡ Some 999999999
last_number = refl

ten_digits : number_of (codes "1000000000") ≡ None
ten_digits = refl

leading_zero : number_of (codes "01") ≡ None
leading_zero = refl

-- ---- replies

created : reply_text (reply.Created 1) ≡ codes "created 1"
unfolding digits
created = refl

lease : reply_text (reply.Lease (record { lease = 1; run = 1; job = codes "build"; leg = 0; combo = [] })) ≡ codes "lease 1 1 build 0 {}"
unfolding digits
lease = refl

forgotten : reply_text (reply.Forgotten 2) ≡ codes "forgotten 2"
unfolding digits
forgotten = refl

none_forgotten : reply_text (reply.Forgotten 0) ≡ codes "forgotten 0"
unfolding digits
none_forgotten = refl

has_lease : reply_text (reply.Refused (Numbered HasLease)) ≡ codes "refused 42"
unfolding digits
has_lease = refl

out_of_order : reply_text (reply.Refused (Turn 0)) ≡ codes "refused 43 0"
unfolding digits
out_of_order = refl

combo : combo_text ((codes "a", Text (codes "x\"y")) ∷ (codes "b", Truth true) ∷ (codes "n", Whole (pos 16)) ∷ (codes "z", Null) ∷ [])
    ≡ codes "{\"a\":\"x\\\"y\",\"b\":true,\"n\":16,\"z\":null}"
unfolding digits serde_json_on_literals
combo = refl

-- ---- plans

abbrev job_needing : List ℕ → List (List ℕ) → Job
job_needing id needs = record {
  id = id;
  labels = (Plain (codes "x") ∷ []) ∷ [];
  needs = needs;
  condition = Success;
  continue_on_error = Fixed false;
  concurrency = None;
  strategy = None;
}

abbrev plain_job : List ℕ → Job
plain_job id = job_needing id []

abbrev job_of_matrix : List ℕ → List NamedValues → Job
job_of_matrix id variables = record {
  id = id;
  labels = (Plain (codes "x") ∷ []) ∷ [];
  needs = codes "a" ∷ [];
  condition = Always;
  continue_on_error = Fixed true;
  concurrency = None;
  strategy = Some (record {
    matrix = Some (record { variables = variables; include = []; exclude = [] });
    fail_fast = false;
    max_parallel = Some 2;
  });
}

abbrev of_jobs : List Job → Workflow
of_jobs jobs = record { name = []; concurrency = None; jobs = jobs }

plan_of_a_plain_job : workflow_plan (of_jobs (plain_job (codes "b") ∷ [])) ≡ record {
  id = codes "b";
  labels = (Plain (codes "x") ∷ []) ∷ [];
  needs = [];
  condition = Success;
  continue_on_error = Fixed false;
  concurrency = None;
  fail_fast = true;
  max_parallel = None;
  legs = record { combo = [] } ∷ [];
} ∷ []
plan_of_a_plain_job = refl

plan_of_a_matrix : workflow_plan (of_jobs (job_of_matrix (codes "m") ((codes "n", Whole (pos 1) ∷ Null ∷ []) ∷ []) ∷ [])) ≡ record {
  id = codes "m";
  labels = (Plain (codes "x") ∷ []) ∷ [];
  needs = codes "a" ∷ [];
  condition = Always;
  continue_on_error = Fixed true;
  concurrency = None;
  fail_fast = false;
  max_parallel = Some 2;
  legs = record { combo = (codes "n", Whole (pos 1)) ∷ [] } ∷ record { combo = (codes "n", Null) ∷ [] } ∷ [];
} ∷ []
plan_of_a_matrix = refl

-- 13 variables of two values
abbrev too_many : List NamedValues
too_many = map (λ name. (name ∷ [], Null ∷ Truth true ∷ [])) (codes "abcdefghijklm")

too_many_choices : plan_faults (of_jobs (plain_job (codes "a") ∷ job_of_matrix (codes "b") too_many ∷ [])) ≡ Numbered MatrixTooLarge ∷ []
too_many_choices = refl

-- matrices in order: `a` has no leg, then `b` has too many choices; the needs come last
no_leg_first : plan_faults (of_jobs (job_of_matrix (codes "a") [] ∷ job_of_matrix (codes "b") too_many ∷ []))
    ≡ Numbered LegCount ∷ Numbered MatrixTooLarge ∷ Cycle (codes "a" ∷ []) ∷ []
no_leg_first = refl

-- `b` needs an unknown job, and `a` needs itself
no_such_job : plan_faults (of_jobs (job_needing (codes "a") (codes "a" ∷ []) ∷ job_needing (codes "b") (codes "c" ∷ []) ∷ []))
    ≡ Numbered UnknownNeed ∷ []
no_such_job = refl

-- in the order of the ids, not in that of the lists; `c` needs a cycle but is not on one
cycle : plan_faults (of_jobs (job_needing (codes "a") (codes "b" ∷ []) ∷ job_needing (codes "b") (codes "b" ∷ codes "a" ∷ [])
    ∷ job_needing (codes "c") (codes "b" ∷ []) ∷ [])) ≡ Cycle (codes "a" ∷ codes "b" ∷ []) ∷ []
cycle = refl

graph : plan_graph (workflow_plan (of_jobs (plain_job (codes "a") ∷ job_needing (codes "b") (codes "c" ∷ codes "a" ∷ codes "a" ∷ [])
    ∷ plain_job (codes "c") ∷ []))) ≡ [] ∷ (0 ∷ 2 ∷ []) ∷ [] ∷ []
graph = refl

plan_of_body : plan_of (codes "{\"repo\":\"o/r\",\"path\":\"ci.json\",\"workflow\":{\"jobs\":{\"b\":{\"runs-on\":\"x\"}}}}")
    ≡ workflow_plan (of_jobs (plain_job (codes "b") ∷ []))
unfolding serde_json_on_literals is_utf8 chars encode run
plan_of_body = refl
