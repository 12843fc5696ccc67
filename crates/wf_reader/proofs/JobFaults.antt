-- If the id and the kind of a job are right, its faults are those of its parts.
use Rattle.std.proofs.Common.{◌≡◌, ℕ, List, [], ◌∷◌, ◌++◌, true, if◌then◌else◌, is_some, Option, Result, codes, sym, ap, ◌∙◌}
use Rattle.std.proofs.lemmas.List.{append-nil}
use Rattle.serde_json.specs.Data.{Data}
use Rattle.serde_json.specs.Find.{get, as_object}
use Rattle.wf_value.specs.declared.code.Code.TheVariants.{WrongKind, JobId}
use Rattle.wf_value.specs.declared.refusal.Refusal.{Refusal}
use Rattle.wf_value.specs.declared.condition.Condition.{Condition}
use Rattle.wf_expr.specs.declared.piece.Piece.{Piece}
use Rattle.wf_reader.specs.Faults.{unless_faulty, fault, fault_unless, faults_in_order, faults_within, left_out}
use Rattle.wf_reader.specs.Job.{is_job_id, inside_job, job_faults}
use Rattle.wf_reader.specs.inner.JobParts.{start_checks, start_faults, legs_checks, legs_faults}
use Rattle.wf_reader.specs.declared.concurrency.Concurrency.{Concurrency}
use Rattle.wf_reader.specs.declared.flag.Flag.{Flag}
use Rattle.wf_reader.specs.declared.job.Job.{Job}
use Rattle.wf_reader.specs.declared.job.Legs.{Legs}
use Rattle.wf_reader.specs.declared.job.Start.{Start}
use Rattle.wf_reader.specs.declared.strategy.Strategy.{Strategy}
use Rattle.wf_reader.proofs.InOrder.{of_both}

pub inside_object : {X : Type 0} (inside : Data → List Refusal) (d : Data) (x : X) (r : Result X Refusal)
    → true ≡ is_some (as_object d) → unless_faulty (inside d) x ≡ r → unless_faulty (faults_within inside d) x ≡ r
inside_object inside d x r o h = ap (λ b. unless_faulty (if b then inside d else fault WrongKind) x) (sym o) ∙ h

-- the checks of a job, by part
abbrev by_parts : Data → List Refusal
by_parts d = faults_in_order (left_out (get (codes "uses") d) ∷ start_faults d ∷ legs_faults d ∷ [])

parted : (d : Data) → inside_job d ≡ by_parts d
parted d = ap (λ fs. left_out (get (codes "uses") d) ++ fs) (
    of_both (start_checks d) (legs_checks d) ∙ ap (λ fs. start_faults d ++ fs) (sym (append-nil (legs_faults d))))

pub within_job : {X : Type 0} (id : List ℕ) (d : Data) (x : X) (r : Result X Refusal) → true ≡ is_job_id id
    → true ≡ is_some (as_object d) → unless_faulty (by_parts d) x ≡ r → unless_faulty (job_faults (id, d)) x ≡ r
within_job id d x r i o h =
    ap (λ b. unless_faulty (fault_unless b JobId ++ faults_within inside_job d) x) (sym i)
    ∙ inside_object inside_job d x r o (ap (λ fs. unless_faulty fs x) (parted d) ∙ h)

-- ---- a job and its parts, from their contents

abbrev start_with : List (List Piece) → List (List ℕ) → Condition → Start
start_with labels needs condition = record { labels = labels; needs = needs; condition = condition }

pub start_made : (asked labels : List (List Piece)) (listed needs : List (List ℕ)) (told condition : Condition)
    → asked ≡ labels → listed ≡ needs → told ≡ condition → start_with asked listed told ≡ start_with labels needs condition
start_made asked labels listed needs told condition p q r =
    ap (λ x. start_with x listed told) p ∙ ap (λ x. start_with labels x told) q ∙ ap (start_with labels needs) r

abbrev legs_with : Flag → Option Concurrency → Option Strategy → Legs
legs_with flag group strategy = record { continue_on_error = flag; concurrency = group; strategy = strategy }

pub legs_made : (set flag : Flag) (held group : Option Concurrency) (said strategy : Option Strategy)
    → set ≡ flag → held ≡ group → said ≡ strategy → legs_with set held said ≡ legs_with flag group strategy
legs_made set flag held group said strategy p q r =
    ap (λ x. legs_with x held said) p ∙ ap (λ x. legs_with flag x said) q ∙ ap (legs_with flag group) r

abbrev job_with : List ℕ → Start → Legs → Job
job_with id start legs = record {
  id = id;
  labels = start.labels;
  needs = start.needs;
  condition = start.condition;
  continue_on_error = legs.continue_on_error;
  concurrency = legs.concurrency;
  strategy = legs.strategy;
}

pub job_made : (id text : List ℕ) (asked start : Start) (told legs : Legs) → id ≡ text → asked ≡ start → told ≡ legs
    → job_with id asked told ≡ job_with text start legs
job_made id text asked start told legs p q r =
    ap (λ x. job_with x asked told) p ∙ ap (λ x. job_with text x told) q ∙ ap (job_with text start) r
