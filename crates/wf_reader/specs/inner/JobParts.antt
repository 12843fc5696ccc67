-- The two parts of a job that are read after its id and its kind: the faults and the value of each.
use Rattle.std.specs.Prelude.{[], ◌∷◌, codes, List, option_map}
use Rattle.serde_json.specs.Data.{Data}
use Rattle.serde_json.specs.Find.{get}
use Rattle.wf_value.specs.declared.code.Code.TheVariants.{NoLabels}
use Rattle.wf_value.specs.declared.refusal.Refusal.{Refusal}
use Rattle.wf_expr.specs.declared.context_site.ContextSite.TheVariants as context_site
use Rattle.wf_reader.specs.Job.{concurrency_faults, concurrency_in, condition_faults, condition_where, flag_faults, flag_in}
use Rattle.wf_reader.specs.Faults.{faults_in_order, optional, required}
use Rattle.wf_reader.specs.Job.{labels_faults, requested_labels, needs_faults, needs_in}
use Rattle.wf_reader.specs.Json.{member_at}
use Rattle.wf_reader.specs.Strategy.{strategy_faults, strategy_of}
use Rattle.wf_reader.specs.declared.job.Legs.{Legs}
use Rattle.wf_reader.specs.declared.job.Start.{Start}

-- ---- where the job runs and when it starts: its runs-on, needs and if

abbrev pub start_checks : Data → List (List Refusal)
start_checks d = required NoLabels labels_faults (get (codes "runs-on") d)
    ∷ optional needs_faults (get (codes "needs") d)
    ∷ optional condition_faults (get (codes "if") d) ∷ []

abbrev pub start_faults : Data → List Refusal
start_faults d = faults_in_order (start_checks d)

abbrev pub start_of : Data → Start
start_of d = record {
  labels = requested_labels (member_at (codes "runs-on") d);
  needs = needs_in (member_at (codes "needs") d);
  condition = condition_where (get (codes "if") d);
}

-- ---- how its legs run: its continue-on-error, concurrency and strategy

abbrev pub legs_checks : Data → List (List Refusal)
legs_checks d = optional (flag_faults context_site.Job) (get (codes "continue-on-error") d)
    ∷ optional (concurrency_faults context_site.Job) (get (codes "concurrency") d)
    ∷ optional strategy_faults (get (codes "strategy") d) ∷ []

abbrev pub legs_faults : Data → List Refusal
legs_faults d = faults_in_order (legs_checks d)

abbrev pub legs_of : Data → Legs
legs_of d = record {
  continue_on_error = flag_in context_site.Job (member_at (codes "continue-on-error") d);
  concurrency = option_map (concurrency_in context_site.Job) (get (codes "concurrency") d);
  strategy = option_map strategy_of (get (codes "strategy") d);
}
