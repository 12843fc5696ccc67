-- A job of a workflow: its templates, flags, needs, condition and concurrency.
use Rattle.std.specs.Prelude.{ℕ, List, [], Result, Ok, Err, false, map, flat_map, ◌-◌, ◌==◌, ◌∷◌, length, take, drop, reverse, find, codes}
use Rattle.std.specs.Prelude.{Bool, is_some, if◌then◌else◌, Option, Some, None, option_map, option_and_then, unwrap_or, true, ◌&&◌, ◌||◌}
use Rattle.std.specs.Prelude.{◌++◌, nat_le}
use Rattle.wf_value.specs.declared.refusal.Refusal.{Refusal}
use Rattle.wf_expr.specs.declared.piece.Piece.{Piece}
use Rattle.wf_expr.specs.declared.context_site.ContextSite.{ContextSite}
use Rattle.wf_reader.specs.Faults.{outcome_faults, fault, text_faults, fault_unless, faults_in_order, optional, required, left_out}
use Rattle.wf_reader.specs.Faults.{faults_within}
use Rattle.serde_json.specs.Data.{Data, null, boolean, number, string, array, object, no_items, item}
use Rattle.wf_value.specs.declared.code.Code.TheVariants.{WrongKind, JobId, NoLabels, LeftOut}
use Rattle.wf_reader.specs.declared.flag.Flag.{Flag}
use Rattle.wf_reader.specs.declared.flag.Flag.TheVariants.{Fixed, Template}
use Rattle.wf_reader.specs.Json.{item_list, listed, text_in, members_of, member_at}
use Rattle.std.specs.Str.{bytes_eq}
use Rattle.wf_value.specs.declared.code.Code.TheVariants as code
use Rattle.wf_value.specs.declared.condition.Condition.{Condition}
use Rattle.wf_value.specs.declared.condition.Condition.TheVariants.{Success, Failure, Always, Cancelled, NotCancelled, Never}
use Rattle.std.specs.List.{list_all}
use Rattle.std.specs.Option.{option_map_or, option_or}
use Rattle.serde_json.specs.Find.{get, as_bool, as_str}
use Rattle.wf_reader.specs.declared.concurrency.Concurrency.{Concurrency}
use Rattle.std.specs.Char.{is_ascii_alphabetic, is_ascii_digit}
use Rattle.definitions.specs.Limits.{max_job_id}
use Rattle.wf_expr.specs.declared.context_site.ContextSite.TheVariants as context_site
use Rattle.wf_reader.specs.Strategy.{strategy_faults, strategy_of}
use Rattle.wf_reader.specs.Templates.{template_of}
use Rattle.wf_reader.specs.declared.job.Job.{Job}

-- ---- members whose texts are templates: the faults of such a text, and its template. GitHub Docs, "Evaluate expressions in workflows
-- and actions" and "Contexts reference" (Context availability).

abbrev pub outcome_pieces : Result (List Piece) Refusal → List Piece
outcome_pieces (Ok t) = t
outcome_pieces (Err e) = []

-- 17 if the text is not a template, else 18 if the site does not allow one of its contexts
abbrev pub template_faults : ContextSite → List ℕ → List Refusal
template_faults site text = outcome_faults (template_of text site)

-- the pieces of the text's template
abbrev pub template_in : ContextSite → List ℕ → List Piece
template_in site text = outcome_pieces (template_of text site)

-- ---- members that set a flag: a boolean, or a template whose value decides. GitHub Docs, "Workflow syntax for GitHub Actions":
-- jobs.<job_id>.continue-on-error, concurrency (cancel-in-progress).

abbrev pub flag_faults : ContextSite → Data → List Refusal
flag_faults site null = fault WrongKind
flag_faults site (boolean b) = []
flag_faults site (number n) = fault WrongKind
flag_faults site (string t) = template_faults site t
flag_faults site (array ds) = fault WrongKind
flag_faults site (object ms) = fault WrongKind

-- a missing flag is not set
abbrev pub flag_in : ContextSite → Data → Flag
flag_in site null = Fixed false
flag_in site (boolean b) = Fixed b
flag_in site (number n) = Fixed false
flag_in site (string t) = Template (template_in site t)
flag_in site (array ds) = Fixed false
flag_in site (object ms) = Fixed false

-- ---- the `needs` of a job: the ids that it lists. GitHub Docs, "Workflow syntax for GitHub Actions": jobs.<job_id>.needs.

-- a text, or a list of texts, which may be empty
abbrev pub needs_faults : Data → List Refusal
needs_faults null = fault WrongKind
needs_faults (boolean b) = fault WrongKind
needs_faults (number n) = fault WrongKind
needs_faults (string t) = []
needs_faults (array ds) = flat_map text_faults (item_list ds)
needs_faults (object ms) = fault WrongKind

-- in list order, with repetitions
abbrev pub needs_in : Data → List (List ℕ)
needs_in d = map text_in (listed d)

-- ---- the `if` of a job: the values and texts that are conditions. That no other expression is a condition is defined by this project.
-- GitHub Docs, "Workflow syntax for GitHub Actions": jobs.<job_id>.if; "Evaluate expressions in workflows and actions": Status
-- check functions.

-- ---- the words and their conditions

abbrev pub condition_words : List (List ℕ × Condition)
condition_words =
    (codes "success()", Success) ∷ (codes "true", Success)
    ∷ (codes "failure()", Failure)
    ∷ (codes "always()", Always)
    ∷ (codes "cancelled()", Cancelled)
    ∷ (codes "!cancelled()", NotCancelled)
    ∷ (codes "false", Never) ∷ []

abbrev pub condition_of_word : List ℕ → Option Condition
condition_of_word word = option_map (λ w. w.1) (find (λ w. bytes_eq word w.0) condition_words)

-- ---- optional spaces and braces around a word

-- only U+0020 is a space
abbrev pub is_space : ℕ → Bool
is_space b = b == 32

-- without leading spaces
abbrev pub past_spaces : List ℕ → List ℕ
past_spaces [] = []
past_spaces (b ∷ bs) = if is_space b then past_spaces bs else b ∷ bs

-- without trailing spaces
abbrev pub up_to_spaces : List ℕ → List ℕ
up_to_spaces text = reverse (past_spaces (reverse text))

abbrev pub trimmed : List ℕ → List ℕ
trimmed text = up_to_spaces (past_spaces text)

-- the text after a prefix, and the text before a suffix
abbrev pub suffix : List ℕ → List ℕ → Option (List ℕ)
suffix prefix text = if bytes_eq (take (length prefix) text) prefix then Some (drop (length prefix) text) else None

abbrev pub before : List ℕ → List ℕ → Option (List ℕ)
before end text =
    let most = length text - length end in if bytes_eq (drop most text) end then Some (take most text) else None

abbrev pub inside_braces : List ℕ → Option (List ℕ)
inside_braces text = option_and_then (before (codes "}}")) (suffix (codes "${{") text)

-- the word of a text, bare or in braces
abbrev pub word_in : List ℕ → List ℕ
word_in text = unwrap_or (option_map trimmed (inside_braces (trimmed text))) (trimmed text)

-- ---- the condition of a text or a boolean

abbrev pub condition_in : Data → Option Condition
condition_in null = None
condition_in (boolean b) = Some (if b then Success else Never)
condition_in (number n) = None
condition_in (string t) = condition_of_word (word_in t)
condition_in (array ds) = None
condition_in (object ms) = None

abbrev pub condition_faults : Data → List Refusal
condition_faults d = fault_unless (is_some (condition_in d)) code.Condition

-- a job without `if` runs if the jobs that it needs succeeded
abbrev pub condition_where : Option Data → Condition
condition_where given = unwrap_or (option_and_then condition_in given) Success

-- ---- the `concurrency` of a workflow or of a job: its faults and its value.
-- GitHub Docs, "Workflow syntax for GitHub Actions": concurrency, jobs.<job_id>.concurrency.

-- ---- its kind: a text, or an object whose `group` is a text

-- the text that names the group: the value itself, else its member `group`
abbrev pub group_text : Data → Option (List ℕ)
group_text d = option_or (as_str d) (option_and_then as_str (get (codes "group") d))

abbrev pub is_concurrency_name : List ℕ → Bool
is_concurrency_name name = bytes_eq name (codes "group") || bytes_eq name (codes "cancel-in-progress")

-- an object has only these members
abbrev pub has_its_names : Data → Bool
has_its_names d = list_all (λ m. is_concurrency_name m.0) (members_of d)

abbrev pub is_truth_or_text : Data → Bool
is_truth_or_text d = is_some (as_bool d) || is_some (as_str d)

abbrev pub is_concurrency : Data → Bool
is_concurrency d =
    is_some (group_text d) && has_its_names d && option_map_or is_truth_or_text (get (codes "cancel-in-progress") d) true

-- ---- all kinds are checked before the templates, and the group before `cancel-in-progress`

abbrev pub concurrency_faults : ContextSite → Data → List Refusal
concurrency_faults site d = faults_in_order (fault_unless (is_concurrency d) WrongKind
    ∷ template_faults site (unwrap_or (group_text d) [])
    ∷ optional (flag_faults site) (get (codes "cancel-in-progress") d) ∷ [])

abbrev pub concurrency_in : ContextSite → Data → Concurrency
concurrency_in site d = record {
  group = template_in site (unwrap_or (group_text d) []);
  cancel_in_progress = flag_in site (member_at (codes "cancel-in-progress") d);
}

-- ---- a job of a workflow: its faults and its value. `Needs`, `Condition`, `Concurrency` and `Strategy` define its needs, if,
-- concurrency and strategy.
-- GitHub Docs, "Workflow syntax for GitHub Actions": jobs.<job_id>, its runs-on and its continue-on-error.

-- ---- jobs.<job_id>: a letter or `_`, then letters, digits, `-` and `_`; the limit `max_job_id` is defined by this project

abbrev pub is_id_start : ℕ → Bool
is_id_start b = is_ascii_alphabetic b || b == 95

abbrev pub is_id_part : ℕ → Bool
is_id_part b = is_id_start b || is_ascii_digit b || b == 45

abbrev pub is_job_id : List ℕ → Bool
is_job_id [] = false
is_job_id (b ∷ bs) = is_id_start b && list_all is_id_part bs && nat_le (length (b ∷ bs)) max_job_id

-- ---- runs-on: a text, or a list of texts, each of them a template

abbrev pub label_faults : Data → List Refusal
label_faults null = fault WrongKind
label_faults (boolean b) = fault WrongKind
label_faults (number n) = fault WrongKind
label_faults (string t) = template_faults context_site.Job t
label_faults (array ds) = fault WrongKind
label_faults (object ms) = fault WrongKind

-- an object names a runner group, which is not supported
abbrev pub labels_faults : Data → List Refusal
labels_faults null = fault WrongKind
labels_faults (boolean b) = fault WrongKind
labels_faults (number n) = fault WrongKind
labels_faults (string t) = label_faults (string t)
labels_faults (array no_items) = fault NoLabels
labels_faults (array (item d ds)) = flat_map label_faults (item_list (item d ds))
labels_faults (object ms) = fault LeftOut

abbrev pub label_in : Data → List Piece
label_in d = template_in context_site.Job (text_in d)

abbrev pub requested_labels : Data → List (List Piece)
requested_labels d = map label_in (listed d)

-- ---- the job: its members are checked in this order

abbrev pub inside_job : Data → List Refusal
inside_job d = faults_in_order (left_out (get (codes "uses") d)
    ∷ required NoLabels labels_faults (get (codes "runs-on") d)
    ∷ optional needs_faults (get (codes "needs") d)
    ∷ optional condition_faults (get (codes "if") d)
    ∷ optional (flag_faults context_site.Job) (get (codes "continue-on-error") d)
    ∷ optional (concurrency_faults context_site.Job) (get (codes "concurrency") d)
    ∷ optional strategy_faults (get (codes "strategy") d) ∷ [])

-- a job is an id and a value
abbrev pub job_faults : List ℕ × Data → List Refusal
job_faults job = fault_unless (is_job_id job.0) JobId ++ faults_within inside_job job.1

abbrev pub job_of : List ℕ × Data → Job
job_of job = record {
  id = job.0;
  labels = requested_labels (member_at (codes "runs-on") job.1);
  needs = needs_in (member_at (codes "needs") job.1);
  condition = condition_where (get (codes "if") job.1);
  continue_on_error = flag_in context_site.Job (member_at (codes "continue-on-error") job.1);
  concurrency = option_map (concurrency_in context_site.Job) (get (codes "concurrency") job.1);
  strategy = option_map strategy_of (get (codes "strategy") job.1);
}
