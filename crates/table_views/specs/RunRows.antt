-- A run as a row of a list. The format is defined by this project. GitHub Docs, "REST API endpoints for workflow runs" and "Contexts reference".
use Rattle.std.specs.Prelude.{ℕ, ◌==◌, List, [], ◌∷◌, ◌++◌, codes, decimal, Option, Some, None, option_map, option_and_then}
use Rattle.std.specs.List.{before_first}
use Rattle.std.specs.Option.{option_or}
use Rattle.wf_value.specs.ScalarValue.{outcome_word}
use Rattle.wf_value.specs.declared.scalar.Scalar.{Scalar}
use Rattle.wf_value.specs.declared.scalar.Scalar.TheVariants as scalar
use Rattle.needs_graph.specs.Needs.{conclusion_of}
use Rattle.wf_reader.specs.Contexts.{sent_value}
use Rattle.wf_reader.specs.Event.{event_of}
use Rattle.definitions.specs.SmallText.{Admitted}
use Rattle.group_name.specs.KeyTexts.{name_bytes}
use Rattle.table_model.specs.Groups.{group_at}
use Rattle.table_model.specs.Runs.{JobState, RunState}
use Rattle.table_model.specs.declared.holder.Holder.TheVariants.{Run}
use Rattle.table_model.specs.declared.phases.RunPhase.{RunPhase}
use Rattle.table_model.specs.declared.phases.RunPhase.TheVariants as phase
use Rattle.table_model.specs.TableState.{TableState, index_of}
use Rattle.table_model.specs.ViewText.{Seen, results_of, status_text}
use Rattle.table_views.specs.Members.{member, text_or_null}
use Rattle.table_views.specs.Texts.{quoted}

-- ---- what a row shows

abbrev pub text_of : Scalar → Option (List ℕ)
text_of (scalar.Text text) = Some text
text_of _ = None

-- the text at a path of the contexts that the sender supplied, if there is one
abbrev pub sent_text : List (List ℕ) → Admitted → Option (List ℕ)
sent_text path event = option_and_then text_of (sent_value (event_of event.body).contexts path)

-- a member of `github`, if it is a text
abbrev pub github_text : List ℕ → Admitted → Option (List ℕ)
github_text name event = sent_text (codes "github" ∷ name ∷ []) event

abbrev pub ref_of : Admitted → Option (List ℕ)
ref_of event = github_text (codes "ref") event

-- the bytes before the first line feed, or all
abbrev pub first_line : List ℕ → List ℕ
first_line text = before_first (λ b. b == 10) text

-- the title of the pull request, where the sender put it there
abbrev pub pull_title : Admitted → Option (List ℕ)
pull_title event = sent_text (codes "github" ∷ codes "event" ∷ codes "pull_request" ∷ codes "title" ∷ []) event

-- the first line of the head commit's message, where the sender put it there
abbrev pub commit_title : Admitted → Option (List ℕ)
commit_title event = option_map first_line (sent_text (codes "github" ∷ codes "event" ∷ codes "head_commit" ∷ codes "message" ∷ []) event)

abbrev pub title_of : Admitted → Option (List ℕ)
title_of event = option_or (pull_title event) (commit_title event)

-- the conclusion, once the run has completed
abbrev pub conclusion_at : RunPhase → List JobState → Option (List ℕ)
conclusion_at phase.Waiting jobs = None
conclusion_at phase.Live jobs = None
conclusion_at phase.Ended jobs = Some (outcome_word (conclusion_of (results_of jobs)))

-- the case-folded name of the group that the run with an id itself asks for
abbrev pub own_group : TableState → ℕ → Option (List ℕ)
own_group t id = option_map name_bytes (group_at t.runs (Run (index_of t id)))

-- ---- its members

abbrev pub number_members : Seen → List ℕ
number_members seen =
    codes "\"run\":" ++ decimal seen.id ++ member (codes "number") (decimal seen.number) ++ member (codes "attempt") (decimal seen.run.attempt)

-- where the workflow stands
abbrev pub origin_members : Admitted → List ℕ
origin_members event =
    member (codes "repository") (quoted (event_of event.body).repo) ++ member (codes "path") (quoted (event_of event.body).path)
    ++ member (codes "workflow") (quoted (event_of event.body).workflow.name)

abbrev pub event_members : Admitted → List ℕ
event_members event =
    member (codes "event") (quoted event.event) ++ member (codes "delivery") (quoted event.delivery)
    ++ member (codes "ref") (text_or_null (ref_of event))

-- a member of `github` under its name
abbrev pub github_member : List ℕ → Admitted → List ℕ
github_member name event = member name (text_or_null (github_text name event))

-- what the run is of, and who began it
abbrev pub head_members : Admitted → List ℕ
head_members event =
    github_member (codes "sha") event ++ github_member (codes "ref_name") event ++ github_member (codes "head_ref") event
    ++ github_member (codes "actor") event ++ member (codes "title") (text_or_null (title_of event))

abbrev pub state_members : RunState → List ℕ
state_members run =
    member (codes "status") (quoted (status_text run.phase run.jobs))
    ++ member (codes "conclusion") (text_or_null (conclusion_at run.phase run.jobs))

abbrev pub run_members : TableState → Seen → List ℕ
run_members t seen =
    number_members seen ++ origin_members seen.run.admitted ++ event_members seen.run.admitted ++ head_members seen.run.admitted
    ++ state_members seen.run ++ member (codes "group") (text_or_null (own_group t seen.id))

abbrev pub run_row : TableState → Seen → List ℕ
run_row t seen = codes "{" ++ run_members t seen ++ codes "}"
