-- Where the count of a workflow stands among the counts, and how it grows.
use Rattle.std.specs.Prelude.{ℕ, ◌+◌, List, filter, length, Option, Some, None, if◌then◌else◌}
use Rattle.std.specs.Ordering.{is_lt}
use Rattle.definitions.specs.SmallText.{Admitted}
use Rattle.wf_reader.specs.Event.{event_of}
use Rattle.table_model.specs.Forgotten.{WorkflowCount, counts_workflow, workflow_order}

-- the count of a workflow of which one run is forgotten
abbrev pub first_count : Admitted → WorkflowCount
first_count event = record { repo = (event_of event.body).repo; path = (event_of event.body).path; runs = 1 }

abbrev pub one_more : WorkflowCount → WorkflowCount
one_more count = record count { runs = count.runs + 1 }

-- how many counts are before it in the order
abbrev pub index_in : List WorkflowCount → Admitted → ℕ
index_in counts event = length (filter (λ count. is_lt (workflow_order count (first_count event))) counts)

-- the count, if it is that of the workflow of an event
abbrev pub kept_if_of : Admitted → WorkflowCount → Option WorkflowCount
kept_if_of event count = if counts_workflow event count then Some count else None
