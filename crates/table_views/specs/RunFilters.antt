-- Which runs a list shows.
use Rattle.std.specs.Prelude.{ℕ, List, ◌&&◌, Bool, true, false, Option, Some, None}
use Rattle.std.specs.Str.{bytes_eq}
use Rattle.wf_reader.specs.Event.{event_of}
use Rattle.definitions.specs.SmallText.{Admitted}
use Rattle.table_model.specs.Runs.{RunState}
use Rattle.table_model.specs.TableState.{TableState}
use Rattle.table_model.specs.ViewText.{Seen, status_text}
use Rattle.table_views.specs.RunRows.{conclusion_at, own_group, ref_of}
use Rattle.table_views.specs.declared.run_filter.RunFilter.{RunFilter}

-- whether a text is the wanted one, if one is wanted
abbrev pub is_wanted : Option (List ℕ) → List ℕ → Bool
is_wanted None text = true
is_wanted (Some wanted) text = bytes_eq text wanted

-- the same of a text that may be missing
abbrev pub is_wanted_of : Option (List ℕ) → Option (List ℕ) → Bool
is_wanted_of None text = true
is_wanted_of (Some wanted) None = false
is_wanted_of (Some wanted) (Some text) = bytes_eq text wanted

-- whether the status and the conclusion are wanted
unfoldable pub is_state_wanted : RunFilter → RunState → Bool
is_state_wanted f run =
    is_wanted f.status (status_text run.phase run.jobs) && is_wanted_of f.conclusion (conclusion_at run.phase run.jobs)

-- whether the event and its workflow are wanted
unfoldable pub is_event_wanted : RunFilter → Admitted → Bool
is_event_wanted f event =
    is_wanted f.repository (event_of event.body).repo && (is_wanted f.path (event_of event.body).path && is_wanted f.event event.event)

unfoldable pub is_ref_wanted : RunFilter → Admitted → Bool
is_ref_wanted f event = is_wanted_of f.reference (ref_of event)

unfoldable pub is_group_wanted : RunFilter → TableState → ℕ → Bool
is_group_wanted f t id = is_wanted_of f.group (own_group t id)

-- whether a run is one that the filter lets through
abbrev pub is_shown : RunFilter → TableState → Seen → Bool
is_shown f t seen =
    is_state_wanted f seen.run && (is_event_wanted f seen.run.admitted && (is_ref_wanted f seen.run.admitted && is_group_wanted f t seen.id))
