-- Which view a method and a target ask for, or what is wrong with them. The checks are in order.
use Rattle.std.specs.Prelude.{ℕ, List, [], Bool, ◌||◌, codes, Option, Some, None, unwrap_or, Result, Ok, Err, if◌then◌else◌}
use Rattle.std.specs.Str.{bytes_eq}
use Rattle.view_sessions.specs.Paths.{path_of}
use Rattle.view_sessions.specs.Queries.{cursor_in, first_run, index_in, limit_in, number_in, query_of, wait_in, with_folded_group}
use Rattle.view_sessions.specs.Values.{after_byte, before_byte}
use Rattle.view_sessions.specs.declared.fault.ViewFault.{ViewFault}
use Rattle.view_sessions.specs.declared.fault.ViewFault.TheVariants.{MethodNotAllowed, UnknownPath}
use Rattle.view_sessions.specs.declared.parameter.Parameter.TheVariants as parameter
use Rattle.view_sessions.specs.declared.path.Path.{Path}
use Rattle.view_sessions.specs.declared.path.Path.TheVariants as path
use Rattle.view_sessions.specs.declared.query.Query.{Query}
use Rattle.view_sessions.specs.declared.view.GroupsQuery.{GroupsQuery}
use Rattle.view_sessions.specs.declared.view.RunnersQuery.{RunnersQuery}
use Rattle.view_sessions.specs.declared.view.RunsQuery.{RunsQuery}
use Rattle.view_sessions.specs.declared.view.View.{View}
use Rattle.view_sessions.specs.declared.view.View.TheVariants as view

abbrev pub runs_query : Query → RunsQuery
runs_query q = record {
  filter = record { status = q.status; conclusion = q.conclusion; repository = q.repository; path = q.path; event = q.event; reference = q.reference; group = q.group };
  before = number_in q parameter.Before;
  limit = limit_in q;
}

abbrev pub runners_query : Query → RunnersQuery
runners_query q = record { name = q.name; after = q.after; limit = limit_in q }

abbrev pub groups_query : Query → GroupsQuery
groups_query q = record { filter = record { repository = q.repository; group = q.group }; from = first_run q; limit = limit_in q }

abbrev pub view_at : Path → Query → View
view_at path.Runs q = view.Runs (runs_query q)
view_at (path.Run run) q = view.Run (record { run = run; from = index_in q })
view_at (path.Body run) q = view.Body run
view_at path.Queue q = view.Queue (record { from = first_run q; limit = limit_in q })
view_at path.Runners q = view.Runners (runners_query q)
view_at path.Groups q = view.Groups (groups_query q)
view_at path.Health q = view.Health
view_at path.Metrics q = view.Metrics
view_at path.Changes q = view.Changes (record { after = cursor_in q; wait = wait_in q })
view_at path.Backup q = view.Backup
view_at (path.Board file) q = view.Board file

abbrev pub view_if : Path → Result Query ViewFault → Result View ViewFault
view_if at (Ok q) = Ok (view_at at (with_folded_group q))
view_if at (Err fault) = Err fault

abbrev pub view_of : Path → List ℕ → Result View ViewFault
view_of at parameters = view_if at (query_of at parameters)

-- a method that a view takes
abbrev pub is_taken : List ℕ → Bool
is_taken method = bytes_eq method (codes "GET") || bytes_eq method (codes "HEAD")

abbrev pub asked_at : List ℕ → List ℕ → Option Path → Result View ViewFault
asked_at method parameters None = Err UnknownPath
asked_at method parameters (Some at) = if is_taken method then view_of at parameters else Err MethodNotAllowed

abbrev pub asked : List ℕ → List ℕ → Result View ViewFault
asked method target = asked_at method (unwrap_or (after_byte 63 target) []) (path_of (before_byte 63 target))
