-- What a service shows at each path of its view port.
use Rattle.std.specs.Prelude.{◌≡◌, ℕ, ◌+◌, ◌<◌, List, codes, drop, length, map, min, string_bytes, take, ◌⊎◌, Bool, if◌then◌else◌, true, false, Option, None, Some, Result, Ok, Err}
use Rattle.std.specs.declared.time.Instant.{Instant}
use Rattle.std.specs.Option.{option_map_or}
use Rattle.act_store.specs.Images.{RecoversTo}
use Rattle.covered_log.specs.LogState.{LogState, is_known}
use Rattle.table_model.specs.TableState.{RunnerState, TableState}
use Rattle.table_model.specs.Step.{seen}
use Rattle.table_model.specs.ViewText.{Seen as RunSeen}
use Rattle.service_metrics.specs.Metrics.{metrics_text}
use Rattle.service_metrics.specs.declared.gauges.Gauges.{Gauges}
use Rattle.store_copies.specs.Copies.{copy_bytes, file_of, fits}
use Rattle.table_views.specs.HolderPages.{IsHolderPage}
use Rattle.table_views.specs.LeaseNames.{NamesState}
use Rattle.table_views.specs.ReadyPages.{IsReadyPage}
use Rattle.table_views.specs.RunPages.{IsRunsPage}
use Rattle.table_views.specs.RunViews.{IsRunView}
use Rattle.table_views.specs.RunBodies.{run_body}
use Rattle.table_views.specs.RunnerPages.{IsRunnerPage, index_after}
use Rattle.definitions.specs.Limits.{most_looked}
use Rattle.view_sessions.specs.declared.answer.Content.TheVariants as content
use Rattle.view_sessions.specs.declared.board_file.BoardFile.{BoardFile}
use Rattle.view_sessions.specs.declared.cursor.Cursor.{Cursor}
use Rattle.view_sessions.specs.declared.fault.ViewFault.{ViewFault}
use Rattle.view_sessions.specs.declared.fault.ViewFault.TheVariants as fault
use Rattle.view_sessions.specs.declared.view.ChangesQuery.{ChangesQuery}
use Rattle.view_sessions.specs.declared.view.RunQuery.{RunQuery}
use Rattle.view_sessions.specs.declared.view.RunnersQuery.{RunnersQuery}
use Rattle.view_sessions.specs.declared.request.ViewRequest.{ViewRequest}
use Rattle.view_sessions.specs.declared.view.View.{View}
use Rattle.view_sessions.specs.declared.view.View.TheVariants as view
use Rattle.wf_value.specs.declared.refusal.Refusal.{Refusal}
use Rattle.service_views.specs.Boards.{board_bytes}
use Rattle.service_views.specs.HeardTimes.{longest_silence, seconds_between, seconds_since}
use Rattle.service_views.specs.Behind.{IsKnown, cursor_line, lines_behind}
use Rattle.service_views.specs.declared.board.Board.{Board}
use Rattle.service_views.specs.declared.kept.Kept.{Kept}
use Rattle.service_views.specs.declared.shown.Made.{Made}
use Rattle.service_views.specs.declared.shown.Made.TheVariants as made
use Rattle.service_views.specs.declared.shown.Seen.{Seen}

-- ---- kinds of answers

abbrev pub IsJson : (List ℕ → Type 0) → Made → Type 0
IsJson Fits (made.Answer (Ok (content.Json text))) = Fits (string_bytes text)
IsJson Fits _ = ⊥

abbrev pub IsLines : List ℕ → Made → Type 0
IsLines lines (made.Answer (Ok (content.Lines text))) = string_bytes text ≡ lines
IsLines lines _ = ⊥

abbrev pub IsPlain : List ℕ → Made → Type 0
IsPlain plain (made.Answer (Ok (content.Plain text))) = string_bytes text ≡ plain
IsPlain plain _ = ⊥

abbrev pub IsMetrics : List ℕ → Made → Type 0
IsMetrics metrics (made.Answer (Ok (content.Metrics text))) = string_bytes text ≡ metrics
IsMetrics metrics _ = ⊥

-- a store file of two areas of this length, which recovers to the table
abbrev pub IsCopy : ℕ → TableState → Made → Type 0
IsCopy area t (made.Answer (Ok (content.Store copy))) =
    (copy.bytes.items ≡ copy_bytes t) × (length (file_of copy) ≡ area + area) × RecoversTo t (file_of copy)
IsCopy area t _ = ⊥

abbrev pub IsBoard : BoardFile → List ℕ → Made → Type 0
IsBoard file bytes (made.Answer (Ok (content.Board shown copy))) = (shown ≡ file) × (copy.items ≡ bytes)
IsBoard file bytes _ = ⊥

abbrev pub IsFault : ViewFault → Made → Type 0
IsFault fault what = what ≡ made.Answer (Err fault)

-- ---- pages

-- the most rows of a page
abbrev pub rows : ℕ → ℕ
rows limit = min limit 100

-- a run, or that there is none with this id
abbrev pub ShowsRun : NamesState → TableState → RunQuery → Made → Type 0
ShowsRun names t q what =
    ((shown : RunSeen) × (seen t q.run ≡ Some shown) × IsJson (IsRunView (min q.from (length shown.run.jobs)) names t shown) what)
    ⊎ ((seen t q.run ≡ None) × IsFault fault.UnknownRun what)

-- the body of a run, or that there is none with this id
abbrev pub ShowsBody : Option (List ℕ) → Made → Type 0
ShowsBody None what = IsFault fault.UnknownRun what
ShowsBody (Some body) what = IsJson (λ text. text ≡ body) what

-- the index of the first runner after a name, or of the first of all
abbrev pub first_runner : List RunnerState → Option (List ℕ) → ℕ
first_runner runners after = option_map_or (index_after runners) after 0

abbrev pub seconds_of : Kept → Instant → List RunnerState → List (Option ℕ)
seconds_of k now runners = map (λ runner. seconds_since k now runner.name) runners

-- at how many runners a page of these many rows may look
abbrev pub runners_ahead : Option (List ℕ) → ℕ → ℕ
runners_ahead None limit = limit
runners_ahead (Some name) limit = most_looked

-- the runners from an index on whose names begin with a text
abbrev pub ShowsRunnersFrom : Kept → Instant → TableState → Option (List ℕ) → ℕ → ℕ → Made → Type 0
ShowsRunnersFrom k now t name from limit =
    IsJson (IsRunnerPage name (seconds_of k now (take (runners_ahead name limit) (drop from t.runners))) from limit t)

abbrev pub ShowsRunners : Kept → Instant → TableState → RunnersQuery → Made → Type 0
ShowsRunners k now t q = ShowsRunnersFrom k now t q.name (first_runner t.runners q.after) (rows q.limit)

-- ---- changes

-- nothing yet: a request that may wait waits, and the answer to another is the cursor alone
abbrev pub ShowsNothing : LogState → ChangesQuery → Made → Type 0
ShowsNothing log q what = ((0 < q.wait) × (what ≡ made.Waits q)) ⊎ ((q.wait ≡ 0) × IsLines (cursor_line log (length log.changes)) what)

-- behind a cursor: it is not known; or there is nothing yet; or these are the lines
abbrev pub ShowsBehind : LogState → ChangesQuery → Cursor → Made → Type 0
ShowsBehind log q cursor what =
    ((is_known log cursor.process cursor.line ≡ false) × IsFault fault.UnknownCursor what)
    ⊎ (IsKnown log cursor × (cursor.line ≡ length log.changes) × ShowsNothing log q what)
    ⊎ (IsKnown log cursor × (cursor.line < length log.changes) × IsLines (lines_behind log cursor.line) what)

-- without a cursor that of the present
abbrev pub ShowsFrom : LogState → ChangesQuery → Option Cursor → Made → Type 0
ShowsFrom log q None what = IsLines (cursor_line log (length log.changes)) what
ShowsFrom log q (Some cursor) what = ShowsBehind log q cursor what

abbrev pub ShowsChanges : LogState → ChangesQuery → Made → Type 0
ShowsChanges log q = ShowsFrom log q q.after

-- ---- a copy, and the board

-- a copy, or that the table does not fit
abbrev pub ShowsCopy : ℕ → TableState → Made → Type 0
ShowsCopy area t what = ((fits area t ≡ true) × IsCopy area t what) ⊎ ((fits area t ≡ false) × IsFault fault.AreaFull what)

-- these bytes of a file, or that there is no such file
abbrev pub ShowsFile : Option (List ℕ) → BoardFile → Made → Type 0
ShowsFile None file what = IsFault fault.UnknownPath what
ShowsFile (Some bytes) file what = IsBoard file bytes what

abbrev pub ShowsBoard : Board → BoardFile → Made → Type 0
ShowsBoard board file what = ShowsFile (board_bytes board file) file what

-- ---- all

abbrev pub gauges_of : Kept → Seen → Gauges
gauges_of k s = record {
  version = s.version;
  uptime = seconds_between k.began s.now;
  hooks = s.hooks;
  runners = s.runners;
  views = s.viewers;
  silence = longest_silence k s.now s.table.now.runners;
  standing = seconds_between k.first.since s.now;
  area = s.area;
  room = s.room;
  generation = s.generation;
  checkpoints = s.checkpoints;
}

-- a request for the head alone does not wait
abbrev pub asked_changes : ChangesQuery → Bool → ChangesQuery
asked_changes q head_only = record { after = q.after; wait = if head_only then 0 else q.wait }

-- a request that waits goes on waiting unless its time is over
abbrev pub later : ChangesQuery → Bool → ChangesQuery
later q is_over = record { after = q.after; wait = if is_over then 0 else 1 }

-- what a service shows that has kept this, and is seen so; whether the head alone is asked for
abbrev pub Shows : Kept → Seen → Bool → View → Made → Type 0
Shows k s head_only (view.Runs q) = IsJson (IsRunsPage q.filter q.before (rows q.limit) s.table.now)
Shows k s head_only (view.Run q) = ShowsRun k.changes.leases.names s.table.now q
Shows k s head_only (view.Body run) = ShowsBody (run_body s.table.now run)
Shows k s head_only (view.Queue q) = IsJson (IsReadyPage q.from (rows q.limit) s.table.now)
Shows k s head_only (view.Runners q) = ShowsRunners k s.now s.table.now q
Shows k s head_only (view.Groups q) = IsJson (IsHolderPage q.filter q.from (rows q.limit) s.table.now)
Shows k s head_only view.Health = IsPlain (codes "ok\n")
Shows k s head_only view.Metrics = IsMetrics (metrics_text (gauges_of k s) k.counters s.table.now)
Shows k s head_only (view.Changes q) = ShowsChanges k.changes.log (asked_changes q head_only)
Shows k s head_only view.Backup = ShowsCopy s.area s.table.now
Shows k s head_only (view.Board file) = ShowsBoard s.board.now file

-- ---- the answer to a request

abbrev pub or_no_memory : Result Made Refusal → Made
or_no_memory (Ok what) = what
or_no_memory (Err e) = made.Answer (Err fault.NoMemory)

-- a view is shown, or there is no memory for it
abbrev pub IsShownOrNot : (Made → Type 0) → Made → Type 0
IsShownOrNot Shown what = Shown what ⊎ IsFault fault.NoMemory what

abbrev pub IsAnswered : Kept → Seen → Bool → Result View ViewFault → Made → Type 0
IsAnswered k s head_only (Ok view) = IsShownOrNot (Shows k s head_only view)
IsAnswered k s head_only (Err fault) = IsFault fault

abbrev pub IsMade : Kept → Seen → ViewRequest → Made → Type 0
IsMade k s request = IsAnswered k s request.head_only request.asked
