-- One run with its jobs and legs, and what each waits for. The format is defined by this project. GitHub Docs, "Workflow syntax for GitHub
-- Actions": jobs.<job_id>.needs, .runs-on, .strategy.max-parallel, .concurrency.
use Rattle.std.specs.Prelude.{◌≡◌, ℕ, ◌+◌, ◌-◌, List, [], ◌∷◌, ◌++◌, codes, decimal, find, length, map, nat_eq, nat_lt, slice_get, Bool, false, Option, Some, None, option_map, option_and_then, if◌then◌else◌}
use Rattle.std.specs.Option.{option_map_or, option_or}
use Rattle.group_name.specs.KeyTexts.{name_bytes}
use Rattle.run_plan.specs.PlanOf.{plan_of}
use Rattle.run_plan.specs.ReplyText.{combo_text}
use Rattle.run_plan.specs.declared.planned.PlannedJob.{PlannedJob}
use Rattle.table_model.specs.Fitting.{may_run_too, is_at_work, most_at_work}
use Rattle.table_model.specs.Groups.{group_at}
use Rattle.table_model.specs.Runs.{placed, leg_site, JobState, LegState, RunState}
use Rattle.table_model.specs.LegContext.{combo_at, job_id}
use Rattle.table_model.specs.declared.holder.Holder.TheVariants.{Leg}
use Rattle.table_model.specs.declared.phases.LegPhase.{LegPhase}
use Rattle.table_model.specs.declared.phases.LegPhase.TheVariants as leg
use Rattle.table_model.specs.declared.phases.RunPhase.{RunPhase}
use Rattle.table_model.specs.declared.phases.RunPhase.TheVariants as phase
use Rattle.table_model.specs.declared.sites.LegSite.{LegSite}
use Rattle.table_model.specs.TableState.{RunnerState, TableState, index_of}
use Rattle.table_model.specs.ViewText.{Seen, leg_text}
use Rattle.table_views.specs.LeaseNames.{NamesState, name_of}
use Rattle.table_views.specs.Members.{member, number_or_null, text_or_null}
use Rattle.table_views.specs.Pages.{IsPage, rows_from}
use Rattle.table_views.specs.QueueLines.{labels_json}
use Rattle.table_views.specs.RunLines.{state_text}
use Rattle.table_views.specs.RunRows.{own_group, run_members}
use Rattle.table_views.specs.Texts.{line, listed, quoted}
use Rattle.table_views.specs.declared.told_legs.LegNews.{LegNews}
use Rattle.definitions.specs.Limits.{most_looked}

-- ---- what is waited for

abbrev pub for_group : Option (List ℕ) → List ℕ
for_group name = codes "{\"for\":\"group\"" ++ member (codes "group") (text_or_null name) ++ codes "}"

-- a run that waits for its group
abbrev pub run_waits_for : RunPhase → Option (List ℕ) → List ℕ
run_waits_for phase.Waiting group = for_group group
run_waits_for phase.Live group = codes "null"
run_waits_for phase.Ended group = codes "null"

-- a ready leg waits for a runner, or for another leg of its job to end
abbrev pub ready_waits_for : Bool → Option ℕ → List ℕ
ready_waits_for has_room most =
    if has_room then codes "{\"for\":\"runner\"}"
    else codes "{\"for\":\"max_parallel\"" ++ member (codes "max_parallel") (number_or_null most) ++ codes "}"

abbrev pub leg_group : List RunState → LegSite → Option (List ℕ)
leg_group runs p = option_map name_bytes (group_at runs (Leg p))

abbrev pub leg_waits_for : List RunState → LegSite → LegPhase → List ℕ
leg_waits_for runs p leg.New = codes "null"
leg_waits_for runs p leg.Waiting = for_group (leg_group runs p)
leg_waits_for runs p leg.Ready = ready_waits_for (may_run_too runs p) (most_at_work runs p.run p.job)
leg_waits_for runs p leg.Running = codes "null"
leg_waits_for runs p leg.Stopping = codes "null"
leg_waits_for runs p (leg.Ended outcome) = codes "null"

-- ---- a leg

-- whether a runner holds this lease
abbrev pub holds_lease : ℕ → RunnerState → Bool
holds_lease lease runner = option_map_or (λ held. nat_eq held lease) runner.holds false

-- the runner that is at work on a leg
abbrev pub runner_of : List RunnerState → LegState → Option (List ℕ)
runner_of runners l =
    if is_at_work l.phase then option_and_then (λ lease. option_map (λ runner. runner.name) (find (holds_lease lease) runners)) l.lease else None

-- the runner that is at work on a leg, else the one to which its lease was given, if that is known
abbrev pub leg_runner : NamesState → List RunnerState → LegState → Option (List ℕ)
leg_runner names runners l = option_or (runner_of runners l) (option_and_then (name_of names) l.lease)

-- a leg at a site, in the present attempt of its run, as a line of changes tells it
abbrev pub leg_news : NamesState → TableState → LegSite → RunState → LegState → LegNews
leg_news names t p run l = record {
  run = run.id;
  attempt = run.attempt;
  job = job_id t.runs p.run p.job;
  leg = p.leg;
  state = l;
  runner = leg_runner names t.runners l;
}

-- how it stands
abbrev pub standing_members : NamesState → TableState → LegSite → LegState → List ℕ
standing_members names t p l =
    member (codes "combination") (combo_text (combo_at t.runs p)) ++ member (codes "state") (quoted (leg_text l.phase))
    ++ member (codes "lease") (number_or_null l.lease) ++ member (codes "runner") (text_or_null (leg_runner names t.runners l))

-- what it asks for and waits for
abbrev pub wish_members : List RunState → LegSite → LegState → List ℕ
wish_members runs p l =
    member (codes "labels") (labels_json runs p) ++ member (codes "group") (text_or_null (leg_group runs p))
    ++ member (codes "waits_for") (leg_waits_for runs p l.phase)

abbrev pub leg_row : NamesState → TableState → LegSite → LegState → List ℕ
leg_row names t p l = codes "{\"leg\":" ++ decimal p.leg ++ standing_members names t p l ++ wish_members t.runs p l ++ codes "}"

-- ---- a job

abbrev pub leg_rows : NamesState → TableState → ℕ → ℕ → List LegState → List (List ℕ)
leg_rows names t r j legs = map (λ l. leg_row names t (leg_site r j l.0) l.1) (placed legs)

-- what a job needs, and how many of its legs may be at work
unfoldable pub plan_members : PlannedJob → List ℕ
plan_members planned =
    member (codes "needs") (listed (map quoted planned.needs)) ++ member (codes "max_parallel") (number_or_null planned.max_parallel)

abbrev pub job_row : NamesState → TableState → ℕ → ℕ → PlannedJob → JobState → List ℕ
job_row names t r j planned job =
    codes "{\"id\":" ++ quoted planned.id ++ member (codes "state") (quoted (state_text job.phase)) ++ plan_members planned
    ++ member (codes "legs") (listed (leg_rows names t r j job.legs)) ++ codes "}"

-- the row of job `j` of run `r`
abbrev pub job_rows : NamesState → TableState → ℕ → RunState → ℕ → List (List ℕ)
job_rows names t r run j =
    option_map_or (λ job. option_map_or (λ planned. job_row names t r j planned job ∷ []) (slice_get (plan_of run.admitted.body) j) [])
    (slice_get run.jobs j) []

abbrev pub legs_of_job : RunState → ℕ → ℕ
legs_of_job run j = option_map_or (λ job. length job.legs) (slice_get run.jobs j) 0

-- ---- a run

-- the most legs of a page, but for those of its last job
abbrev pub full_run : ℕ
full_run = 1000

-- the index of the job to go on with, if there is one
abbrev pub next_job : ℕ → ℕ → Option ℕ
next_job jobs index = if nat_lt index jobs then Some index else None

-- `true` or `false`
abbrev pub truth : Bool → List ℕ
truth b = if b then codes "true" else codes "false"

abbrev pub run_view_text : TableState → Seen → List (List ℕ) → Option ℕ → List ℕ
run_view_text t seen jobs next =
    line (codes "{" ++ run_members t seen ++ member (codes "stopping") (truth seen.run.stopping)
    ++ member (codes "waits_for") (run_waits_for seen.run.phase (own_group t seen.id))
    ++ member (codes "jobs") (listed jobs) ++ member (codes "from") (number_or_null next) ++ codes "}")

-- the text of a run with its jobs from an index on
pub record IsRunView (from : ℕ) (names : NamesState) (t : TableState) (seen : Seen) (text : List ℕ) : Type 0 where
  pub count : ℕ
  pub page : IsPage (legs_of_job seen.run) from (length seen.run.jobs - from) full_run most_looked count
  pub is : text ≡ run_view_text t seen (rows_from (job_rows names t (index_of t seen.id) seen.run) from count) (next_job (length seen.run.jobs) (from + count))
