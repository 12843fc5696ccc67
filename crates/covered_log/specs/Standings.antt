-- How runs and legs stood when they were last told, and what is told of them after a commit.
use Rattle.std.specs.Prelude.{ℕ, ◌-◌, ◌==◌, ◌&&◌, List, [], ◌∷◌, ◌++◌, codes, drop, length, map, nat_eq, nat_lt, not, slice_get, ◌||◌, Bool, true, false, Option, Some, None, option_and_then, if◌then◌else◌}
use Rattle.std.specs.List.{flat_map, list_all, list_any}
use Rattle.std.specs.Option.{option_map_or}
use Rattle.std.specs.Str.{bytes_eq}
use Rattle.table_model.specs.Runs.{JobState, LegState, RunState, leg_site, placed}
use Rattle.table_model.specs.TableState.{TableState}
use Rattle.table_model.specs.ViewText.{conclusion_text, leg_text, seen_of, status_text}
use Rattle.table_model.specs.declared.phases.RunPhase.{RunPhase}
use Rattle.table_model.specs.declared.phases.RunPhase.TheVariants as phase
use Rattle.table_model.specs.declared.sites.JobSite.{JobSite}
use Rattle.table_model.specs.declared.sites.LegSite.{LegSite}
use Rattle.table_views.specs.LeaseNames.{NamesState}
use Rattle.table_views.specs.RunViews.{leg_news}
use Rattle.table_views.specs.declared.told_legs.LegNews.{LegNews}
use Rattle.covered_log.specs.Lines.{Begins, Change, Displaced, Forgets, LegStands, Stands}

-- a run: its attempt, its status, its conclusion, or `-`, whether it was stopped, and the legs of its jobs
pub record Standing : Type 0 where
  pub attempt : ℕ
  pub status : List ℕ
  pub conclusion : List ℕ
  pub stopped : Bool
  pub jobs : List (List LegState)

-- a run of which nothing was told
abbrev pub untold : Standing
untold = record { attempt = 0; status = []; conclusion = []; stopped = false; jobs = [] }

-- ---- whether a run was stopped: it has been asked to stop, or it ended as cancelled before it began, and so has no leg

abbrev pub has_no_leg : JobState → Bool
has_no_leg job = nat_eq (length job.legs) 0

abbrev pub is_stopped : RunState → Bool
is_stopped run =
    run.stopping || (bytes_eq (conclusion_text run.phase run.jobs) (codes "cancelled") && list_all has_no_leg run.jobs)

-- ---- how a run stands

-- the legs of the jobs of a run that goes on
abbrev pub legs_to_keep : RunPhase → List JobState → List (List LegState)
legs_to_keep phase.Waiting jobs = map (λ j. j.legs) jobs
legs_to_keep phase.Live jobs = map (λ j. j.legs) jobs
legs_to_keep phase.Ended jobs = []

abbrev pub standing_of : RunState → Standing
standing_of run = record {
  attempt = run.attempt;
  status = status_text run.phase run.jobs;
  conclusion = conclusion_text run.phase run.jobs;
  stopped = is_stopped run;
  jobs = legs_to_keep run.phase run.jobs;
}

-- how runs stood when they were last told, and which were forgotten then: those with ids through one
pub record Standings : Type 0 where
  pub through : ℕ
  pub runs : List Standing

-- how those of a table stand
abbrev pub standings_of : TableState → Standings
standings_of t = record { through = t.forgotten.through; runs = map standing_of t.runs }

-- ---- what was told

-- whether the attempt was told as completed
abbrev pub is_over : Standing → RunState → Bool
is_over s run = bytes_eq s.status (codes "completed") && s.attempt == run.attempt

-- whether the attempt, the status and the conclusion are those that were told
abbrev pub is_same : Standing → RunState → Bool
is_same s run =
    s.attempt == run.attempt
    && (bytes_eq s.status (status_text run.phase run.jobs) && bytes_eq s.conclusion (conclusion_text run.phase run.jobs))

-- whether it was told as stopped in this attempt, if it is
abbrev pub knows_stop : Standing → RunState → Bool
knows_stop s run = not (is_stopped run) || (s.stopped && s.attempt == run.attempt)

-- a leg as it was told in an attempt, if it was
abbrev pub told_leg : Standing → ℕ → LegSite → Option LegState
told_leg s attempt p =
    if s.attempt == attempt then option_and_then (λ legs. slice_get legs p.leg) (slice_get s.jobs p.job) else None

abbrev pub is_same_lease : Option ℕ → Option ℕ → Bool
is_same_lease None None = true
is_same_lease (Some a) (Some b) = a == b
is_same_lease _ _ = false

-- whether the state and the lease are the same
abbrev pub is_same_leg : LegState → LegState → Bool
is_same_leg told leg = bytes_eq (leg_text told.phase) (leg_text leg.phase) && is_same_lease told.lease leg.lease

-- ---- legs that stand differently than they were told

abbrev pub moved_leg : NamesState → TableState → Standing → RunState → LegSite → LegState → List LegNews
moved_leg names t s run p leg =
    if option_map_or (λ told. is_same_leg told leg) (told_leg s run.attempt p) false then [] else leg_news names t p run leg ∷ []

-- those of a job
abbrev pub moved_of_job : NamesState → TableState → Standing → RunState → JobSite → List LegState → List LegNews
moved_of_job names t s run p legs = flat_map (λ l. moved_leg names t s run (leg_site p.run p.job l.0) l.1) (placed legs)

abbrev pub job_site : ℕ → ℕ → JobSite
job_site r j = record { run = r; job = j }

-- those of run `r`, in the order of job and leg
abbrev pub moved_legs : NamesState → TableState → Standing → ℕ → RunState → List LegNews
moved_legs names t s r run = flat_map (λ j. moved_of_job names t s run (job_site r j.0) j.1.legs) (placed run.jobs)

-- ---- what is told of run `r`, of which this was told before, if anything was

-- it begins an attempt: all members of its row
abbrev pub beginning : ℕ → TableState → RunState → Change
beginning at t run = Begins at t (seen_of run)

-- it does not stand as it was told
abbrev pub moved_run : ℕ → TableState → Standing → RunState → Change
moved_run at t s run = if s.attempt == run.attempt then Stands at run.id run else beginning at t run

-- It made way for a newcomer of its group: it was stopped since it was told, and by none of these commands, which cancelled runs with these ids.
abbrev pub is_displaced : List ℕ → Standing → RunState → Bool
is_displaced cancelled s run = not (knows_stop s run) && not (list_any (nat_eq run.id) cancelled)

abbrev pub displaced_news : ℕ → List ℕ → TableState → Standing → ℕ → RunState → List Change
displaced_news at cancelled t s r run = if is_displaced cancelled s run then Displaced at t.runs r run ∷ [] else []

abbrev pub of_legs : ℕ → List LegNews → List Change
of_legs at legs = map (λ news. LegStands at news) legs

-- the run's own line
abbrev pub run_news : ℕ → TableState → Standing → RunState → List Change
run_news at t s run = if is_same s run then [] else moved_run at t s run ∷ []

-- First the run, if it is new or not as it was told; that it made way, if it did; then each leg that is not as it was told. Of an attempt that was
-- told as completed nothing more is told. `cancelled` are the runs that commands have cancelled since.
abbrev pub news_of : ℕ → List ℕ → NamesState → TableState → Option Standing → ℕ → RunState → List Change
news_of at cancelled names t None r run =
    beginning at t run ∷ displaced_news at cancelled t untold r run ++ of_legs at (moved_legs names t untold r run)
news_of at cancelled names t (Some s) r run =
    if is_over s run then []
    else run_news at t s run ++ displaced_news at cancelled t s r run ++ of_legs at (moved_legs names t s r run)

-- whether nothing of it is to be told
abbrev pub is_told : NamesState → TableState → Standing → ℕ → RunState → Bool
is_told names t s r run = is_same s run && (knows_stop s run && nat_eq (length (moved_legs names t s r run)) 0)

-- how it stands for those that have read this
abbrev pub told_of : NamesState → TableState → Option Standing → ℕ → RunState → Standing
told_of names t None r run = standing_of run
told_of names t (Some s) r run =
    if is_over s run then s
    else if is_told names t s r run then s
    else standing_of run

-- ---- what is told of the runs of a table, run by run in the order of their ids

abbrev pub runs_news : ℕ → List ℕ → NamesState → TableState → List Standing → List Change
runs_news at cancelled names t known = flat_map (λ x. news_of at cancelled names t (slice_get known x.0) x.0 x.1) (placed t.runs)

abbrev pub runs_after : NamesState → TableState → List Standing → List Standing
runs_after names t known = map (λ x. told_of names t (slice_get known x.0) x.0 x.1) (placed t.runs) ++ drop (length t.runs) known

-- ---- what is told of a table: first which runs it has forgotten, if these are more, and then what its runs have become

abbrev pub forgotten_news : ℕ → TableState → Standings → List Change
forgotten_news at t known = if nat_lt known.through t.forgotten.through then Forgets at t.forgotten.through ∷ [] else []

-- how the runs stood that are left
abbrev pub left_of : TableState → Standings → List Standing
left_of t known = drop (t.forgotten.through - known.through) known.runs

abbrev pub table_news : ℕ → List ℕ → NamesState → TableState → Standings → List Change
table_news at cancelled names t known = forgotten_news at t known ++ runs_news at cancelled names t (left_of t known)

abbrev pub told_after : NamesState → TableState → Standings → Standings
told_after names t known = record { through = t.forgotten.through; runs = runs_after names t (left_of t known) }
