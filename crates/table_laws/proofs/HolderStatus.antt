-- The status of a holder of a group, and its own moves up to that status.
use Rattle.std.specs.Prelude.{◌≡◌, ℕ, List, [], ◌∷◌, ◌++◌, ◌&&◌, ◌||◌, not, Bool, true, false, Option, Some, None, option_and_then}
use Rattle.std.specs.Prelude.{slice_get, if◌then◌else◌, refl}
use Rattle.std.specs.Option.{option_map_or}
use Rattle.std.proofs.Common.{ap, sym, ◌∙◌, append_assoc, subst}
use Rattle.std.proofs.lemmas.List.{append-nil}
use Rattle.std.proofs.lemmas.Bool.{and_right, or_right}
use Rattle.wf_value.specs.declared.outcome.Outcome.{Outcome}
use Rattle.table_model.specs.Fitting.{is_stopping_leg}
use Rattle.table_model.specs.GroupLaw.{has_arrived, has_ended, has_started, is_pending, is_in_progress, was_stopped, Move}
use Rattle.table_model.specs.Groups.{holds, is_stop_requested, leg_holds, leg_waits, run_waits, waits}
use Rattle.table_model.specs.Runs.{job_at, leg_at, run_at, LegState, JobState, RunState, is_live}
use Rattle.table_model.specs.declared.sites.LegSite.{LegSite}
use Rattle.table_model.specs.declared.phases.LegPhase.{LegPhase}
use Rattle.table_model.specs.declared.phases.LegPhase.TheVariants as leg
use Rattle.table_model.specs.declared.phases.RunPhase.{RunPhase}
use Rattle.table_model.specs.declared.phases.RunPhase.TheVariants as run
use Rattle.settling_laws.proofs.ArrivalKeeps.{itself}
use Rattle.table_laws.proofs.GroupSaid.{ended_on}
use Rattle.table_laws.proofs.OwnMoves.{ended_by_own, own, runs_by_own, stopped_by_own, waits_by_own}
use Rattle.table_model.specs.declared.holder.Holder.{Holder}
use Rattle.table_model.specs.declared.holder.Holder.TheVariants.{Run, Leg}

pub data Status : Type 0 where
  -- it does not exist, or is new
  unarrived : Status
  waiting : Status
  -- and whether it is asked to stop
  in_progress : Bool → Status
  over : Status

-- ---- in a table

abbrev pub leg_status : LegPhase → Status
leg_status leg.New = Status.unarrived
leg_status leg.Waiting = Status.waiting
leg_status leg.Ready = Status.in_progress false
leg_status leg.Running = Status.in_progress false
leg_status leg.Stopping = Status.in_progress true
leg_status (leg.Ended r) = Status.over

abbrev pub run_status : RunPhase → Bool → Status
run_status run.Waiting stopping = Status.waiting
run_status run.Live stopping = Status.in_progress stopping
run_status run.Ended stopping = Status.over

abbrev pub status_of_leg : LegState → Status
status_of_leg z = leg_status z.phase

abbrev pub status_of_run : RunState → Status
status_of_run x = run_status x.phase x.stopping

-- of the element that exists, if there is one
abbrev pub status_by : {X : Type 0} → (X → Status) → Option X → Status
status_by of_it o = option_map_or of_it o Status.unarrived

abbrev pub status : List RunState → Holder → Status
status runs (Run r) = status_by status_of_run (run_at runs r)
status runs (Leg p) = status_by status_of_leg (leg_at runs p)

-- ---- the status agrees with the table

abbrev pub is_waiting : Status → Bool
is_waiting Status.unarrived = false
is_waiting Status.waiting = true
is_waiting (Status.in_progress told) = false
is_waiting Status.over = false

abbrev pub is_held : Status → Bool
is_held Status.unarrived = false
is_held Status.waiting = false
is_held (Status.in_progress told) = true
is_held Status.over = false

said_by : {X : Type 0} (said : Status → Bool) (of_it : X → Status) (requested : X → Bool) → said Status.unarrived ≡ false
    → ((x : X) → requested x ≡ said (of_it x)) → (o : Option X) → option_map_or requested o false ≡ said (status_by of_it o)
said_by said of_it requested none same None = sym none
said_by said of_it requested none same (Some x) = same x

run_waits_as : (phase : RunPhase) (b : Bool) → run_waits phase ≡ is_waiting (run_status phase b)
run_waits_as run.Waiting b = refl
run_waits_as run.Live b = refl
run_waits_as run.Ended b = refl

run_holds_as : (phase : RunPhase) (b : Bool) → is_live phase ≡ is_held (run_status phase b)
run_holds_as run.Waiting b = refl
run_holds_as run.Live b = refl
run_holds_as run.Ended b = refl

leg_waits_as : (phase : LegPhase) → leg_waits phase ≡ is_waiting (leg_status phase)
leg_waits_as leg.New = refl
leg_waits_as leg.Waiting = refl
leg_waits_as leg.Ready = refl
leg_waits_as leg.Running = refl
leg_waits_as leg.Stopping = refl
leg_waits_as (leg.Ended r) = refl

leg_holds_as : (phase : LegPhase) → leg_holds phase ≡ is_held (leg_status phase)
leg_holds_as leg.New = refl
leg_holds_as leg.Waiting = refl
leg_holds_as leg.Ready = refl
leg_holds_as leg.Running = refl
leg_holds_as leg.Stopping = refl
leg_holds_as (leg.Ended r) = refl

pub waits_as : (runs : List RunState) (h : Holder) → waits runs h ≡ is_waiting (status runs h)
waits_as runs (Run r) =
    said_by is_waiting status_of_run (λ x. run_waits x.phase) refl (λ x. run_waits_as x.phase x.stopping) (run_at runs r)
waits_as runs (Leg p) = said_by is_waiting status_of_leg (λ z. leg_waits z.phase) refl (λ z. leg_waits_as z.phase) (leg_at runs p)

pub holds_as : (runs : List RunState) (h : Holder) → holds runs h ≡ is_held (status runs h)
holds_as runs (Run r) =
    said_by is_held status_of_run (λ x. is_live x.phase) refl (λ x. run_holds_as x.phase x.stopping) (run_at runs r)
holds_as runs (Leg p) = said_by is_held status_of_leg (λ z. leg_holds z.phase) refl (λ z. leg_holds_as z.phase) (leg_at runs p)

pub waiting_is : (s : Status) → is_waiting s ≡ true → s ≡ Status.waiting
waiting_is Status.unarrived e = cc
waiting_is Status.waiting e = refl
waiting_is (Status.in_progress told) e = cc
waiting_is Status.over e = cc

pub held_is : (s : Status) → is_held s ≡ true → (told : Bool) × (s ≡ Status.in_progress told)
held_is Status.unarrived e = cc
held_is Status.waiting e = cc
held_is (Status.in_progress told) e = (told, refl)
held_is Status.over e = cc

-- whether the holder in progress is asked to stop
run_told : (phase : RunPhase) (b told : Bool) → run_status phase b ≡ Status.in_progress told → b ≡ told
run_told run.Waiting b told e = cc
run_told run.Live b told e = cc
run_told run.Ended b told e = cc

leg_told : (phase : LegPhase) (told : Bool) → leg_status phase ≡ Status.in_progress told → is_stopping_leg phase ≡ told
leg_told leg.New told e = cc
leg_told leg.Waiting told e = cc
leg_told leg.Ready told e = cc
leg_told leg.Running told e = cc
leg_told leg.Stopping told e = cc
leg_told (leg.Ended r) told e = cc

told_by : {X : Type 0} (of_it : X → Status) (requested : X → Bool) (told : Bool)
    → ((x : X) → of_it x ≡ Status.in_progress told → requested x ≡ told) → (o : Option X) → status_by of_it o ≡ Status.in_progress told
    → option_map_or requested o false ≡ told
told_by of_it requested told same None e = cc
told_by of_it requested told same (Some x) e = same x e

pub told_as : (runs : List RunState) (h : Holder) (told : Bool) → status runs h ≡ Status.in_progress told → is_stop_requested runs h ≡ told
told_as runs (Run r) told e =
    told_by status_of_run (λ x. x.stopping) told (λ x is. run_told x.phase x.stopping told is) (run_at runs r) e
told_as runs (Leg p) told e =
    told_by status_of_leg (λ z. is_stopping_leg z.phase) told (λ z is. leg_told z.phase told is) (leg_at runs p) e

-- ---- the leg of a run

pub through : {X Y : Type 0} (of_it : Y → Status) (f : X → Option Y) (o : Option X)
    → status_by of_it (option_and_then f o) ≡ status_by (λ x. status_by of_it (f x)) o
through of_it f None = refl
through of_it f (Some x) = refl

abbrev pub status_in_job : ℕ → JobState → Status
status_in_job l y = status_by status_of_leg (slice_get y.legs l)

abbrev pub status_in_run : ℕ → ℕ → RunState → Status
status_in_run j l x = status_by (status_in_job l) (slice_get x.jobs j)

pub status_by_run : (runs : List RunState) (p : LegSite)
    → status runs (Leg p) ≡ status_by (status_in_run p.job p.leg) (run_at runs p.run)
status_by_run runs p =
    through status_of_leg (λ (y : JobState). slice_get y.legs p.leg) (job_at runs p.run p.job)
    ∙ through (status_in_job p.leg) (λ (x : RunState). slice_get x.jobs p.job) (run_at runs p.run)

-- ---- the moves of a holder up to its status

-- it is neither running nor pending
abbrev pub IsOver : Holder → List Move → Type 0
IsOver h moves = (is_in_progress h moves ≡ false) × (is_pending h moves ≡ false)

abbrev pub stop_if : Bool → Holder → List Move
stop_if told h = if told then Move.stop h ∷ [] else []

abbrev pub Fits : Status → Holder → List Move → Type 0
Fits Status.unarrived h moves = moves ≡ []
Fits Status.waiting h moves = moves ≡ Move.arrive h ∷ []
Fits (Status.in_progress told) h moves = moves ≡ Move.arrive h ∷ Move.start h ∷ stop_if told h
Fits Status.over h moves = IsOver h moves

pub over_by_end : (h : Holder) (moves : List Move) → has_ended h moves ≡ true → IsOver h moves
over_by_end h moves e = (
  ap (λ b. has_started h moves && not b) e ∙ and_right (has_started h moves) false refl,
  ap (λ b. has_arrived h moves && (not (has_started h moves) && not b)) e
      ∙ ap (λ b. has_arrived h moves && b) (and_right (not (has_started h moves)) false refl)
      ∙ and_right (has_arrived h moves) false refl,
)

runs_as_told : (h : Holder) (told : Bool) → is_in_progress h (Move.arrive h ∷ Move.start h ∷ stop_if told h) ≡ true
runs_as_told h true = ap (λ b. (b || false) && true) (itself h)
runs_as_told h false = ap (λ b. (b || false) && true) (itself h)

runs_not_pending : (h : Holder) (told : Bool) → is_pending h (Move.arrive h ∷ Move.start h ∷ stop_if told h) ≡ false
runs_not_pending h true = ap (λ b. (b || false) && (not (b || false) && true)) (itself h)
runs_not_pending h false = ap (λ b. (b || false) && (not (b || false) && true)) (itself h)

stopped_as_told : (h : Holder) (told : Bool) → was_stopped h (Move.arrive h ∷ Move.start h ∷ stop_if told h) ≡ told
stopped_as_told h true = ap (λ b. b || false) (itself h)
stopped_as_told h false = refl

pub in_progress_by : (s : Status) (h : Holder) (moves : List Move) → Fits s h moves → is_in_progress h moves ≡ is_held s
in_progress_by Status.unarrived h moves e = ap (is_in_progress h) e
in_progress_by Status.waiting h moves e = ap (is_in_progress h) e
in_progress_by (Status.in_progress told) h moves e = ap (is_in_progress h) e ∙ runs_as_told h told
in_progress_by Status.over h moves e = e.0

pub pending_by : (s : Status) (h : Holder) (moves : List Move) → Fits s h moves → is_pending h moves ≡ is_waiting s
pending_by Status.unarrived h moves e = ap (is_pending h) e
pending_by Status.waiting h moves e = ap (is_pending h) e ∙ ap (λ b. (b || false) && true) (itself h)
pending_by (Status.in_progress told) h moves e = ap (is_pending h) e ∙ runs_not_pending h told
pending_by Status.over h moves e = e.1

pub fits_in_progress : (s : Status) (h : Holder) (moves : List Move) → Fits s h (own h moves) → is_in_progress h moves ≡ is_held s
fits_in_progress s h moves fits = sym (runs_by_own h moves) ∙ in_progress_by s h (own h moves) fits

pub fits_pending : (s : Status) (h : Holder) (moves : List Move) → Fits s h (own h moves) → is_pending h moves ≡ is_waiting s
fits_pending s h moves fits = sym (waits_by_own h moves) ∙ pending_by s h (own h moves) fits

pub fits_stopped : (told : Bool) (h : Holder) (moves : List Move) → Fits (Status.in_progress told) h (own h moves) → was_stopped h moves ≡ told
fits_stopped told h moves fits = sym (stopped_by_own h moves) ∙ ap (was_stopped h) fits ∙ stopped_as_told h told

pub fits_unended : (h : Holder) (moves : List Move) → Fits Status.waiting h (own h moves) → has_ended h moves ≡ false
fits_unended h moves fits = sym (ended_by_own h moves) ∙ ap (has_ended h) fits

-- ---- how the status of a holder changes

-- with these moves of its own, a holder goes from one status to the other
abbrev pub Goes : Holder → Status → List Move → Status → Type 0
Goes h before more after = (moves : List Move) → Fits before h moves → Fits after h (moves ++ more)

pub goes_not : (h : Holder) (s : Status) → Goes h s [] s
goes_not h s moves fits = subst (Fits s h) (sym (append-nil moves)) fits

pub goes_on : (h : Holder) (a b c : Status) (first second : List Move) → Goes h a first b → Goes h b second c → Goes h a (first ++ second) c
goes_on h a b c first second one two moves fits =
    subst (Fits c h) (append_assoc moves first second) (two (moves ++ first) (one moves fits))

pub goes_over : (h : Holder) (s : Status) (more : List Move) → has_ended h more ≡ true → Goes h s more Status.over
goes_over h s more e moves fits =
    over_by_end h (moves ++ more) (ended_on h moves more ∙ ap (λ b. has_ended h moves || b) e ∙ or_right (has_ended h moves) true refl)

pub goes_to_arrive : (h : Holder) → Goes h Status.unarrived (Move.arrive h ∷ []) Status.waiting
goes_to_arrive h moves fits = ap (λ ms. ms ++ Move.arrive h ∷ []) fits

pub goes_to_start : (h : Holder) → Goes h Status.waiting (Move.start h ∷ []) (Status.in_progress false)
goes_to_start h moves fits = ap (λ ms. ms ++ Move.start h ∷ []) fits

pub goes_to_stop : (h : Holder) → Goes h (Status.in_progress false) (Move.stop h ∷ []) (Status.in_progress true)
goes_to_stop h moves fits = ap (λ ms. ms ++ Move.stop h ∷ []) fits

pub goes_unseen : (h : Holder) → Goes h Status.unarrived [] Status.over
goes_unseen h moves fits =
    let none : moves ++ [] ≡ [] = append-nil moves ∙ fits in (ap (is_in_progress h) none, ap (is_pending h) none)

pub ends_by_stop : (h : Holder) (r : Outcome) → has_ended h (Move.stop h ∷ Move.end_with r h ∷ []) ≡ true
ends_by_stop h r = ap (λ b. b || false) (itself h)

pub ends_at_once : (h : Holder) (r : Outcome) → has_ended h (Move.end_with r h ∷ []) ≡ true
ends_at_once h r = ap (λ b. b || false) (itself h)
