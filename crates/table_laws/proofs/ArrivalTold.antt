-- An arrival preserves the law of its group: the pending holder is displaced, and with cancel-in-progress the one in progress is stopped.
use Rattle.std.specs.Prelude.{◌≡◌, ℕ, List, [], ◌∷◌, ◌++◌, Bool, true, false, Option, Some, None}
use Rattle.std.specs.Prelude.{option_map, if◌then◌else◌, slice_get, refl}
use Rattle.std.specs.Option.{option_map_or}
use Rattle.std.proofs.Common.{ap, inl, inr, sym, ◌∙◌, subst}
use Rattle.wf_value.specs.declared.outcome.Outcome.TheVariants.{Cancelled}
use Rattle.table_model.specs.Runs.{changed_at, leg_at, run_at, with_leg, LegState, RunState}
use Rattle.table_model.specs.GroupLaw.{Move, Transition, and_then, at_each, without_moves, BeginsWith}
use Rattle.table_model.specs.declared.sites.LegSite.{LegSite}
use Rattle.table_model.specs.Stops.{displace, jobs_stop_moves, leg_stop_moves, run_stop_moves_in, stop_holder, stop_request_moves}
use Rattle.table_model.specs.Stops.{stopped, stopped_in, stopped_run}
use Rattle.table_model.specs.declared.phases.LegPhase.{LegPhase}
use Rattle.table_model.specs.declared.phases.LegPhase.TheVariants as leg
use Rattle.table_model.specs.declared.phases.RunPhase.{RunPhase}
use Rattle.table_model.specs.declared.phases.RunPhase.TheVariants as run
use Rattle.table_model.proofs.Changed.{at_changed}
use Rattle.table_model.proofs.JobKeeps.{with_job_of, with_leg_of}
use Rattle.settling_laws.proofs.ArrivalKeeps.{itself, one_or_another}
use Rattle.table_laws.proofs.ChangesTold.{only_one, stop_tells}
use Rattle.table_laws.proofs.HolderStatus.{Goes, Status, ends_at_once, goes_not, goes_on, goes_over, leg_status, run_status, status}
use Rattle.table_laws.proofs.HolderStatus.{status_by, status_by_run, status_in_job, status_in_run, status_of_leg, status_of_run}
use Rattle.table_laws.proofs.OwnMoves.{own, own_on}
use Rattle.table_laws.proofs.StopsTold.{Tells, goes_by}
use Rattle.table_model.specs.declared.holder.Holder.{Holder}
use Rattle.table_model.specs.declared.holder.Holder.TheVariants.{Run, Leg}

-- ---- one change after another

pub tells_then : (runs : List RunState) (m : Transition) (change : List RunState → Transition) → Tells runs m → Tells m.runs (change m.runs)
    → Tells runs (and_then m change)
tells_then runs m change first second h =
    goes_by h (status runs h) (status (change m.runs).runs h) (own h (m.moves ++ (change m.runs).moves))
    (own h m.moves ++ own h (change m.runs).moves) (sym (own_on h m.moves (change m.runs).moves))
    (goes_on h (status runs h) (status m.runs h) (status (change m.runs).runs h) (own h m.moves) (own h (change m.runs).moves) (first h)
    (second h))

pub tells_nothing : (runs : List RunState) → Tells runs (without_moves runs)
tells_nothing runs h = goes_not h (status runs h)

pub each_tells : (change : Holder → List RunState → Transition) → ((h : Holder) (runs : List RunState) → Tells runs (change h runs))
    → (hs : List Holder) (runs : List RunState) → Tells runs (at_each change hs runs)
each_tells change one [] runs = tells_nothing runs
each_tells change one (h ∷ hs) runs =
    tells_then runs (change h runs) (at_each change hs) (one h runs) (each_tells change one hs (change h runs).runs)

-- ---- a pending holder is displaced

-- a stop of a waiting holder moves by its stop and its end
run_stop_when_waiting : (r : ℕ) (phase : RunPhase) (b : Bool) (x : RunState) → run_status phase b ≡ Status.waiting
    → run_stop_moves_in phase r x ≡ Move.stop (Run r) ∷ Move.end_with Cancelled (Run r) ∷ []
run_stop_when_waiting r run.Waiting b x e = refl
run_stop_when_waiting r run.Live b x e = cc
run_stop_when_waiting r run.Ended b x e = cc

leg_stop_when_waiting : (p : LegSite) (phase : LegPhase) → leg_status phase ≡ Status.waiting
    → leg_stop_moves p phase ≡ Move.stop (Leg p) ∷ Move.end_with Cancelled (Leg p) ∷ []
leg_stop_when_waiting p leg.New e = cc
leg_stop_when_waiting p leg.Waiting e = refl
leg_stop_when_waiting p leg.Ready e = cc
leg_stop_when_waiting p leg.Running e = cc
leg_stop_when_waiting p leg.Stopping e = cc
leg_stop_when_waiting p (leg.Ended r) e = cc

moves_when : {X : Type 0} (of_it : X → Status) (moves : X → List Move) (found : List Move) → ((x : X) → of_it x ≡ Status.waiting
    → moves x ≡ found)
    → (o : Option X) → status_by of_it o ≡ Status.waiting → option_map_or moves o [] ≡ found
moves_when of_it moves found so None e = cc
moves_when of_it moves found so (Some x) e = so x e

stop_when_waiting : (h : Holder) (runs : List RunState) → status runs h ≡ Status.waiting
    → (stop_holder h runs).moves ≡ Move.stop h ∷ Move.end_with Cancelled h ∷ []
stop_when_waiting (Run r) runs e =
    moves_when status_of_run (λ x. run_stop_moves_in x.phase r x)
    (Move.stop (Run r) ∷ Move.end_with Cancelled (Run r) ∷ [])
    (λ x is. run_stop_when_waiting r x.phase x.stopping x is) (run_at runs r) e
stop_when_waiting (Leg p) runs e =
    moves_when status_of_leg (λ z. leg_stop_moves p z.phase)
    (Move.stop (Leg p) ∷ Move.end_with Cancelled (Leg p) ∷ []) (λ z is. leg_stop_when_waiting p z.phase is)
    (leg_at runs p) e

-- and then it is over
over_when : {X : Type 0} (of_it : X → Status) (f : X → X) → ((x : X) → of_it x ≡ Status.waiting → of_it (f x) ≡ Status.over)
    → (xs : List X) (i : ℕ)
    → status_by of_it (slice_get xs i) ≡ Status.waiting → status_by of_it (slice_get (changed_at i f xs) i) ≡ Status.over
over_when {X} of_it f so xs i e = ap (status_by of_it) (at_changed i f xs) ∙ there (slice_get xs i) e
  where
    there : (o : Option X) → status_by of_it o ≡ Status.waiting → status_by of_it (option_map f o) ≡ Status.over
    there None is = cc
    there (Some x) is = so x is

run_over : (phase : RunPhase) (b : Bool) (x : RunState) → run_status phase b ≡ Status.waiting
    → status_of_run (stopped_in phase x) ≡ Status.over
run_over run.Waiting b x e = refl
run_over run.Live b x e = cc
run_over run.Ended b x e = cc

leg_over : (z : LegState) (phase : LegPhase) → z.phase ≡ phase → leg_status phase ≡ Status.waiting → status_of_leg (stopped z) ≡ Status.over
leg_over z leg.New is e = cc
leg_over z leg.Waiting is e = ap (λ (phase : LegPhase). status_of_leg (stopped (record z { phase = phase }))) is
leg_over z leg.Ready is e = cc
leg_over z leg.Running is e = cc
leg_over z leg.Stopping is e = cc
leg_over z (leg.Ended r) is e = cc

stop_is_over : (h : Holder) (runs : List RunState) → status runs h ≡ Status.waiting → status (stop_holder h runs).runs h ≡ Status.over
stop_is_over (Run r) runs e = over_when status_of_run stopped_run (λ x is. run_over x.phase x.stopping x is) runs r e
stop_is_over (Leg p) runs e =
    status_by_run (with_leg p stopped runs) p
    ∙ over_when (status_in_run p.job p.leg) (with_job_of p.job (with_leg_of p.leg stopped))
    (λ x is. over_when (status_in_job p.leg) (with_leg_of p.leg stopped)
    (λ y so. over_when status_of_leg stopped (λ z now. leg_over z z.phase refl now) y.legs p.leg so) x.jobs p.job is) runs p.run
    (sym (status_by_run runs p) ∙ e)

pub displace_tells : (d : Holder) (runs : List RunState) → status runs d ≡ Status.waiting → Tells runs (displace d runs)
displace_tells d runs waiting h =
    let ended : List Move = Move.end_with Cancelled d ∷ [] in
    let next = (stop_holder d runs).runs in
    elim (one_or_another h d) [
      | inl same ↦ subst (λ (k : Holder). Goes k (status runs k) (own k ended) (status next k)) (sym same)
          (goes_by d (status runs d) (status next d) (own d ended) ended
          (sym (ap (λ b. if b then Move.end_with Cancelled d ∷ [] else []) (itself d)))
          (subst (λ (s : Status). Goes d (status runs d) ended s) (sym (stop_is_over d runs waiting))
          (goes_over d (status runs d) ended (ends_at_once d Cancelled))))
      | inr other ↦
          let apart = other.0 in
          let none_of_stop : own h (stop_holder d runs).moves ≡ [] =
          ap (own h) (stop_when_waiting d runs waiting)
          ∙ ap (λ b. if b then Move.stop d ∷ (if b then ended else []) else (if b then ended else [])) other.1 in
          goes_by h (status runs h) (status next h) (own h ended) (own h (stop_holder d runs).moves)
          (none_of_stop ∙ sym (only_one d (Move.end_with Cancelled d) refl h apart)) (stop_tells d runs h)
    ]

-- ---- the stop of a holder in progress that is not yet asked to stop comes first

run_begins : (r : ℕ) (phase : RunPhase) (x : RunState) → x.phase ≡ phase → status_of_run x ≡ Status.in_progress false
    → BeginsWith (Move.stop (Run r) ∷ []) (run_stop_moves_in phase r x)
run_begins r run.Waiting x is e = let no : Status.waiting ≡ Status.in_progress false = sym (ap (λ
    (phase : RunPhase). run_status phase x.stopping) is) ∙ e in cc
run_begins r run.Live x is e =
    let untold : Status.in_progress x.stopping ≡ Status.in_progress false = sym (ap (λ (phase : RunPhase). run_status phase x.stopping) is) ∙ e in
    let flag : x.stopping ≡ false = cc in
    (jobs_stop_moves r (record x { stopping = true }), ap (λ b. if b then [] else stop_request_moves r x) flag)
run_begins r run.Ended x is e = let no : Status.over ≡ Status.in_progress false = sym (ap (λ
    (phase : RunPhase). run_status phase x.stopping) is) ∙ e in cc

leg_begins : (p : LegSite) (phase : LegPhase) → leg_status phase ≡ Status.in_progress false
    → BeginsWith (Move.stop (Leg p) ∷ []) (leg_stop_moves p phase)
leg_begins p leg.New e = cc
leg_begins p leg.Waiting e = cc
leg_begins p leg.Ready e = (Move.end_with Cancelled (Leg p) ∷ [], refl)
leg_begins p leg.Running e = ([], refl)
leg_begins p leg.Stopping e = cc
leg_begins p (leg.Ended r) e = cc

begins_when : {X : Type 0} (of_it : X → Status) (moves : X → List Move) (prefix : List Move)
    → ((x : X) → of_it x ≡ Status.in_progress false → BeginsWith prefix (moves x)) → (o : Option X) → status_by of_it o ≡ Status.in_progress false
    → BeginsWith prefix (option_map_or moves o [])
begins_when of_it moves prefix so None e = cc
begins_when of_it moves prefix so (Some x) e = so x e

pub stop_begins : (h : Holder) (runs : List RunState) → status runs h ≡ Status.in_progress false
    → BeginsWith (Move.stop h ∷ []) (stop_holder h runs).moves
stop_begins (Run r) runs e =
    begins_when status_of_run (λ x. run_stop_moves_in x.phase r x) (Move.stop (Run r) ∷ [])
    (λ x is. run_begins r x.phase x refl is)
    (run_at runs r) e
stop_begins (Leg p) runs e =
    begins_when status_of_leg (λ z. leg_stop_moves p z.phase) (Move.stop (Leg p) ∷ []) (λ z is. leg_begins p z.phase is)
    (leg_at runs p) e
