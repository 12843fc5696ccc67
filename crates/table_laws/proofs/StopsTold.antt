-- The moves of a stop are those of the holders that it ends or asks to stop: the status of each changes as its own moves say.
use Rattle.std.specs.Prelude.{◌≡◌, ℕ, List, [], ◌∷◌, ◌&&◌, map, not, Bool, true, false, Option, Some, None, option_map}
use Rattle.std.specs.Prelude.{slice_get, if◌then◌else◌, nat_eq, refl}
use Rattle.std.specs.Option.{option_map_or}
use Rattle.std.proofs.Common.{ap, ap₂, inl, inr, sym, ◌∙◌, subst}
use Rattle.std.proofs.lemmas.Bool.{cases_eq, eqb-true}
use Rattle.std.proofs.lemmas.Option.{slice_get-map}
use Rattle.wf_value.specs.declared.outcome.JobResult.TheVariants as result
use Rattle.wf_value.specs.declared.outcome.Outcome.TheVariants.{Cancelled}
use Rattle.table_model.specs.Runs.{changed_at, placed, leg_site, run_at, with_run, LegState, JobState, RunState, is_open, finished_as}
use Rattle.table_model.specs.GroupLaw.{holder_of, same_holder, Move, Transition}
use Rattle.table_model.specs.declared.sites.LegSite.{LegSite}
use Rattle.table_model.specs.LegContext.{may_run_in}
use Rattle.table_model.specs.Stops.{jobs_stop_moves, leg_stop_moves, legs_stop_moves, run_stop_moves, run_stop_moves_in, stop_holder}
use Rattle.table_model.specs.Stops.{stop_request_moves, where_stop_moves, with_stopped_legs}
use Rattle.table_model.specs.Stops.{cancelled, stopped, stopped_in, stopped_phase, stopped_run, stopped_where, with_stop_requested}
use Rattle.table_model.specs.declared.phases.LegPhase.{LegPhase}
use Rattle.table_model.specs.declared.phases.LegPhase.TheVariants as leg
use Rattle.table_model.specs.declared.phases.RunPhase.{RunPhase}
use Rattle.table_model.specs.declared.phases.RunPhase.TheVariants as run
use Rattle.table_model.proofs.Changed.{at_another, at_changed}
use Rattle.table_model.proofs.StopKeeps.{get_placed}
use Rattle.settling_laws.proofs.ArrivalKeeps.{itself, one_or_another}
use Rattle.table_laws.proofs.HolderStatus.{Goes, Status, ends_by_stop, goes_not, goes_over, goes_to_stop, goes_unseen, leg_status}
use Rattle.table_laws.proofs.HolderStatus.{run_status, status}
use Rattle.table_laws.proofs.HolderStatus.{status_by, status_by_run, status_in_job, status_in_run, status_of_leg, status_of_run}
use Rattle.table_laws.proofs.OwnMoves.{own}
use Rattle.table_laws.proofs.PlacedOne.{filter_flat_map, none_of_all, one_of_placed}
use Rattle.table_laws.proofs.HoldersOnce.{leg_is}
use Rattle.table_model.specs.declared.holder.Holder.{Holder}
use Rattle.table_model.specs.declared.holder.Holder.TheVariants.{Run, Leg}

-- ---- the element at an index, changed

-- the moves of the element that exists, if there is one
abbrev pub moves_by : {X : Type 0} → (X → List Move) → Option X → List Move
moves_by of_it o = option_map_or of_it o []

-- the status of each element changes as its moves say
abbrev pub EachGoes : {X : Type 0} → Holder → (X → Status) → (X → List Move) → (X → X) → Type 0
EachGoes {X} h of_it moves f = (x : X) → Goes h (of_it x) (moves x) (of_it (f x))

goes_there : {X : Type 0} (h : Holder) (of_it : X → Status) (moves : X → List Move) (f : X → X) → EachGoes h of_it moves f → (o : Option X)
    → Goes h (status_by of_it o) (moves_by moves o) (status_by of_it (option_map f o))
goes_there h of_it moves f goes None = goes_not h Status.unarrived
goes_there h of_it moves f goes (Some x) = goes x

pub changed_goes : {X : Type 0} (h : Holder) (of_it : X → Status) (moves : X → List Move) (f : X → X) → EachGoes h of_it moves f
    → (xs : List X) (i : ℕ)
    → Goes h (status_by of_it (slice_get xs i)) (moves_by moves (slice_get xs i)) (status_by of_it (slice_get (changed_at i f xs) i))
changed_goes {X} h of_it moves f goes xs i =
    subst (λ (o : Option X). Goes h (status_by of_it (slice_get xs i)) (moves_by moves (slice_get xs i)) (status_by of_it o))
    (sym (at_changed i f xs)) (goes_there h of_it moves f goes (slice_get xs i))

pub mapped_goes : {X : Type 0} (h : Holder) (of_it : X → Status) (moves : X → List Move) (f : X → X) → EachGoes h of_it moves f
    → (xs : List X) (i : ℕ)
    → Goes h (status_by of_it (slice_get xs i)) (moves_by moves (slice_get xs i)) (status_by of_it (slice_get (map f xs) i))
mapped_goes {X} h of_it moves f goes xs i =
    subst (λ (o : Option X). Goes h (status_by of_it (slice_get xs i)) (moves_by moves (slice_get xs i)) (status_by of_it o))
    (sym (slice_get-map f xs i)) (goes_there h of_it moves f goes (slice_get xs i))

placed_goes : {X : Type 0} (h : Holder) (of_it : X → Status) (moves : X → List Move) (f : ℕ × X → X) (xs : List X) (i : ℕ)
    → EachGoes h of_it moves (λ x. f (i, x))
    → Goes h (status_by of_it (slice_get xs i)) (moves_by moves (slice_get xs i)) (status_by of_it (slice_get (map f (placed xs)) i))
placed_goes {X} h of_it moves f xs i goes =
    subst (λ (o : Option X). Goes h (status_by of_it (slice_get xs i)) (moves_by moves (slice_get xs i)) (status_by of_it o))
    (sym (get_placed f xs i)) (goes_there h of_it moves (λ x. f (i, x)) goes (slice_get xs i))

-- with equal moves
pub goes_by : (h : Holder) (a b : Status) (moves same : List Move) → same ≡ moves → Goes h a same b → Goes h a moves b
goes_by h a b moves same e goes = subst (λ (ms : List Move). Goes h a ms b) e goes

pub goes_same : (h : Holder) (a b : Status) → b ≡ a → Goes h a [] b
goes_same h a b e = subst (λ (s : Status). Goes h a [] s) (sym e) (goes_not h a)

-- ---- a leg

own_both : (h k : Holder) (b : Bool) → same_holder h k ≡ b
    → own h (Move.stop k ∷ Move.end_with Cancelled k ∷ []) ≡ (if b then Move.stop k ∷ Move.end_with Cancelled k ∷ [] else [])
own_both h k true e =
    ap (λ b. if b then Move.stop k ∷ (if b then Move.end_with Cancelled k ∷ [] else []) else
    (if b then Move.end_with Cancelled k ∷ [] else [])) e
own_both h k false e =
    ap (λ b. if b then Move.stop k ∷ (if b then Move.end_with Cancelled k ∷ [] else []) else
    (if b then Move.end_with Cancelled k ∷ [] else [])) e

own_one : (h k : Holder) (b : Bool) → same_holder h k ≡ b → own h (Move.stop k ∷ []) ≡ (if b then Move.stop k ∷ [] else [])
own_one h k true e = ap (λ b. if b then Move.stop k ∷ [] else []) e
own_one h k false e = ap (λ b. if b then Move.stop k ∷ [] else []) e

pub own_leg_stop : (p : LegSite) (phase : LegPhase) → own (Leg p) (leg_stop_moves p phase) ≡ leg_stop_moves p phase
own_leg_stop p leg.New = refl
own_leg_stop p leg.Waiting = own_both (Leg p) (Leg p) true (itself (Leg p))
own_leg_stop p leg.Ready = own_both (Leg p) (Leg p) true (itself (Leg p))
own_leg_stop p leg.Running = own_one (Leg p) (Leg p) true (itself (Leg p))
own_leg_stop p leg.Stopping = refl
own_leg_stop p (leg.Ended r) = refl

pub not_own_leg_stop : (h : Holder) (p : LegSite) (phase : LegPhase) → same_holder h (Leg p) ≡ false
    → own h (leg_stop_moves p phase) ≡ []
not_own_leg_stop h p leg.New other = refl
not_own_leg_stop h p leg.Waiting other = own_both h (Leg p) false other
not_own_leg_stop h p leg.Ready other = own_both h (Leg p) false other
not_own_leg_stop h p leg.Running other = own_one h (Leg p) false other
not_own_leg_stop h p leg.Stopping other = refl
not_own_leg_stop h p (leg.Ended r) other = refl

phase_goes : (p : LegSite) (phase : LegPhase)
    → Goes (Leg p) (leg_status phase) (leg_stop_moves p phase) (leg_status (stopped_phase phase))
phase_goes p leg.New = goes_unseen (Leg p)
phase_goes p leg.Waiting = goes_over (Leg p) Status.waiting (leg_stop_moves p leg.Waiting) (ends_by_stop
    (Leg p) Cancelled)
phase_goes p leg.Ready = goes_over (Leg p) (Status.in_progress false) (leg_stop_moves p leg.Ready) (ends_by_stop
    (Leg p) Cancelled)
phase_goes p leg.Running = goes_to_stop (Leg p)
phase_goes p leg.Stopping = goes_not (Leg p) (Status.in_progress true)
phase_goes p (leg.Ended r) = goes_not (Leg p) Status.over

pub own_phase_goes : (p : LegSite) → EachGoes (Leg p) status_of_leg (λ z. own (Leg p) (leg_stop_moves p z.phase)) stopped
own_phase_goes p z =
    goes_by (Leg p) (leg_status z.phase) (leg_status (stopped_phase z.phase)) (own (Leg p) (leg_stop_moves p z.phase))
    (leg_stop_moves p z.phase) (sym (own_leg_stop p z.phase)) (phase_goes p z.phase)

-- ---- the legs of a job

pub other_leg : (q : LegSite) (r j l : ℕ) → (leg_site r j l ≡ q → ⊥)
    → same_holder (Leg q) (Leg (leg_site r j l)) ≡ false
other_leg q r j l other =
    elim (one_or_another (Leg q) (Leg (leg_site r j l))) [
      | inl same ↦ absurd (other (leg_is (leg_site r j l) q (sym same)))
      | inr apart ↦ apart.1
    ]

-- the holder is not a leg of the job
abbrev pub IsNoLegOf : Holder → ℕ → ℕ → Type 0
IsNoLegOf h r j = (l : ℕ) → same_holder h (Leg (leg_site r j l)) ≡ false

pub not_own_legs : (h : Holder) (r j : ℕ) (legs : List LegState) → IsNoLegOf h r j → own h (legs_stop_moves r j legs) ≡ []
not_own_legs h r j legs other =
    filter_flat_map (λ m. same_holder h (holder_of m)) (λ (l : ℕ × LegState). leg_stop_moves (leg_site r j l.0) l.1.phase) (placed legs)
    ∙ none_of_all (λ (l : ℕ × LegState). own h (leg_stop_moves (leg_site r j l.0) l.1.phase)) (placed legs)
    (λ l. not_own_leg_stop h (leg_site r j l.0) l.1.phase (other l.0))

own_legs : (q : LegSite) (legs : List LegState)
    → own (Leg q) (legs_stop_moves q.run q.job legs)
    ≡ moves_by (λ z. own (Leg q) (leg_stop_moves q z.phase)) (slice_get legs q.leg)
own_legs q legs =
    filter_flat_map (λ m. same_holder (Leg q) (holder_of m))
    (λ (l : ℕ × LegState). leg_stop_moves (leg_site q.run q.job l.0) l.1.phase) (placed legs)
    ∙ one_of_placed (λ (l : ℕ × LegState). own (Leg q) (leg_stop_moves (leg_site q.run q.job l.0) l.1.phase)) q.leg legs
    (λ k z other. not_own_leg_stop (Leg q) (leg_site q.run q.job k) z.phase
    (other_leg q q.run q.job k (λ same. other (ap (λ (p : LegSite). p.leg) same))))

pub legs_go : (q : LegSite)
    → EachGoes (Leg q) (status_in_job q.leg) (λ y. own (Leg q) (legs_stop_moves q.run q.job y.legs)) with_stopped_legs
legs_go q y =
    goes_by (Leg q) (status_in_job q.leg y) (status_in_job q.leg (with_stopped_legs y))
    (own (Leg q) (legs_stop_moves q.run q.job y.legs))
    (moves_by (λ z. own (Leg q) (leg_stop_moves q z.phase)) (slice_get y.legs q.leg)) (sym (own_legs q y.legs))
    (mapped_goes (Leg q) status_of_leg (λ z. own (Leg q) (leg_stop_moves q z.phase)) stopped
    (own_phase_goes q) y.legs q.leg)

-- if they have to stop
where_goes : (q : LegSite) (b : Bool)
    → EachGoes (Leg q) (status_in_job q.leg) (λ y. own (Leg q) (where_stop_moves b q.run q.job y)) (stopped_where b)
where_goes q b y =
    elim (is_open y.phase && b) as
    (λ c. Goes (Leg q) (status_in_job q.leg y) (own (Leg q) (if c then legs_stop_moves q.run q.job y.legs else []))
    (status_in_job q.leg (if c then with_stopped_legs y else y))) [
      | true ↦ legs_go q y
      | false ↦ goes_not (Leg q) (status_in_job q.leg y)
    ]

not_own_where : (h : Holder) (b : Bool) (r j : ℕ) (y : JobState) → IsNoLegOf h r j → own h (where_stop_moves b r j y) ≡ []
not_own_where h b r j y other =
    elim (is_open y.phase && b) as (λ c. own h (if c then legs_stop_moves r j y.legs else []) ≡ []) [
      | true ↦ not_own_legs h r j y.legs other
      | false ↦ refl
    ]

-- ---- the jobs of a run that is asked to stop

own_jobs : (q : LegSite) (x : RunState)
    → own (Leg q) (jobs_stop_moves q.run x)
    ≡ moves_by (λ y. own (Leg q) (where_stop_moves (not (may_run_in x q.job)) q.run q.job y)) (slice_get x.jobs q.job)
own_jobs q x =
    filter_flat_map (λ m. same_holder (Leg q) (holder_of m))
    (λ (j : ℕ × JobState). where_stop_moves (not (may_run_in x j.0)) q.run j.0 j.1) (placed x.jobs)
    ∙ one_of_placed (λ (j : ℕ × JobState). own (Leg q) (where_stop_moves (not (may_run_in x j.0)) q.run j.0 j.1)) q.job x.jobs
    (λ k y other. not_own_where (Leg q) (not (may_run_in x k)) q.run k y
    (λ l. other_leg q q.run k l (λ same. other (ap (λ (p : LegSite). p.job) same))))

not_own_jobs : (h : Holder) (r : ℕ) (x : RunState) → ((j : ℕ) → IsNoLegOf h r j) → own h (jobs_stop_moves r x) ≡ []
not_own_jobs h r x other =
    filter_flat_map (λ m. same_holder h (holder_of m)) (λ (j : ℕ × JobState). where_stop_moves (not (may_run_in x j.0)) r j.0 j.1)
    (placed x.jobs)
    ∙ none_of_all (λ (j : ℕ × JobState). own h (where_stop_moves (not (may_run_in x j.0)) r j.0 j.1)) (placed x.jobs)
    (λ j. not_own_where h (not (may_run_in x j.0)) r j.0 j.1 (other j.0))

told_goes : (q : LegSite)
    → EachGoes (Leg q) (status_in_run q.job q.leg) (λ x. own (Leg q) (stop_request_moves q.run x)) with_stop_requested
told_goes q x =
    let told = record x { stopping = true } in
    goes_by (Leg q) (status_in_run q.job q.leg x) (status_in_run q.job q.leg (with_stop_requested x))
    (own (Leg q) (jobs_stop_moves q.run told))
    (moves_by (λ y. own (Leg q) (where_stop_moves (not (may_run_in told q.job)) q.run q.job y)) (slice_get x.jobs q.job))
    (sym (own_jobs q told))
    (placed_goes (Leg q) (status_in_job q.leg)
    (λ y. own (Leg q) (where_stop_moves (not (may_run_in told q.job)) q.run q.job y))
    (λ (j : ℕ × JobState). stopped_where (not (may_run_in told j.0)) j.1) x.jobs q.job (where_goes q (not (may_run_in told q.job))))

cancelled_same : (j l : ℕ) (x : RunState) → status_in_run j l (cancelled x) ≡ status_in_run j l x
cancelled_same j l x = ap (status_by (status_in_job l)) (slice_get-map (finished_as result.Cancelled) x.jobs j) ∙ again (slice_get x.jobs j)
  where
    again : (o : Option JobState) → status_by (status_in_job l) (option_map (finished_as result.Cancelled) o) ≡ status_by (status_in_job l) o
    again None = refl
    again (Some y) = refl

leg_of_run_goes : (q : LegSite) (phase : RunPhase) (x : RunState)
    → Goes (Leg q) (status_in_run q.job q.leg x) (own (Leg q) (run_stop_moves_in phase q.run x))
    (status_in_run q.job q.leg (stopped_in phase x))
leg_of_run_goes q run.Waiting x =
    goes_same (Leg q) (status_in_run q.job q.leg x) (status_in_run q.job q.leg (cancelled x)) (cancelled_same q.job q.leg x)
leg_of_run_goes q run.Live x =
    elim (x.stopping) as
    (λ b. Goes (Leg q) (status_in_run q.job q.leg x) (own (Leg q) (if b then [] else stop_request_moves q.run x))
    (status_in_run q.job q.leg (if b then x else with_stop_requested x))) [
      | true ↦ goes_not (Leg q) (status_in_run q.job q.leg x)
      | false ↦ told_goes q x
    ]
leg_of_run_goes q run.Ended x = goes_not (Leg q) (status_in_run q.job q.leg x)

-- ---- the run itself

own_run_told : (r : ℕ) (x : RunState) → own (Run r) (stop_request_moves r x) ≡ Move.stop (Run r) ∷ []
own_run_told r x =
    let rest : List Move = own (Run r) (jobs_stop_moves r (record x { stopping = true })) in
    ap (λ b. if b then Move.stop (Run r) ∷ rest else rest) (itself (Run r))
    ∙ ap (λ ms. Move.stop (Run r) ∷ ms) (not_own_jobs (Run r) r (record x { stopping = true }) (λ j l. refl))

run_goes_in : (r : ℕ) (phase : RunPhase) (x : RunState) → x.phase ≡ phase
    → Goes (Run r) (status_of_run x) (own (Run r) (run_stop_moves_in phase r x)) (status_of_run (stopped_in phase x))
run_goes_in r run.Waiting x e =
    goes_by (Run r) (status_of_run x) Status.over
    (own (Run r) (Move.stop (Run r) ∷ Move.end_with Cancelled (Run r) ∷ []))
    (Move.stop (Run r) ∷ Move.end_with Cancelled (Run r) ∷ [])
    (sym (own_both (Run r) (Run r) true (itself (Run r))))
    (goes_over (Run r) (status_of_run x) (Move.stop (Run r) ∷ Move.end_with Cancelled (Run r) ∷ [])
    (ends_by_stop (Run r) Cancelled))
run_goes_in r run.Live x e =
    elim (x.stopping) as
    (λ b. x.stopping ≡ b → Goes (Run r) (status_of_run x) (own (Run r) (if b then [] else stop_request_moves r x))
    (status_of_run (if b then x else with_stop_requested x))) [
      | true ↦ λ is. goes_not (Run r) (status_of_run x)
      | false ↦ λ is.
          let before : status_of_run x ≡ Status.in_progress false = ap₂ run_status e is in
          let after : status_of_run (with_stop_requested x) ≡ Status.in_progress true = ap (λ phase. run_status phase true) e in
          subst (λ (s : Status). Goes (Run r) s (own (Run r) (stop_request_moves r x)) (status_of_run (with_stop_requested x)))
          (sym before)
          (subst (λ (s : Status). Goes (Run r) (Status.in_progress false) (own (Run r) (stop_request_moves r x)) s) (sym after)
          (goes_by (Run r) (Status.in_progress false) (Status.in_progress true) (own (Run r) (stop_request_moves r x))
          (Move.stop (Run r) ∷ []) (sym (own_run_told r x)) (goes_to_stop (Run r))))
    ] refl
run_goes_in r run.Ended x e = goes_not (Run r) (status_of_run x)

-- ---- a holder is stopped

-- the status of each holder changes as its own moves say
abbrev pub Tells : List RunState → Transition → Type 0
Tells runs m = (h : Holder) → Goes h (status runs h) (own h m.moves) (status m.runs h)

own_of_run : (h : Holder) (r : ℕ) (o : Option RunState)
    → moves_by (λ x. own h (run_stop_moves r x)) o ≡ own h (option_map_or (run_stop_moves r) o [])
own_of_run h r None = refl
own_of_run h r (Some x) = refl

nothing_of_run : (h : Holder) (r : ℕ) (o : Option RunState) → ((x : RunState) → own h (run_stop_moves r x) ≡ [])
    → own h (option_map_or (run_stop_moves r) o []) ≡ []
nothing_of_run h r None none = refl
nothing_of_run h r (Some x) none = none x

not_own_run : (h : Holder) (r : ℕ) (phase : RunPhase) (x : RunState) → same_holder h (Run r) ≡ false
    → ((j : ℕ) → IsNoLegOf h r j) → own h (run_stop_moves_in phase r x) ≡ []
not_own_run h r run.Waiting x other none = own_both h (Run r) false other
not_own_run h r run.Live x other none =
    elim (x.stopping) as (λ b. own h (if b then [] else stop_request_moves r x) ≡ []) [
      | true ↦ refl
      | false ↦
          let rest : List Move = own h (jobs_stop_moves r (record x { stopping = true })) in
          ap (λ b. if b then Move.stop (Run r) ∷ rest else rest) other ∙ not_own_jobs h r (record x { stopping = true }) none
    ]
not_own_run h r run.Ended x other none = refl

nat_apart : (a b : ℕ) → (a ≡ b → ⊥) → nat_eq a b ≡ false
nat_apart a b other =
    elim (nat_eq a b) as (λ c. nat_eq a b ≡ c → c ≡ false) [
      | true ↦ λ is. absurd (other (eqb-true a b is))
      | false ↦ λ is. refl
    ] refl

leg_of_another_run : (q : LegSite) (r : ℕ) → (q.run ≡ r → ⊥) → (j : ℕ) → IsNoLegOf (Leg q) r j
leg_of_another_run q r other j l = ap (λ b. b && (nat_eq q.job j && nat_eq q.leg l)) (nat_apart q.run r other)

pub run_stop_goes : (r : ℕ) (runs : List RunState) → Tells runs (stop_holder (Run r) runs)
run_stop_goes r runs (Run s) =
    elim (cases_eq s r) [
      | inl same ↦ subst
          (λ (k : ℕ). Goes (Run k) (status runs (Run k)) (own (Run k) (option_map_or (run_stop_moves r)
          (run_at runs r) []))
          (status (with_run r stopped_run runs) (Run k))) (sym same)
          (goes_by (Run r) (status runs (Run r)) (status (with_run r stopped_run runs) (Run r))
          (own (Run r) (option_map_or (run_stop_moves r) (run_at runs r) []))
          (moves_by (λ x. own (Run r) (run_stop_moves r x)) (run_at runs r)) (own_of_run (Run r) r (run_at runs r))
          (changed_goes (Run r) status_of_run (λ x. own (Run r) (run_stop_moves r x)) stopped_run
          (λ x. run_goes_in r x.phase x refl) runs r))
      | inr other ↦
          goes_by (Run s) (status runs (Run s)) (status (with_run r stopped_run runs) (Run s))
          (own (Run s) (option_map_or (run_stop_moves r) (run_at runs r) [])) []
          (sym (nothing_of_run (Run s) r (run_at runs r)
          (λ x. not_own_run (Run s) r x.phase x (nat_apart s r other) (λ j l. refl))))
          (goes_same (Run s) (status runs (Run s)) (status (with_run r stopped_run runs) (Run s))
          (ap (status_by status_of_run) (at_another r stopped_run runs s other)))
    ]
run_stop_goes r runs (Leg q) =
    let next = with_run r stopped_run runs in
    subst (λ (s : Status). Goes (Leg q) s (own (Leg q) (option_map_or (run_stop_moves r) (run_at runs r) []))
    (status next (Leg q))) (sym (status_by_run runs q))
    (subst (λ (s : Status). Goes (Leg q) (status_by (status_in_run q.job q.leg) (run_at runs q.run))
    (own (Leg q) (option_map_or (run_stop_moves r) (run_at runs r) [])) s) (sym (status_by_run next q))
    (elim (cases_eq q.run r) [
      | inl same ↦ subst
          (λ (k : ℕ). Goes (Leg q) (status_by (status_in_run q.job q.leg) (run_at runs q.run))
          (own (Leg q) (option_map_or (run_stop_moves k) (run_at runs k) []))
          (status_by (status_in_run q.job q.leg) (run_at (with_run k stopped_run runs) q.run))) same
          (goes_by (Leg q) (status_by (status_in_run q.job q.leg) (run_at runs q.run))
          (status_by (status_in_run q.job q.leg) (run_at (with_run q.run stopped_run runs) q.run))
          (own (Leg q) (option_map_or (run_stop_moves q.run) (run_at runs q.run) []))
          (moves_by (λ x. own (Leg q) (run_stop_moves q.run x)) (run_at runs q.run)) (own_of_run (Leg q) q.run
          (run_at runs q.run))
          (changed_goes (Leg q) (status_in_run q.job q.leg) (λ x. own (Leg q) (run_stop_moves q.run x)) stopped_run
          (λ x. leg_of_run_goes q x.phase x) runs q.run))
      | inr other ↦
          goes_by (Leg q) (status_by (status_in_run q.job q.leg) (run_at runs q.run))
          (status_by (status_in_run q.job q.leg) (run_at next q.run))
          (own (Leg q) (option_map_or (run_stop_moves r) (run_at runs r) [])) []
          (sym (nothing_of_run (Leg q) r (run_at runs r)
          (λ x. not_own_run (Leg q) r x.phase x refl (leg_of_another_run q r other))))
          (goes_same (Leg q) (status_by (status_in_run q.job q.leg) (run_at runs q.run))
          (status_by (status_in_run q.job q.leg) (run_at next q.run))
          (ap (status_by (status_in_run q.job q.leg)) (at_another r stopped_run runs q.run other)))
    ]))
