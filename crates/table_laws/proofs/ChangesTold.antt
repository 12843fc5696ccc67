-- The moves of a change of one job, of one leg or of one run match how the status of each holder changes.
use Rattle.std.specs.Prelude.{◌≡◌, ℕ, zero, suc, List, [], ◌∷◌, replicate, false, Option}
use Rattle.std.specs.Prelude.{Some, None}
use Rattle.std.specs.Prelude.{option_map, option_and_then, slice_get, if◌then◌else◌, refl}
use Rattle.std.specs.Option.{option_map_or}
use Rattle.std.proofs.Common.{ap, inl, inr, sym, ◌∙◌, subst}
use Rattle.std.proofs.lemmas.Bool.{cases_eq}
use Rattle.table_model.specs.GroupLaw.{holder_of, same_holder, Move}
use Rattle.table_model.specs.Runs.{job_at, leg_at, leg_site, run_at, with_job, with_leg, with_run, LegState, JobState, RunState, new_leg}
use Rattle.table_model.specs.declared.sites.LegSite.{LegSite}
use Rattle.table_model.specs.Stops.{leg_stop_moves, legs_stop_moves, stop_holder, stopped, with_stopped_legs}
use Rattle.table_model.proofs.Changed.{at_another, at_changed}
use Rattle.table_model.proofs.JobKeeps.{with_job_of, with_leg_of}
use Rattle.settling_laws.proofs.ArrivalKeeps.{one_or_another}
use Rattle.table_laws.proofs.HolderStatus.{Goes, Status, goes_not, status, status_by, status_in_job, status_in_run, status_of_leg}
use Rattle.table_laws.proofs.HolderStatus.{status_by_run, status_of_run, through}
use Rattle.table_laws.proofs.OwnMoves.{own}
use Rattle.table_laws.proofs.StopsTold.{Tells, goes_by, goes_same, legs_go, not_own_leg_stop, not_own_legs}
use Rattle.table_laws.proofs.StopsTold.{own_phase_goes, run_stop_goes}
use Rattle.table_model.specs.declared.holder.Holder.{Holder}
use Rattle.table_model.specs.declared.holder.Holder.TheVariants.{Run, Leg}

-- ---- which holders move

-- the only moves are of this holder
abbrev pub OnlyOf : Holder → List Move → Type 0
OnlyOf k moves = (h : Holder) → (h ≡ k → ⊥) → own h moves ≡ []

apart_by : (h k : Holder) → (h ≡ k → ⊥) → same_holder h k ≡ false
apart_by h k other =
    elim (one_or_another h k) [
      | inl same ↦ absurd (other same)
      | inr apart ↦ apart.1
    ]

pub only_one : (k : Holder) (m : Move) → holder_of m ≡ k → OnlyOf k (m ∷ [])
only_one k m is h other = ap (λ b. if b then m ∷ [] else []) (ap (same_holder h) is ∙ apart_by h k other)

pub only_none : (k : Holder) → OnlyOf k []
only_none k h other = refl

-- ---- a job

status_by_job : (runs : List RunState) (q : LegSite)
    → status runs (Leg q) ≡ status_by (status_in_job q.leg) (job_at runs q.run q.job)
status_by_job runs q = through status_of_leg (λ (y : JobState). slice_get y.legs q.leg) (job_at runs q.run q.job)

changed_run : (j : ℕ) (f : JobState → JobState) (o : Option RunState)
    → option_and_then (λ (x : RunState). slice_get x.jobs j) (option_map (with_job_of j f) o)
    ≡ option_map f (option_and_then (λ (x : RunState). slice_get x.jobs j) o)
changed_run j f None = refl
changed_run j f (Some x) = at_changed j f x.jobs

job_changed : (r j : ℕ) (f : JobState → JobState) (runs : List RunState) → job_at (with_job r j f runs) r j ≡ option_map f (job_at runs r j)
job_changed r j f runs =
    ap (option_and_then (λ (x : RunState). slice_get x.jobs j)) (at_changed r (with_job_of j f) runs) ∙ changed_run j f (run_at runs r)

same_in_run : (j k : ℕ) (f : JobState → JobState) → (k ≡ j → ⊥) → (o : Option RunState)
    → option_and_then (λ (x : RunState). slice_get x.jobs k) (option_map (with_job_of j f) o)
    ≡ option_and_then (λ (x : RunState). slice_get x.jobs k) o
same_in_run j k f other None = refl
same_in_run j k f other (Some x) = at_another j f x.jobs k other

another_job : (r j : ℕ) (f : JobState → JobState) (runs : List RunState) (k : ℕ) → (k ≡ j → ⊥)
    → job_at (with_job r j f runs) r k ≡ job_at runs r k
another_job r j f runs k other =
    ap (option_and_then (λ (x : RunState). slice_get x.jobs k)) (at_changed r (with_job_of j f) runs)
    ∙ same_in_run j k f other (run_at runs r)

another_run : (r j : ℕ) (f : JobState → JobState) (runs : List RunState) (s k : ℕ) → (s ≡ r → ⊥)
    → job_at (with_job r j f runs) s k ≡ job_at runs s k
another_run r j f runs s k other =
    ap (option_and_then (λ (x : RunState). slice_get x.jobs k)) (at_another r (with_job_of j f) runs s other)

run_still : (j : ℕ) (f : JobState → JobState) (o : Option RunState)
    → status_by status_of_run (option_map (with_job_of j f) o) ≡ status_by status_of_run o
run_still j f None = refl
run_still j f (Some x) = refl

run_status_same : (r j : ℕ) (f : JobState → JobState) (runs : List RunState) (s : ℕ)
    → status (with_job r j f runs) (Run s) ≡ status runs (Run s)
run_status_same r j f runs s =
    elim (cases_eq s r) [
      | inl same ↦ subst (λ (k : ℕ). status (with_job r j f runs) (Run k) ≡ status runs (Run k)) (sym same)
          (ap (status_by status_of_run) (at_changed r (with_job_of j f) runs) ∙ run_still j f (run_at runs r))
      | inr other ↦ ap (status_by status_of_run) (at_another r (with_job_of j f) runs s other)
    ]

-- what has to be shown for a change of a job
pub record TellsOfJob (r j : ℕ) (f : JobState → JobState) (runs : List RunState) (moves : List Move) : Type 0 where
  pub there : (l : ℕ) (y : JobState) → job_at runs r j ≡ Some y
      → Goes (Leg (leg_site r j l)) (status_in_job l y) (own (Leg (leg_site r j l)) moves) (status_in_job l (f y))
  pub nowhere : (l : ℕ) → job_at runs r j ≡ None → own (Leg (leg_site r j l)) moves ≡ []
  pub only : (h : Holder) → ((l : ℕ) → h ≡ Leg (leg_site r j l) → ⊥) → own h moves ≡ []

module _ (r j : ℕ) (f : JobState → JobState) (runs : List RunState) (moves : List Move) (tells : TellsOfJob r j f runs moves) where
  no_move : (h : Holder) → own h moves ≡ [] → status (with_job r j f runs) h ≡ status runs h
      → Goes h (status runs h) (own h moves) (status (with_job r j f runs) h)
  no_move h none same =
      goes_by h (status runs h) (status (with_job r j f runs) h) (own h moves) [] (sym none)
      (goes_same h (status runs h) (status (with_job r j f runs) h) same)

  goes_in_job : (l : ℕ) (o : Option JobState) → job_at runs r j ≡ o
      → Goes (Leg (leg_site r j l)) (status_by (status_in_job l) o) (own (Leg (leg_site r j l)) moves)
      (status_by (status_in_job l) (option_map f o))
  goes_in_job l None is =
      goes_by (Leg (leg_site r j l)) Status.unarrived Status.unarrived (own (Leg (leg_site r j l)) moves) []
      (sym (tells.nowhere l is)) (goes_not (Leg (leg_site r j l)) Status.unarrived)
  goes_in_job l (Some y) is = tells.there l y is

  leg_goes : (l : ℕ)
      → Goes (Leg (leg_site r j l)) (status runs (Leg (leg_site r j l))) (own (Leg (leg_site r j l)) moves)
      (status (with_job r j f runs) (Leg (leg_site r j l)))
  leg_goes l =
      let h = Leg (leg_site r j l) in
      let before = status_by_job runs (leg_site r j l) in
      let after = status_by_job (with_job r j f runs) (leg_site r j l) ∙ ap (status_by (status_in_job l)) (job_changed r j f runs) in
      subst (λ (s : Status). Goes h s (own h moves) (status (with_job r j f runs) h)) (sym before)
      (subst (λ (s : Status). Goes h (status_by (status_in_job l) (job_at runs r j)) (own h moves) s) (sym after)
      (goes_in_job l (job_at runs r j) refl))

  pub job_tells : Tells runs (record { runs = with_job r j f runs; moves = moves })
  job_tells (Run s) =
      no_move (Run s) (tells.only (Run s) (λ l e. cc)) (run_status_same r j f runs s)
  job_tells (Leg q) =
      elim (cases_eq q.run r) [
        | inr other ↦
            no_move (Leg q) (tells.only (Leg q) (λ l e. other (run_is q (leg_site r j l) e)))
            (status_by_job (with_job r j f runs) q ∙ ap (status_by (status_in_job q.leg)) (another_run r j f runs q.run q.job other)
            ∙ sym (status_by_job runs q))
        | inl same ↦ elim (cases_eq q.job j) [
          | inr other ↦
              no_move (Leg q) (tells.only (Leg q) (λ l e. other (job_is q (leg_site r j l) e)))
              (status_by_job (with_job r j f runs) q
              ∙ ap (λ (s : ℕ). status_by (status_in_job q.leg) (job_at (with_job r j f runs) s q.job)) same
              ∙ ap (status_by (status_in_job q.leg)) (another_job r j f runs q.job other)
              ∙ ap (λ (s : ℕ). status_by (status_in_job q.leg) (job_at runs s q.job)) (sym same)
              ∙ sym (status_by_job runs q))
          | inl too ↦ subst
              (λ (p : LegSite). Goes (Leg p) (status runs (Leg p)) (own (Leg p) moves)
              (status (with_job r j f runs) (Leg p))) (place_is q same too) (leg_goes q.leg)
        ]
      ]
    where
      run_is : (p q : LegSite) → Leg p ≡ Leg q → p.run ≡ q.run
      run_is p q e = let same : p ≡ q = cc in ap (λ (x : LegSite). x.run) same

      job_is : (p q : LegSite) → Leg p ≡ Leg q → p.job ≡ q.job
      job_is p q e = let same : p ≡ q = cc in ap (λ (x : LegSite). x.job) same

      place_is : (q : LegSite) → q.run ≡ r → q.job ≡ j → leg_site r j q.leg ≡ q
      place_is q same too =
          ap (λ (a : ℕ). leg_site a j q.leg) (sym same) ∙ ap (λ (b : ℕ). leg_site q.run b q.leg) (sym too)

-- a job that keeps the status of its legs
pub quiet_job_tells : (r j : ℕ) (f : JobState → JobState) (runs : List RunState)
    → ((l : ℕ) (y : JobState) → job_at runs r j ≡ Some y → status_in_job l (f y) ≡ status_in_job l y)
    → Tells runs (record { runs = with_job r j f runs; moves = [] })
quiet_job_tells r j f runs same =
    job_tells r j f runs []
    (record {
      there = (λ l y is. goes_same (Leg (leg_site r j l)) (status_in_job l y) (status_in_job l (f y)) (same l y is));
      nowhere = (λ l none. refl);
      only = (λ h other. refl);
    })

no_new_leg_there : (n l : ℕ) → status_by status_of_leg (slice_get (replicate n new_leg) l) ≡ Status.unarrived
no_new_leg_there zero l = refl
no_new_leg_there (suc n) zero = refl
no_new_leg_there (suc n) (suc l) = no_new_leg_there n l

-- new legs in place of none
pub new_legs_same : (n l : ℕ) (legs : List LegState) → legs ≡ []
    → status_by status_of_leg (slice_get (replicate n new_leg) l) ≡ status_by status_of_leg (slice_get legs l)
new_legs_same n l legs none = no_new_leg_there n l ∙ sym (ap (λ (ls : List LegState). status_by status_of_leg (slice_get ls l)) none)

-- ---- a leg

pub leg_tells : (p : LegSite) (f : LegState → LegState) (runs : List RunState) (moves : List Move)
    → ((z : LegState) → leg_at runs p ≡ Some z → Goes (Leg p) (status_of_leg z) (own (Leg p) moves) (status_of_leg (f z)))
    → (leg_at runs p ≡ None → own (Leg p) moves ≡ []) → OnlyOf (Leg p) moves
    → Tells runs (record { runs = with_leg p f runs; moves = moves })
leg_tells p f runs moves there nowhere only =
    job_tells p.run p.job (with_leg_of p.leg f) runs moves
    (record {
      there = (λ l y is. elim (cases_eq l p.leg) [
        | inl same ↦ subst
            (λ (k : ℕ). Goes (Leg (leg_site p.run p.job k)) (status_in_job k y) (own (Leg
            (leg_site p.run p.job k)) moves)
            (status_in_job k (with_leg_of p.leg f y))) (sym same) (in_job y is)
        | inr other ↦
            let h = Leg (leg_site p.run p.job l) in
            goes_by h (status_in_job l y) (status_in_job l (with_leg_of p.leg f y)) (own h moves) []
            (sym (only h (λ e. other (leg_is (leg_site p.run p.job l) p e))))
            (goes_same h (status_in_job l y) (status_in_job l (with_leg_of p.leg f y)) (ap (status_by status_of_leg)
            (at_another p.leg f y.legs l other)))
      ]);
      nowhere = (λ l none. elim (cases_eq l p.leg) [
        | inl same ↦ ap (λ (k : ℕ). own (Leg (leg_site p.run p.job k)) moves) same
            ∙ nowhere (ap (option_and_then (λ (y : JobState). slice_get y.legs p.leg)) none)
        | inr other ↦ only (Leg (leg_site p.run p.job l)) (λ e. other (leg_is (leg_site p.run p.job l) p e))
      ]);
      only = (λ h none. only h (λ e. none p.leg e));
    })
  where
    leg_is : (p q : LegSite) → Leg p ≡ Leg q → p.leg ≡ q.leg
    leg_is p q e = let same : p ≡ q = cc in ap (λ (x : LegSite). x.leg) same

    at_leg : (y : JobState) → job_at runs p.run p.job ≡ Some y → leg_at runs p ≡ slice_get y.legs p.leg
    at_leg y is = ap (option_and_then (λ (y : JobState). slice_get y.legs p.leg)) is

    by_leg : (y : JobState) (o : Option LegState) → leg_at runs p ≡ o
        → Goes (Leg p) (status_by status_of_leg o) (own (Leg p) moves) (status_by status_of_leg (option_map f o))
    by_leg y None is =
        goes_by (Leg p) Status.unarrived Status.unarrived (own (Leg p) moves) [] (sym (nowhere is))
        (goes_not (Leg p) Status.unarrived)
    by_leg y (Some z) is = there z is

    in_job : (y : JobState) → job_at runs p.run p.job ≡ Some y
        → Goes (Leg p) (status_in_job p.leg y) (own (Leg p) moves) (status_in_job p.leg (with_leg_of p.leg f y))
    in_job y is =
        subst (λ (o : Option LegState). Goes (Leg p) (status_in_job p.leg y) (own (Leg p) moves)
        (status_by status_of_leg o))
        (sym (at_changed p.leg f y.legs)) (by_leg y (slice_get y.legs p.leg) (at_leg y is))

leg_stop_by : (p : LegSite) (o : Option LegState) (z : LegState) → o ≡ Some z
    → own (Leg p) (leg_stop_moves p z.phase) ≡ own (Leg p) (option_map_or (λ l. leg_stop_moves p l.phase) o [])
leg_stop_by p o z is = ap (λ u. own (Leg p) (option_map_or (λ l. leg_stop_moves p l.phase) u [])) (sym is)

not_own_stop : (h : Holder) (p : LegSite) (o : Option LegState) → same_holder h (Leg p) ≡ false
    → own h (option_map_or (λ l. leg_stop_moves p l.phase) o []) ≡ []
not_own_stop h p None other = refl
not_own_stop h p (Some z) other = not_own_leg_stop h p z.phase other

pub leg_stop_tells : (p : LegSite) (runs : List RunState) → Tells runs (stop_holder (Leg p) runs)
leg_stop_tells p runs =
    let moves : List Move = option_map_or (λ l. leg_stop_moves p l.phase) (leg_at runs p) [] in
    leg_tells p stopped runs moves
    (λ z is. goes_by (Leg p) (status_of_leg z) (status_of_leg (stopped z)) (own (Leg p) moves)
    (own (Leg p) (leg_stop_moves p z.phase)) (leg_stop_by p (leg_at runs p) z is) (own_phase_goes p z))
    (λ none. ap (λ o. own (Leg p) (option_map_or (λ (l : LegState). leg_stop_moves p l.phase) o [])) none)
    (λ h other. not_own_stop h p (leg_at runs p) (apart_by h (Leg p) other))

pub stop_tells : (h : Holder) (runs : List RunState) → Tells runs (stop_holder h runs)
stop_tells (Run r) runs = run_stop_goes r runs
stop_tells (Leg p) runs = leg_stop_tells p runs

-- ---- all legs of a job are stopped

pub legs_stop_tells : (r j : ℕ) (runs : List RunState)
    → Tells runs (record {
      runs = with_job r j with_stopped_legs runs;
      moves =
          option_map_or (λ job. legs_stop_moves r j job.legs) (job_at runs r j) [];
    })
legs_stop_tells r j runs =
    let moves : List Move = option_map_or (λ job. legs_stop_moves r j job.legs) (job_at runs r j) [] in
    job_tells r j with_stopped_legs runs moves
    (record {
      there = (λ l y is.
          let h = Leg (leg_site r j l) in
          goes_by h (status_in_job l y) (status_in_job l (with_stopped_legs y)) (own h moves) (own h (legs_stop_moves r j y.legs))
          (ap (λ o. own h (option_map_or (λ (job : JobState). legs_stop_moves r j job.legs) o [])) (sym is)) (legs_go (leg_site r j l) y));
      nowhere = (λ l none. ap (λ o. own (Leg (leg_site r j l)) (option_map_or (λ
          (job : JobState). legs_stop_moves r j job.legs) o [])) none);
      only = (λ h none. not_own h none (job_at runs r j));
    })
  where
    not_own : (h : Holder) → ((l : ℕ) → h ≡ Leg (leg_site r j l) → ⊥) → (o : Option JobState)
        → own h (option_map_or (λ job. legs_stop_moves r j job.legs) o []) ≡ []
    not_own h none None = refl
    not_own h none (Some y) = not_own_legs h r j y.legs (λ l. apart_by h (Leg (leg_site r j l)) (none l))

-- ---- a run

pub run_tells : (r : ℕ) (f : RunState → RunState) (runs : List RunState) (moves : List Move) → ((x : RunState) → (f x).jobs ≡ x.jobs)
    → ((x : RunState) → run_at runs r ≡ Some x → Goes (Run r) (status_of_run x) (own (Run r) moves) (status_of_run (f x)))
    → (run_at runs r ≡ None → own (Run r) moves ≡ []) → OnlyOf (Run r) moves
    → Tells runs (record { runs = with_run r f runs; moves = moves })
run_tells r f runs moves same_jobs there nowhere only (Run s) =
    elim (cases_eq s r) [
      | inl same ↦ subst
          (λ (k : ℕ). Goes (Run k) (status runs (Run k)) (own (Run k) moves) (status (with_run r f runs)
          (Run k)))
          (sym same)
          (subst (λ (o : Option RunState). Goes (Run r) (status runs (Run r)) (own (Run r) moves)
          (status_by status_of_run o))
          (sym (at_changed r f runs)) (by_run (run_at runs r) refl))
      | inr other ↦
          goes_by (Run s) (status runs (Run s)) (status (with_run r f runs) (Run s)) (own
          (Run s) moves) []
          (sym (only (Run s) (λ e. other (run_is s r e))))
          (goes_same (Run s) (status runs (Run s)) (status (with_run r f runs) (Run s))
          (ap (status_by status_of_run) (at_another r f runs s other)))
    ]
  where
    run_is : (a b : ℕ) → Run a ≡ Run b → a ≡ b
    run_is a b e = cc

    by_run : (o : Option RunState) → run_at runs r ≡ o
        → Goes (Run r) (status_by status_of_run o) (own (Run r) moves) (status_by status_of_run (option_map f o))
    by_run None is =
        goes_by (Run r) Status.unarrived Status.unarrived (own (Run r) moves) [] (sym (nowhere is))
        (goes_not (Run r) Status.unarrived)
    by_run (Some x) is = there x is
run_tells r f runs moves same_jobs there nowhere only (Leg q) =
    let h = Leg q in
    goes_by h (status runs h) (status (with_run r f runs) h) (own h moves) [] (sym (only h (λ e. cc)))
    (goes_same h (status runs h) (status (with_run r f runs) h)
    (status_by_run (with_run r f runs) q ∙ still q ∙ sym (status_by_run runs q)))
  where
    same_legs : (q : LegSite) (o : Option RunState)
        → status_by (status_in_run q.job q.leg) (option_map f o) ≡ status_by (status_in_run q.job q.leg) o
    same_legs q None = refl
    same_legs q (Some x) = ap (λ (jobs : List JobState). status_by (status_in_job q.leg) (slice_get jobs q.job)) (same_jobs x)

    still : (q : LegSite)
        → status_by (status_in_run q.job q.leg) (run_at (with_run r f runs) q.run) ≡ status_by (status_in_run q.job q.leg)
        (run_at runs q.run)
    still q =
        elim (cases_eq q.run r) [
          | inl same ↦ subst
              (λ (k : ℕ). status_by (status_in_run q.job q.leg) (run_at (with_run r f runs) k) ≡ status_by (status_in_run q.job q.leg)
              (run_at runs k))
              (sym same) (ap (status_by (status_in_run q.job q.leg)) (at_changed r f runs) ∙ same_legs q (run_at runs r))
          | inr other ↦ ap (status_by (status_in_run q.job q.leg)) (at_another r f runs q.run other)
        ]
