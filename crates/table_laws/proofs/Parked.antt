-- An ended run at its next attempt, before it arrives again: as before, it neither waits nor runs, and it has no leg.
use Rattle.std.specs.Prelude.{◌≡◌, ◌⊎◌, ℕ, List, [], ◌∷◌, nat_eq, not, Bool, true, false, is_some, Option, Some, None, option_map, option_and_then}
use Rattle.std.specs.Prelude.{slice_get, refl}
use Rattle.std.specs.Option.{option_map_or}
use Rattle.std.proofs.Common.{ap, inl, inr, sym, ◌∙◌, subst}
use Rattle.std.proofs.lemmas.Bool.{cases_eq, eq-eqb, false≢true, ne_eqb}
use Rattle.std.proofs.lemmas.Option.{same_Some}
use Rattle.table_model.specs.Groups.{holds, leg_holds, leg_waits, run_waits, waits}
use Rattle.table_model.specs.Holders.{run_of}
use Rattle.table_model.specs.GroupLaw.{Move}
use Rattle.table_model.specs.Runs.{again, leg_at, run_at, with_run, LegState, JobState, RunState, is_live, outcome_of}
use Rattle.table_model.specs.declared.sites.LegSite.{LegSite}
use Rattle.table_model.specs.declared.phases.LegPhase.{LegPhase}
use Rattle.table_model.specs.declared.phases.LegPhase.TheVariants as leg
use Rattle.table_model.specs.declared.phases.RunPhase.TheVariants as run
use Rattle.table_model.proofs.Changed.{at_another, at_changed}
use Rattle.table_model.proofs.JobKeeps.{leg_in, no_leg}
use Rattle.table_model.proofs.RunFits.{RunsFit}
use Rattle.settling_laws.proofs.OneEach.{Comes, IsOneOf}
use Rattle.run_table.proofs.BeginsAgain.{legs_ended}
use Rattle.run_table.proofs.EnteredAgain.{again_held, again_waited, again_waits}
use Rattle.table_laws.proofs.ChangesTold.{only_one}
use Rattle.table_laws.proofs.HolderStatus.{Goes, Status, holds_as, is_held, is_waiting, status, status_by, status_by_run, status_in_run}
use Rattle.table_laws.proofs.HolderStatus.{status_of_run, waits_as}
use Rattle.table_laws.proofs.StepsLaw.{no_leg_yet}
use Rattle.table_laws.proofs.OwnMoves.{own}
use Rattle.table_laws.proofs.StopsTold.{goes_by, goes_same}
use Rattle.table_laws.proofs.Unbegun.{AllStill, Unbegun, RunUnbegun, LegUnbegun, There, waiting_unbegun}
use Rattle.table_model.specs.declared.holder.Holder.{Holder}
use Rattle.table_model.specs.declared.holder.Holder.TheVariants.{Run, Leg}

-- ---- holders of a run, and others

abbrev pub is_elsewhere : ℕ → Holder → Bool
is_elsewhere r h = not (nat_eq (run_of h) r)

pub here_or_elsewhere : (r : ℕ) (h : Holder)
    → ((run_of h ≡ r) × (is_elsewhere r h ≡ false)) ⊎ ((run_of h ≡ r → ⊥) × (is_elsewhere r h ≡ true))
here_or_elsewhere r h =
    elim (cases_eq (run_of h) r) [
      | inl same ↦ inl (same, ap not (eq-eqb (run_of h) r same))
      | inr other ↦ inr (other, ap not (ne_eqb (run_of h) r other))
    ]

pub is_here : (r : ℕ) (h : Holder) → is_elsewhere r h ≡ false → run_of h ≡ r
is_here r h gone =
    elim (here_or_elsewhere r h) [
      | inl here ↦ here.0
      | inr there ↦ absurd (false≢true (sym gone ∙ there.1))
    ]

pub is_another : (r : ℕ) (h : Holder) → is_elsewhere r h ≡ true → run_of h ≡ r → ⊥
is_another r h kept same =
    elim (here_or_elsewhere r h) [
      | inl here ↦ false≢true (sym here.1 ∙ kept)
      | inr there ↦ there.0 same
    ]

-- ---- a change of one run keeps the holders of other runs

module _ (runs : List RunState) (r : ℕ) (f : RunState → RunState) where
  pub leg_elsewhere : (p : LegSite) → (p.run ≡ r → ⊥) → leg_at (with_run r f runs) p ≡ leg_at runs p
  leg_elsewhere p other =
      ap (λ o. option_and_then (λ (y : JobState). slice_get y.legs p.leg) (option_and_then (λ (x : RunState). slice_get x.jobs p.job) o))
      (at_another r f runs p.run other)

  pub status_elsewhere : (h : Holder) → (run_of h ≡ r → ⊥) → status (with_run r f runs) h ≡ status runs h
  status_elsewhere (Run k) other = ap (status_by status_of_run) (at_another r f runs k other)
  status_elsewhere (Leg p) other =
      status_by_run (with_run r f runs) p ∙ ap (status_by (status_in_run p.job p.leg)) (at_another r f runs p.run other)
      ∙ sym (status_by_run runs p)

  pub one_elsewhere : (h : Holder) → (run_of h ≡ r → ⊥) → IsOneOf runs h → IsOneOf (with_run r f runs) h
  one_elsewhere (Run k) other there = (there.0, at_another r f runs k other ∙ there.1)
  one_elsewhere (Leg p) other there = (there.0, leg_elsewhere p other ∙ there.1)

  pub unbegun_elsewhere : (h : Holder) → (run_of h ≡ r → ⊥) → Unbegun runs h → Unbegun (with_run r f runs) h
  unbegun_elsewhere (Run k) other un = subst (There RunUnbegun) (sym (at_another r f runs k other)) un
  unbegun_elsewhere (Leg p) other un = subst (There LegUnbegun) (sym (leg_elsewhere p other)) un

  pub was_unbegun_elsewhere : (h : Holder) → (run_of h ≡ r → ⊥) → Unbegun (with_run r f runs) h → Unbegun runs h
  was_unbegun_elsewhere (Run k) other un = subst (There RunUnbegun) (at_another r f runs k other) un
  was_unbegun_elsewhere (Leg p) other un = subst (There LegUnbegun) (leg_elsewhere p other) un

-- ---- a leg that has ended

ended_leg : (phase : LegPhase) → is_some (outcome_of phase) ≡ true → (leg_holds phase ≡ false) × (leg_waits phase ≡ false)
ended_leg leg.New e = cc
ended_leg leg.Waiting e = cc
ended_leg leg.Ready e = cc
ended_leg leg.Running e = cc
ended_leg leg.Stopping e = cc
ended_leg (leg.Ended r) e = (refl, refl)

-- ---- the run

-- the run at its next attempt, before it has arrived
abbrev pub parked_run : RunState → RunState
parked_run x = record (again x) { phase = run.Ended }

module _ (runs : List RunState) (r : ℕ) (x : RunState) (there : run_at runs r ≡ Some x) (fit : RunsFit runs) (ended : x.phase ≡ run.Ended) where
  abbrev n : Holder
  n = Run r

  abbrev parked : List RunState
  parked = with_run r parked_run runs

  abbrev now : List RunState
  now = with_run r again runs

  -- before, none of its holders holds or waits
  pub idle_before : (h : Holder) → run_of h ≡ r → (holds runs h ≡ false) × (waits runs h ≡ false)
  idle_before (Run k) same =
      let at : run_at runs k ≡ Some x = ap (run_at runs) same ∙ there in (
        ap (λ o. option_map_or (λ (v : RunState). is_live v.phase) o false) at ∙ ap is_live ended,
        ap (λ o. option_map_or (λ (v : RunState). run_waits v.phase) o false) at ∙ ap run_waits ended,
      )
  idle_before (Leg p) same = by_leg (leg_at runs p) refl
    where
      by_leg : (o : Option LegState) → leg_at runs p ≡ o
          → (option_map_or (λ (v : LegState). leg_holds v.phase) o false ≡ false)
          × (option_map_or (λ (v : LegState). leg_waits v.phase) o false ≡ false)
      by_leg None is = (refl, refl)
      by_leg (Some z) is =
          let place = leg_in runs p z is in
          let its : place.place.run ≡ x = same_Some place.place.run x (sym place.place.run_is ∙ ap (run_at runs) same ∙ there) in
          let job_is = ap (λ (v : RunState). slice_get v.jobs p.job) (sym its) ∙ place.place.job_is in
          ended_leg z.phase (legs_ended runs r x (fit r x there) ended p.job place.job p.leg z job_is place.leg_is)

  -- ---- while it is parked, and then while it waits

  leg_unseen : (f : RunState → RunState) → ((j l : ℕ) → status_in_run j l (f x) ≡ Status.unarrived) → (p : LegSite) → p.run ≡ r
      → status (with_run r f runs) (Leg p) ≡ Status.unarrived
  leg_unseen f none p same =
      status_by_run (with_run r f runs) p
      ∙ ap (status_by (status_in_run p.job p.leg))
      (ap (run_at (with_run r f runs)) same ∙ at_changed r f runs ∙ ap (option_map f) there)
      ∙ none p.job p.leg

  parked_leg : (p : LegSite) → p.run ≡ r → status parked (Leg p) ≡ Status.unarrived
  parked_leg p same = leg_unseen parked_run (λ j l. no_leg_yet j l x.admitted) p same

  pub parked_is_over : (h : Holder) → run_of h ≡ r → (status parked h ≡ Status.over) ⊎ (status parked h ≡ Status.unarrived)
  parked_is_over (Run k) same =
      inl (ap (status_by status_of_run) (ap (run_at parked) same ∙ at_changed r parked_run runs ∙ ap (option_map parked_run) there))
  parked_is_over (Leg p) same = inr (parked_leg p same)

  status_stays : (h : Holder) → (h ≡ n → ⊥) → status now h ≡ status parked h
  status_stays h another =
      elim (here_or_elsewhere r h) [
        | inl here ↦ of_it h another here.0
        | inr there ↦ status_elsewhere runs r again h there.0 ∙ sym (status_elsewhere runs r parked_run h there.0)
      ]
    where
      of_it : (h : Holder) → (h ≡ n → ⊥) → run_of h ≡ r → status now h ≡ status parked h
      of_it (Run k) another same = absurd (another (ap Run same))
      of_it (Leg p) another same = leg_unseen again (λ j l. no_leg_yet j l x.admitted) p same ∙ sym (parked_leg p same)

  pub arrives_alone : (h : Holder) → (h ≡ n → ⊥) → Goes h (status parked h) (own h (Move.arrive n ∷ [])) (status now h)
  arrives_alone h another =
      let arrives : List Move = Move.arrive n ∷ [] in
      goes_by h (status parked h) (status now h) (own h arrives) [] (sym (only_one n (Move.arrive n) refl h another))
      (goes_same h (status parked h) (status now h) (status_stays h another))

  -- ---- which holders wait and which hold

  pub again_comes : Comes parked now n
  again_comes = record {
    waited = (λ h e.
        elim (again_waited runs r h e) [
          | inl it ↦ inl it
          | inr before ↦ inr (waits_as parked h ∙ ap is_waiting (status_elsewhere runs r parked_run h before.0) ∙ sym (waits_as runs h)
              ∙ before.1)
        ]);
    held = (λ h e.
        let before = again_held runs r h e in
        holds_as parked h ∙ ap is_held (status_elsewhere runs r parked_run h before.0) ∙ sym (holds_as runs h) ∙ before.1);
  }

  -- ---- holders that have not begun

  pub again_still : RunsFit now → AllStill parked now
  again_still fit_now h un =
      elim (here_or_elsewhere r h) [
        | inl here ↦ of_it h here.0
        | inr there ↦ unbegun_elsewhere runs r again h there.0 (was_unbegun_elsewhere runs r parked_run h there.0 un)
      ]
    where
      its : Unbegun now n
      its = waiting_unbegun now fit_now n (again_waits runs r x there)

      of_it : (h : Holder) → run_of h ≡ r → Unbegun now h
      of_it (Run k) same = subst (λ (m : ℕ). Unbegun now (Run m)) (sym same) its
      of_it (Leg p) same = λ z at.
          let place = leg_in now p z at in
          let no_legs = (its place.place.run (sym (ap (run_at now) same) ∙ place.place.run_is)).no_legs p.job place.job place.place.job_is in
          absurd (no_leg place.job.legs p.leg z no_legs place.leg_is)
