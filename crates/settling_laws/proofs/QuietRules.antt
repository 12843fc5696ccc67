-- A rule that releases no holder changes only its own job or run, and every holder that was held back still is.
use Rattle.std.specs.Prelude.{◌≡◌, ℕ, List, [], ◌&&◌, Bool, true, false, is_some, Option, Some, None, slice_get, refl}
use Rattle.std.specs.Option.{option_map_or}
use Rattle.std.proofs.Common.{ap, sym, ◌∙◌, subst, inl, inr}
use Rattle.std.proofs.lemmas.Bool.{cases_eq}
use Rattle.wf_value.specs.declared.outcome.Outcome.TheVariants as outcome
use Rattle.group_name.specs.Group.{Group}
use Rattle.table_model.specs.Settling.{arrived, decided, result_at, rule_at, with_leg_in, first_site}
use Rattle.table_model.specs.Groups.{group_at, holds, leg_holds}
use Rattle.table_model.specs.inner.Resuming.{is_new_at, makes_room, may_invalidate_others}
use Rattle.table_model.specs.GroupLaw.{Transition}
use Rattle.table_model.specs.Runs.{job_at, leg_at, with_job, with_run, LegState, JobState, RunState}
use Rattle.table_model.specs.declared.sites.LegSite.{LegSite}
use Rattle.table_model.specs.Runs.{is_blocked, is_live, is_new, leg_in_phase, run_in_phase, finished_as}
use Rattle.table_model.specs.LegContext.{planned_legs}
use Rattle.table_model.specs.declared.phases.LegPhase.{LegPhase}
use Rattle.table_model.specs.declared.phases.LegPhase.TheVariants as leg
use Rattle.table_model.specs.declared.phases.RunPhase.TheVariants as run
use Rattle.table_model.specs.declared.sites.RuleSite.{RuleSite}
use Rattle.table_model.specs.declared.sites.RuleSite.TheVariants.{Opening, AtLeg, Closing, Whole}
use Rattle.table_model.proofs.Changed.{at_another}
use Rattle.table_model.proofs.JobKeeps.{job_in, with_leg_of}
use Rattle.table_model.proofs.JobPhases.{is_blocked_blocked, no_legs}
use Rattle.table_model.proofs.RunFits.{RunsFit}
use Rattle.settling_laws.proofs.EachRule.{EachRule, by_rule}
use Rattle.settling_laws.proofs.GroupStays.{leg_cancels_stays, leg_group_stays}
use Rattle.settling_laws.proofs.HoldersFade.{leg_passes, passes}
use Rattle.settling_laws.proofs.KeptBack.{KeepsBack, StillHold, job_still_holds, kept_back, leg_still_holds, legs_still_hold, passed_on}
use Rattle.settling_laws.proofs.LivePlaces.{first_place_is_live}
use Rattle.settling_laws.proofs.NoRoomMade.{no_room_made}
use Rattle.settling_laws.proofs.OneEach.{groups_stay}
use Rattle.settling_laws.proofs.OneEachRules.{newcomer_comes}
use Rattle.settling_laws.proofs.RuleKeeps.{newcomer_waits, rule_settles}
use Rattle.table_model.specs.declared.holder.Holder.{Holder}
use Rattle.table_model.specs.declared.holder.Holder.TheVariants.{Run, Leg}

-- the site is in job `j` of run `r`
abbrev pub IsAt : ℕ → ℕ → RuleSite → Type 0
IsAt r j (Opening s k) = (s ≡ r) × (k ≡ j)
IsAt r j (AtLeg p) = (p.run ≡ r) × (p.job ≡ j)
IsAt r j (Closing s k) = (s ≡ r) × (k ≡ j)
IsAt r j (Whole s) = ⊥

-- ---- a leg arrives without affecting others

no_room : (new makes : Bool) → new ≡ true → (new && makes) ≡ false → makes ≡ false
no_room true makes e quiet = quiet
no_room false makes e quiet = cc

-- a leg whose arrival affects no other holder leaves all others as they are
arrives_alone : (runs : List RunState) (p : LegSite) (z : LegState) → RunsFit runs → leg_at runs p ≡ Some z → z.phase ≡ leg.New
    → may_invalidate_others runs (AtLeg p) ≡ false → with_leg_in leg.Waiting p runs ≡ (arrived (Leg p) (with_leg_in leg.Waiting p runs)).runs
arrives_alone runs p z fit was is quiet =
    let next = with_leg_in leg.Waiting p runs in
    let new : is_new_at runs p ≡ true = ap (λ o. option_map_or (λ (l : LegState). is_new l.phase) o false) was ∙ ap is_new is in
    let none = no_room (is_new_at runs p) (makes_room runs (Leg p)) new quiet in
    let stay = (newcomer_waits runs p z fit was is).stay in
    sym (no_room_made runs next (Leg p) (groups_stay runs next fit stay) (newcomer_comes runs p z was)
    (leg_group_stays runs next fit stay p z was) (leg_cancels_stays runs next fit stay p z was) none)

-- ---- a rule at a job changes only that job, and a rule of a run itself only that run

pub record ChangesJob (runs next : List RunState) (r j : ℕ) : Type 0 where
  pub change : JobState → JobState
  pub is : with_job r j change runs ≡ next

pub record ChangesRun (runs next : List RunState) (r : ℕ) : Type 0 where
  pub change : RunState → RunState
  pub is : with_run r change runs ≡ next

abbrev ChangesThere : List RunState → List RunState → RuleSite → Type 0
ChangesThere runs next (Opening r j) = ChangesJob runs next r j
ChangesThere runs next (AtLeg p) = ChangesJob runs next p.run p.job
ChangesThere runs next (Closing r j) = ChangesJob runs next r j
ChangesThere runs next (Whole r) = ChangesRun runs next r

each_changes : (runs : List RunState) → RunsFit runs → EachRule runs (λ site m. may_invalidate_others runs site ≡ false → ChangesThere runs m.runs site)
each_changes runs fit = record {
  job_opens = (λ r j y was blocked settled quiet. record { change = decided runs r j; is = refl });
  leg_is_cancelled = (λ p z was is quiet.
      record { change = with_leg_of p.leg (leg_in_phase (leg.Ended outcome.Cancelled)); is = refl });
  leg_arrives = (λ p z was is quiet.
      record { change = with_leg_of p.leg (leg_in_phase leg.Waiting); is = arrives_alone runs p z fit was is quiet });
  leg_starts = (λ p z was is may quiet. record { change = with_leg_of p.leg (leg_in_phase leg.Ready); is = refl });
  job_settles = (λ r j y was done quiet. record { change = finished_as (result_at runs r j y); is = refl });
  run_starts = (λ r x was is may quiet. record { change = run_in_phase run.Live; is = refl });
  run_ends = (λ r x was is all quiet. record { change = run_in_phase run.Ended; is = refl });
}

changes_there : (runs : List RunState) (m : Transition) (p : RuleSite) → RunsFit runs → may_invalidate_others runs p ≡ false → rule_at runs p ≡ Some m
    → ChangesThere runs m.runs p
changes_there runs m p fit quiet is =
    by_rule runs (λ at made. may_invalidate_others runs at ≡ false → ChangesThere runs made.runs at) (each_changes runs fit) m p is quiet

at_this_job : (runs next : List RunState) (s k r j : ℕ) → s ≡ r → k ≡ j → ChangesJob runs next s k → ChangesJob runs next r j
at_this_job runs next s k r j same_run same_job changes =
    subst (λ b. ChangesJob runs next r b) same_job (subst (λ a. ChangesJob runs next a k) same_run changes)

in_this_job : (runs next : List RunState) (p : RuleSite) (r j : ℕ) → IsAt r j p → ChangesThere runs next p → ChangesJob runs next r j
in_this_job runs next (Opening s k) r j at changes = at_this_job runs next s k r j at.0 at.1 changes
in_this_job runs next (AtLeg p) r j at changes = at_this_job runs next p.run p.job r j at.0 at.1 changes
in_this_job runs next (Closing s k) r j at changes = at_this_job runs next s k r j at.0 at.1 changes
in_this_job runs next (Whole s) r j at changes = absurd at

pub quiet_at_job : (runs : List RunState) (m : Transition) (p : RuleSite) (r j : ℕ) → RunsFit runs → IsAt r j p → may_invalidate_others runs p ≡ false
    → rule_at runs p ≡ Some m → ChangesJob runs m.runs r j
quiet_at_job runs m p r j fit at quiet is = in_this_job runs m.runs p r j at (changes_there runs m p fit quiet is)

pub quiet_in_run : (runs : List RunState) (m : Transition) (p : RuleSite) (r : ℕ) → RunsFit runs → p ≡ Whole r → may_invalidate_others runs p ≡ false
    → rule_at runs p ≡ Some m → ChangesRun runs m.runs r
quiet_in_run runs m p r fit whole quiet is = subst (ChangesThere runs m.runs) whole (changes_there runs m p fit quiet is)

-- ---- no holder releases its group

no_leg_holds : (legs : List LegState) (l : ℕ) → legs ≡ [] → passes (leg_passes leg_holds) (slice_get legs l) ≡ true → ⊥
no_leg_holds legs l none e =
    let past : false ≡ true = sym (ap (λ (xs : List LegState). passes (leg_passes leg_holds) (slice_get xs l)) none) ∙ e in cc

opening_holds : (runs : List RunState) (r j : ℕ) (y : JobState) (change : JobState → JobState) → RunsFit runs → job_at runs r j ≡ Some y
    → is_blocked y.phase ≡ true → (h : Holder) → holds runs h ≡ true → holds (with_job r j change runs) h ≡ true
opening_holds runs r j y change fit was blocked =
    let at = job_in runs r j y was in
    let fits = (fit r at.run at.run_is).jobs_fit j y at.job_is in
    let none = no_legs (planned_legs runs r j) (result_at runs r j y) y.phase y.legs fits.legs_fit (is_blocked_blocked y.phase blocked) in
    job_still_holds runs r j change
    (λ v v_was l e. absurd (no_leg_holds v.legs l
    (ap (λ (w : JobState). w.legs) (let two : Some v ≡ Some y = sym v_was ∙ was in let one : v ≡ y = cc in one) ∙ none) e))

live_still_holds : (runs : List RunState) (r : ℕ) (h : Holder) → holds runs h ≡ true
    → holds (with_run r (run_in_phase run.Live) runs) h ≡ true
live_still_holds runs r (Run s) e =
    passed_on (λ (x : RunState). is_live x.phase) (run_in_phase run.Live) r runs (λ x at now. refl) s e
live_still_holds runs r (Leg p) e = legs_still_hold (run_in_phase run.Live) r runs p (λ x at now. now) e

no_group : (live : Bool) (o : Option Group) → live ≡ true → (live && is_some o) ≡ false → o ≡ None
no_group true None e f = refl
no_group true (Some g) e f = cc
no_group false o e f = cc

not_both : (o : Option Group) (g : Group) → o ≡ None → o ≡ Some g → ⊥
not_both o g e f = let bad : None ≡ Some g = sym e ∙ f in cc

ended_still_holds : (runs : List RunState) (r : ℕ) → group_at runs (Run r) ≡ None
    → StillHold runs (with_run r (run_in_phase run.Ended) runs)
ended_still_holds runs r none (Run s) g of e =
    elim (cases_eq s r) [
      | inl same ↦
          absurd (not_both (group_at runs (Run r)) g none (ap (λ (v : ℕ). group_at runs (Run v)) (sym same) ∙ of))
      | inr other ↦ ap (passes (λ (x : RunState). is_live x.phase)) (at_another r (run_in_phase run.Ended) runs s other) ∙ e
    ]
ended_still_holds runs r none (Leg p) g of e = legs_still_hold (run_in_phase run.Ended) r runs p (λ x at now. now) e

-- a leg that does not hold its group advances
leg_goes_still : (runs : List RunState) (p : LegSite) (z : LegState) (to : LegPhase) → leg_at runs p ≡ Some z → leg_holds z.phase ≡ false
    → StillHold runs (with_leg_in to p runs)
leg_goes_still runs p z to was held_not h g of e = leg_still_holds runs p z (leg_in_phase to) was held_not h e

each_still_holds : (runs : List RunState) → RunsFit runs → EachRule runs (λ site m. may_invalidate_others runs site ≡ false → StillHold runs m.runs)
each_still_holds runs fit = record {
  job_opens = (λ r j y was blocked settled quiet h g of e. opening_holds runs r j y (decided runs r j) fit was blocked h e);
  leg_is_cancelled = (λ p z was is quiet. leg_goes_still runs p z (leg.Ended outcome.Cancelled) was (ap leg_holds is));
  leg_arrives = (λ p z was is quiet.
      subst (λ (xs : List RunState). StillHold runs xs) (arrives_alone runs p z fit was is quiet)
      (leg_goes_still runs p z leg.Waiting was (ap leg_holds is)));
  leg_starts = (λ p z was is may quiet. leg_goes_still runs p z leg.Ready was (ap leg_holds is));
  job_settles = (λ r j y was done quiet h g of e.
      job_still_holds runs r j (finished_as (result_at runs r j y)) (λ v at l now. now) h e);
  run_starts = (λ r x was is may quiet h g of e. live_still_holds runs r h e);
  run_ends = (λ r x was is all quiet.
      let live : holds runs (Run r) ≡ true = ap (passes (λ (v : RunState). is_live v.phase)) was ∙ ap is_live is in
      ended_still_holds runs r (no_group (holds runs (Run r)) (group_at runs (Run r)) live quiet));
}

pub quiet_keeps_back : (runs : List RunState) (m : Transition) (p : RuleSite) → RunsFit runs → first_site runs ≡ Some p → rule_at runs p ≡ Some m
    → may_invalidate_others runs p ≡ false → KeepsBack runs m.runs
quiet_keeps_back runs m p fit first is quiet =
    kept_back runs m.runs (groups_stay runs m.runs fit (rule_settles runs m p fit (first_place_is_live runs p first) is).stay)
    (by_rule runs (λ at made. may_invalidate_others runs at ≡ false → StillHold runs made.runs) (each_still_holds runs fit) m p is quiet)
