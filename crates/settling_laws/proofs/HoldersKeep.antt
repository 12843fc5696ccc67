-- A stop of a run or of a leg keeps what settling keeps, and so does the room that an arrival makes.
use Rattle.std.specs.Prelude.{◌≡◌, ℕ, List, [], ◌∷◌, Bool, true, false, is_some, Option, Some, None, refl}
use Rattle.std.specs.Option.{option_map_or}
use Rattle.std.proofs.Common.{ap, sym, ◌∙◌, subst}
use Rattle.group_name.specs.Group.{Group}
use Rattle.table_model.specs.Settling.{arrived, displaced, others_pending, room_made, stopped_where_requested}
use Rattle.table_model.specs.Groups.{cancels_in_progress, group_at, in_progress_in}
use Rattle.table_model.specs.GroupLaw.{Transition, at_each, without_moves}
use Rattle.table_model.specs.Runs.{leg_at, run_at, with_leg, with_run, LegState, RunState, leg_has_ended, outcome_of}
use Rattle.table_model.specs.declared.sites.LegSite.{LegSite}
use Rattle.table_model.specs.Stops.{displace, stop_holder, stopped, stopped_phase, stopped_run}
use Rattle.table_model.specs.declared.phases.LegPhase.{LegPhase}
use Rattle.table_model.specs.declared.phases.LegPhase.TheVariants as leg
use Rattle.table_model.proofs.JobKeeps.{leg_in, leg_settles}
use Rattle.table_model.proofs.RunFits.{RunsFit, leases_fit}
use Rattle.table_model.proofs.Settles.{Settles, settles_nothing, settles_on}
use Rattle.table_model.proofs.StopKeeps.{lease_still_fits, same_work, stopped_run_settles}
use Rattle.table_model.proofs.Transitions.{changed_none, with_leg_none, with_leg_stays}
use Rattle.table_model.specs.declared.holder.Holder.{Holder}
use Rattle.table_model.specs.declared.holder.Holder.TheVariants.{Run, Leg}

-- ---- a run

pub no_run : (o : Option RunState) (x y : RunState) → o ≡ None → o ≡ Some x → y ≡ x
no_run o x y none some = cc

pub run_stop_settles : (runs : List RunState) (r : ℕ) → RunsFit runs → Settles runs (with_run r stopped_run runs)
run_stop_settles runs r fit =
    elim (run_at runs r) as (λ o. run_at runs r ≡ o → Settles runs (with_run r stopped_run runs)) [
      | None ↦ λ is. subst (Settles runs) (changed_none runs r stopped_run (λ x at. no_run (run_at runs r) x (stopped_run x) is at))
          (settles_nothing runs fit)
      | Some x ↦ λ is. stopped_run_settles runs fit r x is
    ] refl

-- ---- a leg

ended_stays : (phase : LegPhase) → is_some (outcome_of phase) ≡ true → stopped_phase phase ≡ phase
ended_stays leg.New e = cc
ended_stays leg.Waiting e = cc
ended_stays leg.Ready e = cc
ended_stays leg.Running e = cc
ended_stays leg.Stopping e = cc
ended_stays (leg.Ended r) e = refl

stopped_stays : (z x : LegState) → Some z ≡ Some x → leg_has_ended z ≡ true → stopped x ≡ x
stopped_stays z x same e =
    let is : z ≡ x = cc in
    let ended : leg_has_ended x ≡ true = ap leg_has_ended (sym is) ∙ e in
    ap (λ (phase : LegPhase). record x { phase = phase }) (ended_stays x.phase ended)

pub leg_stop_settles : (runs : List RunState) (p : LegSite) → RunsFit runs → Settles runs (with_leg p stopped runs)
leg_stop_settles runs p fit =
    elim (leg_at runs p) as (λ o. leg_at runs p ≡ o → Settles runs (with_leg p stopped runs)) [
      | None ↦ λ is. subst (Settles runs) (with_leg_none runs p stopped is) (settles_nothing runs fit)
      | Some z ↦ λ is. elim (leg_has_ended z) as (λ b. leg_has_ended z ≡ b → Settles runs (with_leg p stopped runs)) [
        | true ↦ λ e. subst (Settles runs) (with_leg_stays runs p stopped (λ x at. stopped_stays z x (sym is ∙ at) e))
            (settles_nothing runs fit)
        | false ↦ λ e.
            leg_settles runs fit p z stopped (leg_in runs p z is) e (lease_still_fits z.phase z.lease (leases_fit runs fit p z is)) refl
            (same_work z)
      ] refl
    ] refl

-- ---- one holder, and one after another

pub holder_stop_settles : (h : Holder) (runs : List RunState) → RunsFit runs → Settles runs (stop_holder h runs).runs
holder_stop_settles (Run r) runs fit = run_stop_settles runs r fit
holder_stop_settles (Leg p) runs fit = leg_stop_settles runs p fit

each_settles : (change : Holder → List RunState → Transition)
    → ((h : Holder) (runs : List RunState) → RunsFit runs → Settles runs (change h runs).runs) → (hs : List Holder) (runs : List RunState)
    → RunsFit runs → Settles runs (at_each change hs runs).runs
each_settles change one [] runs fit = settles_nothing runs fit
each_settles change one (h ∷ hs) runs fit =
    let first = one h runs fit in
    settles_on runs (change h runs).runs (at_each change hs (change h runs).runs).runs first
    (each_settles change one hs (change h runs).runs first.stay.fit)

-- ---- an arrival

pub displaced_settles : (g : Group) (newcomer : Holder) (runs : List RunState) → RunsFit runs
    → Settles runs (displaced g newcomer runs).runs
displaced_settles g newcomer runs fit = each_settles displace holder_stop_settles (others_pending g newcomer runs) runs fit

pub requested_settles : (cancels : Bool) (g : Group) (runs : List RunState) → RunsFit runs
    → Settles runs (stopped_where_requested cancels g runs).runs
requested_settles true g runs fit = each_settles stop_holder holder_stop_settles (in_progress_in runs g) runs fit
requested_settles false g runs fit = settles_nothing runs fit

pub room_settles : (cancels : Bool) (newcomer : Holder) (runs : List RunState) (g : Group) → RunsFit runs
    → Settles runs (room_made cancels newcomer runs g).runs
room_settles cancels newcomer runs g fit =
    let first = displaced_settles g newcomer runs fit in
    let mid = (displaced g newcomer runs).runs in
    settles_on runs mid (stopped_where_requested cancels g mid).runs first (requested_settles cancels g mid first.stay.fit)

pub arrival_settles : (newcomer : Holder) (runs : List RunState) → RunsFit runs → Settles runs (arrived newcomer runs).runs
arrival_settles newcomer runs fit =
    elim (group_at runs newcomer) as
    (λ o. Settles runs (option_map_or (room_made (cancels_in_progress runs newcomer) newcomer runs) o (without_moves runs)).runs) [
      | None ↦ settles_nothing runs fit
      | Some g ↦ room_settles (cancels_in_progress runs newcomer) newcomer runs g fit
    ]
