-- Runs and legs that are in a table: one that waits or holds is there, and none does both.
use Rattle.std.specs.Prelude.{◌≡◌, ◌<◌, ◌⊎◌, List, length, Bool, true, false, Option, None, Some, is_some, refl}
use Rattle.std.specs.Option.{option_map_or}
use Rattle.std.proofs.Common.{inl, inr}
use Rattle.std.proofs.lemmas.Option.{slice_get_within}
use Rattle.table_model.specs.Groups.{holds, leg_holds, leg_waits, run_waits, waits}
use Rattle.table_model.specs.Holders.{run_of}
use Rattle.table_model.specs.Runs.{leg_at, run_at, LegState, RunState, is_live, is_new}
use Rattle.table_model.specs.inner.Resuming.{is_new_at}
use Rattle.table_model.specs.declared.holder.Holder.{Holder}
use Rattle.table_model.specs.declared.holder.Holder.TheVariants.{Run, Leg}
use Rattle.table_model.specs.declared.phases.LegPhase.{LegPhase}
use Rattle.table_model.specs.declared.phases.LegPhase.TheVariants as leg
use Rattle.table_model.specs.declared.phases.RunPhase.{RunPhase}
use Rattle.table_model.specs.declared.phases.RunPhase.TheVariants as run
use Rattle.table_model.specs.declared.sites.LegSite.{LegSite}
use Rattle.table_model.proofs.JobKeeps.{leg_in}
use Rattle.table_model.proofs.Optional.{some_of}
use Rattle.settling_laws.proofs.ArrivalKeeps.{one_or_another}
use Rattle.settling_laws.proofs.OneEach.{IsOneOf}
use Rattle.table_runs.specs.inner.GroupsKept.{is_there}

-- a holder is the given one, or another
pub tells : (h one : Holder) → (h ≡ one) ⊎ (h ≡ one → ⊥)
tells h one = elim (one_or_another h one) [ inl is ↦ inl is | inr other ↦ inr other.0 ]

-- ---- a test of what is there

some_if : {X : Type 0} (test : X → Bool) (o : Option X) → option_map_or test o false ≡ true → is_some o ≡ true
some_if test None e = cc
some_if test (Some x) e = refl

pub there_if_waits : (runs : List RunState) (h : Holder) → waits runs h ≡ true → is_there runs h ≡ true
there_if_waits runs (Run r) e = some_if (λ (x : RunState). run_waits x.phase) (run_at runs r) e
there_if_waits runs (Leg p) e = some_if (λ (x : LegState). leg_waits x.phase) (leg_at runs p) e

pub there_if_holds : (runs : List RunState) (h : Holder) → holds runs h ≡ true → is_there runs h ≡ true
there_if_holds runs (Run r) e = some_if (λ (x : RunState). is_live x.phase) (run_at runs r) e
there_if_holds runs (Leg p) e = some_if (λ (x : LegState). leg_holds x.phase) (leg_at runs p) e

pub there_if_new : (runs : List RunState) (p : LegSite) → is_new_at runs p ≡ true → is_there runs (Leg p) ≡ true
there_if_new runs p e = some_if (λ (x : LegState). is_new x.phase) (leg_at runs p) e

-- its run is one of the runs
pub within_there : (runs : List RunState) (h : Holder) → is_there runs h ≡ true → run_of h < length runs
within_there runs (Run r) e = let at = some_of (run_at runs r) e in slice_get_within runs r at.0 at.1
within_there runs (Leg p) e =
    let at = some_of (leg_at runs p) e in
    let run = (leg_in runs p at.0 at.1).place in
    slice_get_within runs p.run run.run run.run_is

pub one_of : (runs : List RunState) (h : Holder) → is_there runs h ≡ true → IsOneOf runs h
one_of runs (Run r) e = some_of (run_at runs r) e
one_of runs (Leg p) e = some_of (leg_at runs p) e

-- ---- one that waits does not hold

run_apart : (phase : RunPhase) → run_waits phase ≡ true → is_live phase ≡ false
run_apart run.Waiting e = refl
run_apart run.Live e = cc
run_apart run.Ended e = refl

leg_apart : (phase : LegPhase) → leg_waits phase ≡ true → leg_holds phase ≡ false
leg_apart leg.New e = refl
leg_apart leg.Waiting e = refl
leg_apart leg.Ready e = cc
leg_apart leg.Running e = cc
leg_apart leg.Stopping e = cc
leg_apart (leg.Ended o) e = refl

by_run_phase : (o : Option RunState) → option_map_or (λ (x : RunState). run_waits x.phase) o false ≡ true
    → option_map_or (λ (x : RunState). is_live x.phase) o false ≡ false
by_run_phase None e = refl
by_run_phase (Some x) e = run_apart x.phase e

by_leg_phase : (o : Option LegState) → option_map_or (λ (x : LegState). leg_waits x.phase) o false ≡ true
    → option_map_or (λ (x : LegState). leg_holds x.phase) o false ≡ false
by_leg_phase None e = refl
by_leg_phase (Some x) e = leg_apart x.phase e

pub holds_not : (runs : List RunState) (h : Holder) → waits runs h ≡ true → holds runs h ≡ false
holds_not runs (Run r) e = by_run_phase (run_at runs r) e
holds_not runs (Leg p) e = by_leg_phase (leg_at runs p) e

pub leg_within_there : (runs : List RunState) (p : LegSite) (z : LegState) → leg_at runs p ≡ Some z → p.run < length runs
leg_within_there runs p z at = let run = (leg_in runs p z at).place in slice_get_within runs p.run run.run run.run_is
