-- The group of a run does not change, nor does the group of a leg once the needs of its job have finished.
use Rattle.std.specs.Prelude.{◌≡◌, ℕ, List, false, true, Option, Some, None, option_map, option_and_then, refl}
use Rattle.std.specs.Fmt.{decimal}
use Rattle.std.specs.Option.{option_map_or}
use Rattle.std.proofs.Common.{ap, sym, ◌∙◌}
use Rattle.std.proofs.lemmas.Option.{same_Some}
use Rattle.table_model.specs.Groups.{RunFacts, cancels_in_progress, group_at, leg_cancels, leg_group, run_cancels, run_facts_at, run_group}
use Rattle.table_model.specs.Holders.{run_of}
use Rattle.table_model.specs.LegContext.{facts_at, needs_have_finished}
use Rattle.table_model.specs.Runs.{leg_at, run_at, LegState, RunState}
use Rattle.table_model.specs.declared.sites.LegSite.{LegSite}
use Rattle.table_model.proofs.Identity.{Identity, identity_at, identity_in, identity_of}
use Rattle.table_model.proofs.JobKeeps.{leg_in, no_leg}
use Rattle.table_model.proofs.LegFacts.{attempt_at, facts_are, facts_stay, leg_facts_in}
use Rattle.table_model.proofs.RunFits.{RunsFit}
use Rattle.table_model.proofs.Settles.{StayFit}
use Rattle.table_model.specs.declared.holder.Holder.{Holder}
use Rattle.table_model.specs.declared.holder.Holder.TheVariants.{Run, Leg}

-- ---- the facts of a run

abbrev told : Identity → ℕ → RunFacts
told run attempt = record {
  event = run.admitted;
  run_id = decimal run.id;
  run_number = decimal run.number;
  run_attempt = decimal attempt;
}

run_facts_same : (o u : Option RunState) → identity_in u ≡ identity_in o
    → option_map (λ (run : RunState). run.attempt) u ≡ option_map (λ (run : RunState). run.attempt) o
    → option_map (λ run. told (identity_of run) run.attempt) u ≡ option_map (λ run. told (identity_of run) run.attempt) o
run_facts_same None None same attempt = refl
run_facts_same None (Some y) same attempt = cc
run_facts_same (Some x) None same attempt = cc
run_facts_same (Some x) (Some y) same attempt =
    ap (λ i. Some (told i y.attempt)) (same_Some (identity_of y) (identity_of x) same)
    ∙ ap (λ n. Some (told (identity_of x) n)) (same_Some y.attempt x.attempt attempt)

pub run_facts_stay : (runs next : List RunState) (r : ℕ) → identity_at next r ≡ identity_at runs r
    → attempt_at next r ≡ attempt_at runs r → run_facts_at next r ≡ run_facts_at runs r
unfolding run_facts_at
run_facts_stay runs next r same attempt = run_facts_same (run_at runs r) (run_at next r) same attempt

pub run_group_stays : (runs next : List RunState) (r : ℕ) → identity_at next r ≡ identity_at runs r
    → attempt_at next r ≡ attempt_at runs r → group_at next (Run r) ≡ group_at runs (Run r)
unfolding group_at
run_group_stays runs next r same attempt = ap (option_and_then run_group) (run_facts_stay runs next r same attempt)

-- ---- a leg

-- if a leg exists, the needs of its job have finished
pub leg_needs_finished : (runs : List RunState) → RunsFit runs → (p : LegSite) (z : LegState) → leg_at runs p ≡ Some z
    → needs_have_finished runs p.run p.job ≡ true
leg_needs_finished runs fit p z was =
    let at = leg_in runs p z was in
    (fit p.run at.place.run at.place.run_is).needs_first p.job at.job at.place.job_is (λ none. no_leg at.job.legs p.leg z none at.leg_is)

pub leg_group_same : (runs next : List RunState) (p : LegSite) → facts_at next p ≡ facts_at runs p
    → group_at next (Leg p) ≡ group_at runs (Leg p)
unfolding group_at
leg_group_same runs next p same = ap (option_and_then leg_group) same

leg_facts_stay : (runs next : List RunState) → RunsFit runs → StayFit runs next → (p : LegSite) (z : LegState)
    → leg_at runs p ≡ Some z → facts_at next p ≡ facts_at runs p
leg_facts_stay runs next fit stay p z was =
    facts_stay runs next p (stay.same_identity p.run) (stay.same_attempt p.run) (leg_needs_finished runs fit p z was) (stay.keeps_results p.run)

pub leg_group_stays : (runs next : List RunState) → RunsFit runs → StayFit runs next → (p : LegSite) (z : LegState)
    → leg_at runs p ≡ Some z → group_at next (Leg p) ≡ group_at runs (Leg p)
leg_group_stays runs next fit stay p z was = leg_group_same runs next p (leg_facts_stay runs next fit stay p z was)

-- whether its arrival cancels what is in progress
pub leg_cancels_stays : (runs next : List RunState) → RunsFit runs → StayFit runs next → (p : LegSite) (z : LegState)
    → leg_at runs p ≡ Some z → cancels_in_progress next (Leg p) ≡ cancels_in_progress runs (Leg p)
unfolding cancels_in_progress
leg_cancels_stays runs next fit stay p z was = ap (λ o. option_map_or leg_cancels o false) (leg_facts_stay runs next fit stay p z was)

-- ---- the facts of an unchanged run and of its legs

facts_of_same_run : (runs next : List RunState) (p : LegSite) → run_at next p.run ≡ run_at runs p.run → facts_at next p ≡ facts_at runs p
facts_of_same_run runs next p at = facts_are next p ∙ ap (option_and_then (leg_facts_in p)) at ∙ sym (facts_are runs p)

pub same_run_facts : (runs next : List RunState) (r : ℕ) → run_at next r ≡ run_at runs r → run_facts_at next r ≡ run_facts_at runs r
same_run_facts runs next r at = run_facts_stay runs next r (ap identity_in at) (ap (option_map (λ (run : RunState). run.attempt)) at)

-- ---- a run or a leg

-- the group of a holder whose run is unchanged
pub same_group : (runs next : List RunState) (h : Holder) → run_at next (run_of h) ≡ run_at runs (run_of h)
    → group_at next h ≡ group_at runs h
unfolding group_at
same_group runs next (Run r) at = ap (option_and_then run_group) (same_run_facts runs next r at)
same_group runs next (Leg p) at = ap (option_and_then leg_group) (facts_of_same_run runs next p at)

-- and whether its arrival cancels what is in progress
pub same_flag : (runs next : List RunState) (h : Holder) → run_at next (run_of h) ≡ run_at runs (run_of h)
    → cancels_in_progress next h ≡ cancels_in_progress runs h
unfolding cancels_in_progress
same_flag runs next (Run r) at = ap (λ o. option_map_or run_cancels o false) (same_run_facts runs next r at)
same_flag runs next (Leg p) at = ap (λ o. option_map_or leg_cancels o false) (facts_of_same_run runs next p at)

-- the leg exists, if the holder is one
abbrev pub IsThere : List RunState → Holder → Type 0
IsThere runs (Run r) = Unit {0}
IsThere runs (Leg p) = (z : LegState) × (leg_at runs p ≡ Some z)

pub group_stays : (runs next : List RunState) → RunsFit runs → StayFit runs next → (h : Holder) → IsThere runs h
    → group_at next h ≡ group_at runs h
group_stays runs next fit stay (Run r) there = run_group_stays runs next r (stay.same_identity r) (stay.same_attempt r)
group_stays runs next fit stay (Leg p) there = leg_group_stays runs next fit stay p there.0 there.1
