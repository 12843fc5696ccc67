-- Each settling rule, and so settling, preserves that a group has at most one holder pending and at most one in progress.
use Rattle.std.specs.Prelude.{◌≡◌, ◌⊎◌, ℕ, zero, suc, List, replicate, Bool, true, false, Some, slice_get}
use Rattle.std.specs.Prelude.{if◌then◌else◌, refl}
use Rattle.std.proofs.Common.{ap, inl, inr, sym, ◌∙◌}
use Rattle.std.proofs.lemmas.Bool.{cases_eq, false≢true}
use Rattle.wf_value.specs.declared.outcome.JobResult.TheVariants as result
use Rattle.wf_value.specs.declared.outcome.Outcome.TheVariants as outcome
use Rattle.table_model.specs.Settling.{arrived, decided, may_run, result_at, rule_at, with_leg_in, first_rule, settled}
use Rattle.table_model.specs.Groups.{HasOneEach, holds, leg_holds, leg_waits, may_start, run_waits, waits}
use Rattle.table_model.specs.GroupLaw.{Transition}
use Rattle.table_model.specs.Runs.{leg_at, run_at, with_job, with_leg, with_run, LegState, RunState, finished_as}
use Rattle.table_model.specs.declared.sites.LegSite.{LegSite}
use Rattle.table_model.specs.Runs.{is_live, leg_in_phase, new_leg, opened, run_in_phase}
use Rattle.table_model.specs.LegContext.{is_stopping, planned_legs}
use Rattle.table_model.specs.declared.phases.LegPhase.{LegPhase}
use Rattle.table_model.specs.declared.phases.LegPhase.TheVariants as leg
use Rattle.table_model.specs.declared.phases.RunPhase.TheVariants as run
use Rattle.table_model.specs.declared.sites.RuleSite.{RuleSite}
use Rattle.table_model.proofs.Changed.{at_another}
use Rattle.table_model.proofs.JobKeeps.{leg_elsewhere, leg_in, leg_now}
use Rattle.table_model.proofs.LeaseReads.{place_or_another}
use Rattle.table_model.proofs.RunFits.{RunsFit, leases_fit}
use Rattle.table_model.proofs.Settles.{Settles}
use Rattle.settling_laws.proofs.ArrivalKeeps.{arrival_one_each}
use Rattle.settling_laws.proofs.EachRule.{EachRule, by_rule}
use Rattle.settling_laws.proofs.HoldersFade.{JobFades, holds_before_leg, job_fades, job_passes, leg_before, leg_fades, leg_passes}
use Rattle.settling_laws.proofs.HoldersFade.{passed_changed, passes, run_fades, run_held_still, run_waited_still, waits_before_leg}
use Rattle.settling_laws.proofs.LivePlaces.{LivePlace}
use Rattle.settling_laws.proofs.OneEach.{Comes, Fades, Starts, fading_keeps, groups_stay, newcomer_besides, start_keeps}
use Rattle.settling_laws.proofs.RuleKeeps.{each_settles, leg_goes, new_ends, newcomer_waits, phase_settles, waiting_starts}
use Rattle.settling_laws.proofs.SettlingKeeps.{first_rule_keeps, settling_keeps}
use Rattle.table_model.specs.declared.holder.Holder.{Holder}
use Rattle.table_model.specs.declared.holder.Holder.TheVariants.{Run, Leg}

-- ---- a job opens or finishes

pub replicate_fails : (test : LegPhase → Bool) → test leg.New ≡ false → (n l : ℕ)
    → passes (leg_passes test) (slice_get (replicate n new_leg) l) ≡ false
replicate_fails test fails zero l = refl
replicate_fails test fails (suc n) zero = fails
replicate_fails test fails (suc n) (suc l) = replicate_fails test fails n l

never : (b c : Bool) → b ≡ false → b ≡ true → c ≡ true
never b c fails e = let both : false ≡ true = sym fails ∙ e in cc

pub made_fades : (may stopping : Bool) (planned : ℕ)
    → JobFades (if may then opened planned else finished_as (if stopping then result.Cancelled else result.Skipped))
made_fades true stopping planned = record {
  waited = (λ l y e. never (passes (leg_passes leg_waits) (slice_get (replicate planned new_leg) l)) (job_passes leg_waits l y)
      (replicate_fails leg_waits refl planned l) e);
  held = (λ l y e. never (passes (leg_passes leg_holds) (slice_get (replicate planned new_leg) l)) (job_passes leg_holds l y)
      (replicate_fails leg_holds refl planned l) e);
}
made_fades false stopping planned = record { waited = (λ l y e. e); held = (λ l y e. e) }

pub decided_fades : (runs : List RunState) (r j : ℕ) → Fades runs (with_job r j (decided runs r j) runs)
decided_fades runs r j = job_fades (decided runs r j) r j runs (made_fades (may_run runs r j) (is_stopping runs r) (planned_legs runs r j))

-- ---- a leg is set to a phase

module _ (runs : List RunState) (p : LegSite) (z : LegState) (was : leg_at runs p ≡ Some z) (f : LegState → LegState) where
  -- a leg passes a test of its phase as before, unless it is the one whose phase is set
  set_passes : (test : LegPhase → Bool) (q : LegSite) → passes (leg_passes test) (leg_at (with_leg p f runs) q) ≡ true
      → (Leg q ≡ Leg p) ⊎ (passes (leg_passes test) (leg_at runs q) ≡ true)
  set_passes test q e =
      elim (place_or_another q p) [
        | inl same ↦ inl (ap Leg same)
        | inr other ↦ inr (ap (passes (leg_passes test)) (sym (leg_elsewhere runs p z f (leg_in runs p z was) q other)) ∙ e)
      ]

  pub set_waits : (h : Holder) → waits (with_leg p f runs) h ≡ true → (h ≡ Leg p) ⊎ (waits runs h ≡ true)
  set_waits (Run s) e = inr (run_waited_still f p runs s e)
  set_waits (Leg q) e = set_passes leg_waits q e

  pub set_holds : (h : Holder) → holds (with_leg p f runs) h ≡ true → (h ≡ Leg p) ⊎ (holds runs h ≡ true)
  set_holds (Run s) e = inr (run_held_still f p runs s e)
  set_holds (Leg q) e = set_passes leg_holds q e

  pub set_itself : leg_at (with_leg p f runs) p ≡ Some (f z)
  set_itself = leg_now runs p z f (leg_in runs p z was)

-- ---- a new leg

-- each holder waits or holds only if it did before
fades_one_each : (runs next : List RunState) → RunsFit runs → Settles runs next → Fades runs next → HasOneEach runs → HasOneEach next
fades_one_each runs next fit settles fades each = fading_keeps runs next (groups_stay runs next fit settles.stay) fades each

own_cancelled_one_each : (runs : List RunState) (p : LegSite) (z : LegState) → RunsFit runs → leg_at runs p ≡ Some z → z.phase ≡ leg.New
    → HasOneEach runs → HasOneEach (with_leg_in (leg.Ended outcome.Cancelled) p runs)
own_cancelled_one_each runs p z fit was is each =
    fades_one_each runs (with_leg_in (leg.Ended outcome.Cancelled) p runs) fit
    (leg_goes runs p z (leg.Ended outcome.Cancelled) fit was (new_ends z.phase z.lease is))
    (leg_fades (leg_in_phase (leg.Ended outcome.Cancelled)) p runs (λ v e. absurd (false≢true e)) (λ v e. absurd (false≢true e))) each

-- the leg waits, and every other holder waits or holds only if it did before
pub newcomer_comes : (runs : List RunState) (p : LegSite) (z : LegState) → leg_at runs p ≡ Some z
    → Comes runs (with_leg_in leg.Waiting p runs) (Leg p)
newcomer_comes runs p z was = record {
  waited = set_waits runs p z was (leg_in_phase leg.Waiting);
  held = holds_before_leg (leg_in_phase leg.Waiting) p runs (λ v e. absurd (false≢true e));
}

arrived_one_each : (runs : List RunState) (p : LegSite) (z : LegState) → RunsFit runs → leg_at runs p ≡ Some z → z.phase ≡ leg.New
    → HasOneEach runs → HasOneEach (arrived (Leg p) (with_leg_in leg.Waiting p runs)).runs
arrived_one_each runs p z fit was is each =
    let next = with_leg_in leg.Waiting p runs in
    let stay = (newcomer_waits runs p z fit was is).stay in
    arrival_one_each next stay.fit (Leg p)
    (ap (passes (leg_passes leg_waits)) (set_itself runs p z was (leg_in_phase leg.Waiting)))
    (newcomer_besides runs next (Leg p) (groups_stay runs next fit stay) (newcomer_comes runs p z was) each)

-- ---- a leg starts

starting_one_each : (runs : List RunState) (p : LegSite) (z : LegState) → RunsFit runs → leg_at runs p ≡ Some z → z.phase ≡ leg.Waiting
    → may_start runs (Leg p) ≡ true → HasOneEach runs → HasOneEach (with_leg_in leg.Ready p runs)
starting_one_each runs p z fit was is may each =
    let starts : Starts runs (with_leg_in leg.Ready p runs) (Leg p) = record {
      waited = waits_before_leg (leg_in_phase leg.Ready) p runs (λ v e. absurd (false≢true e));
      held = set_holds runs p z was (leg_in_phase leg.Ready);
    } in
    start_keeps runs (with_leg_in leg.Ready p runs) (Leg p)
    (groups_stay runs (with_leg_in leg.Ready p runs) fit
    (leg_goes runs p z leg.Ready fit was (waiting_starts z.phase z.lease is (leases_fit runs fit p z was))).stay) starts may (z, was) each

-- ---- a run advances

live_holds : (runs : List RunState) (r : ℕ) (h : Holder) → holds (with_run r (run_in_phase run.Live) runs) h ≡ true
    → (h ≡ Run r) ⊎ (holds runs h ≡ true)
live_holds runs r (Run s) e =
    elim (cases_eq s r) [
      | inl same ↦ inl (ap Run same)
      | inr other ↦ inr (ap (passes (λ (x : RunState). is_live x.phase)) (sym (at_another r (run_in_phase run.Live) runs s other)) ∙ e)
    ]
live_holds runs r (Leg p) e =
    inr (leg_before leg_holds (run_in_phase run.Live) r runs p (λ x now. now) e)

pub live_waits : (runs : List RunState) (r : ℕ) (h : Holder) → waits (with_run r (run_in_phase run.Live) runs) h ≡ true
    → waits runs h ≡ true
live_waits runs r (Run s) e = passed_changed (λ (x : RunState). run_waits x.phase) (run_in_phase run.Live)
    (λ x now. absurd (false≢true now)) r runs s e
live_waits runs r (Leg p) e = leg_before leg_waits (run_in_phase run.Live) r runs p (λ x now. now) e

pub ended_fades : (r : ℕ) (runs : List RunState) → Fades runs (with_run r (run_in_phase run.Ended) runs)
ended_fades r runs =
    run_fades (run_in_phase run.Ended) r runs
    (record {
      run_waited = (λ x e. absurd (false≢true e));
      run_held = (λ x e. absurd (false≢true e));
      leg_waited = (λ j l x e. e);
      leg_held = (λ j l x e. e);
    })

run_starts_one_each : (runs : List RunState) (r : ℕ) (x : RunState) → RunsFit runs → run_at runs r ≡ Some x
    → may_start runs (Run r) ≡ true → HasOneEach runs → HasOneEach (with_run r (run_in_phase run.Live) runs)
run_starts_one_each runs r x fit was may each =
    let next = with_run r (run_in_phase run.Live) runs in
    start_keeps runs next (Run r) (groups_stay runs next fit (phase_settles runs r x run.Live fit was tt).stay)
    (record { waited = live_waits runs r; held = live_holds runs r }) may (x, was) each

-- ---- at each site

each_one_each : (runs : List RunState) → RunsFit runs
    → EachRule runs (λ site m. LivePlace runs site → HasOneEach runs → HasOneEach m.runs)
each_one_each runs fit =
    let settles = each_settles runs fit in record {
      job_opens = (λ r j y was blocked settled live each.
          fades_one_each runs (with_job r j (decided runs r j) runs) fit (settles.job_opens r j y was blocked settled live)
          (decided_fades runs r j) each);
      leg_is_cancelled = (λ p z was is live each. own_cancelled_one_each runs p z fit was is each);
      leg_arrives = (λ p z was is live each. arrived_one_each runs p z fit was is each);
      leg_starts = (λ p z was is may live each. starting_one_each runs p z fit was is may each);
      job_settles = (λ r j y was done live each.
          let close = finished_as (result_at runs r j y) in
          fades_one_each runs (with_job r j close runs) fit (settles.job_settles r j y was done live)
          (job_fades close r j runs (record { waited = (λ l v e. e); held = (λ l v e. e) })) each);
      run_starts = (λ r x was is may live each. run_starts_one_each runs r x fit was may each);
      run_ends = (λ r x was is all live each.
          fades_one_each runs (with_run r (run_in_phase run.Ended) runs) fit (settles.run_ends r x was is all live)
          (ended_fades r runs) each);
    }

pub rule_one_each : (runs : List RunState) (m : Transition) (site : RuleSite) → RunsFit runs → LivePlace runs site → rule_at runs site ≡ Some m
    → HasOneEach runs → HasOneEach m.runs
rule_one_each runs m site fit live h each =
    by_rule runs (λ at made. LivePlace runs at → HasOneEach runs → HasOneEach made.runs) (each_one_each runs fit) m site h live each

-- ---- settling

pub first_rule_one_each : (runs : List RunState) (m : Transition) → RunsFit runs → first_rule runs ≡ Some m → HasOneEach runs → HasOneEach m.runs
first_rule_one_each = first_rule_keeps HasOneEach rule_one_each

pub settled_one_each : (runs : List RunState) → RunsFit runs → HasOneEach runs → HasOneEach (settled runs)
settled_one_each = settling_keeps HasOneEach rule_one_each
