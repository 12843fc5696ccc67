-- A leg that is ready after a change of a run was ready before, except the one that the change makes ready.
use Rattle.std.specs.Prelude.{◌≡◌, ◌⊎◌, ℕ, List, Bool, true, false, Option, Some, None, if◌then◌else◌, refl}
use Rattle.std.proofs.Common.{ap, subst, sym, ◌∙◌, inl, inr}
use Rattle.std.proofs.lemmas.Bool.{false≢true}
use Rattle.wf_value.specs.declared.outcome.JobResult.TheVariants as result
use Rattle.run_plan.specs.PlanOf.{plan_of}
use Rattle.table_model.specs.Changes.{changed}
use Rattle.table_model.specs.Changes.{offered_by}
use Rattle.table_model.specs.Fitting.{is_ready}
use Rattle.table_model.specs.Runs.{leg_at, leg_site, with_leg, with_run, LegState, RunState, opened, run_in_phase, finished_as}
use Rattle.table_model.specs.declared.sites.LegSite.{LegSite}
use Rattle.table_model.specs.Settling.{legs_in_plan}
use Rattle.table_model.specs.declared.change.Change.{Change}
use Rattle.table_model.specs.declared.change.Change.TheVariants as change
use Rattle.table_model.proofs.JobKeeps.{leg_elsewhere, leg_in, with_job_of, with_leg_of}
use Rattle.table_model.proofs.LeaseReads.{place_or_another}
use Rattle.table_model.proofs.Transitions.{with_leg_none}
use Rattle.table_bindings.specs.inner.LabelNumbers.{IsReadyAt}
use Rattle.settling_laws.proofs.HoldersFade.{Weakens, job_passes, leg_before, leg_change_weakens, leg_passes, passed_changed, passed_map}
use Rattle.settling_laws.proofs.HoldersFade.{passes}
use Rattle.settling_laws.proofs.OneEachRules.{replicate_fails}

-- the leg that becomes ready, or one that was ready before
abbrev pub WasReady : List RunState → Option LegSite → LegSite → Type 0
WasReady runs one p = (one ≡ Some p) ⊎ IsReadyAt runs p

-- ---- a leg is replaced

module _ (runs : List RunState) (p : LegSite) (z : LegState) where
  put_ready : (q : LegSite) → IsReadyAt (with_leg p (λ _. z) runs) q → WasReady runs (Some p) q
  put_ready q ready = by (leg_at runs p) refl
    where
      by : (o : Option LegState) → leg_at runs p ≡ o → WasReady runs (Some p) q
      by None none = inr (subst (λ (rs : List RunState). IsReadyAt rs q) (sym (with_leg_none runs p (λ _. z) none)) ready)
      by (Some was) at =
          elim (place_or_another q p) [
            | inl same ↦ inl (ap (λ (k : LegSite). Some k) (sym same))
            | inr other ↦
                inr (ap (passes (leg_passes is_ready)) (sym (leg_elsewhere runs p was (λ _. z) (leg_in runs p was at) q other)) ∙ ready)
          ]

  put_not_ready : (q : LegSite) → is_ready z.phase ≡ false → IsReadyAt (with_leg p (λ _. z) runs) q → IsReadyAt runs q
  put_not_ready q goes ready =
      leg_before is_ready (with_job_of p.job (with_leg_of p.leg (λ _. z))) p.run runs q
      (leg_change_weakens is_ready (λ _. z) (λ x e. absurd (false≢true (sym goes ∙ e))) p.job p.leg q.job q.leg) ready

  put_by : (b : Bool) → is_ready z.phase ≡ b → (q : LegSite) → IsReadyAt (with_leg p (λ _. z) runs) q
      → WasReady runs (if b then Some p else None) q
  put_by true comes q ready = put_ready q ready
  put_by false goes q ready = inr (put_not_ready q goes ready)

-- ---- a job opens, with new legs

opened_ready : (planned l : ℕ) → Weakens (job_passes is_ready l) (opened planned)
opened_ready planned l y e = absurd (false≢true (sym (replicate_fails is_ready refl planned l) ∙ e))

-- ---- each change

pub ready_before : (runs : List RunState) (r : ℕ) (c : Change) (p : LegSite) → IsReadyAt (with_run r (changed c) runs) p
    → WasReady runs (offered_by r c) p
ready_before runs r (change.Phase phase) p ready = inr (leg_before is_ready (run_in_phase phase) r runs p (λ x e. e) ready)
ready_before runs r (change.Open j) p ready =
    inr (leg_before is_ready (changed (change.Open j)) r runs p
    (λ x e.
    let planned = legs_in_plan (plan_of x.admitted.body) j in
    passed_changed (job_passes is_ready p.leg) (opened planned) (opened_ready planned p.leg) j x.jobs p.job e) ready)
ready_before runs r (change.Settle j settled) p ready =
    inr (leg_before is_ready (changed (change.Settle j settled)) r runs p
    (λ x e. passed_changed (job_passes is_ready p.leg) (finished_as settled) (λ y now. now) j x.jobs p.job e) ready)
ready_before runs r change.Cancel p ready =
    inr (leg_before is_ready (changed change.Cancel) r runs p
    (λ x e. passed_map (job_passes is_ready p.leg) (finished_as result.Cancelled) (λ y now. now) x.jobs p.job e) ready)
ready_before runs r change.RequestStop p ready = inr (leg_before is_ready (changed change.RequestStop) r runs p (λ x e. e) ready)
ready_before runs r (change.PutLeg j l z) p ready = put_by runs (leg_site r j l) z (is_ready z.phase) refl p ready
