-- The leg of a lease in a sound table: a leg that has the lease is the only one, and its index is small.
use Rattle.std.specs.Prelude.{◌≡◌, ℕ, ◌<◌, ◌^◌, IfSome, List, Bool, true, false, Option, Some, None, refl}
use Rattle.std.specs.Option.{option_map_or}
use Rattle.std.proofs.Common.{arith, ap, sym, ◌∙◌}
use Rattle.std.proofs.lemmas.Bool.{true≢false}
use Rattle.std.proofs.lemmas.Option.{same_Some, slice_get_within}
use Rattle.wf_value.specs.declared.outcome.Outcome.{Outcome}
use Rattle.table_model.specs.Fitting.{OnlyAtWork, has_lease, site_of_lease, is_at_work}
use Rattle.table_model.specs.Runs.{leg_at, leg_sites, LegState, RunState}
use Rattle.table_model.specs.declared.sites.LegSite.{LegSite}
use Rattle.table_model.specs.Stops.{with_ended, after_end}
use Rattle.table_model.proofs.Found.{find_passes, none_found}
use Rattle.table_model.proofs.JobKeeps.{leg_in}
use Rattle.table_model.proofs.Optional.{From, from_and_then}
use Rattle.table_model.proofs.RunFits.{job_in_run}
use Rattle.settling_laws.proofs.HolderPlaces.{each_leg_place}
use Rattle.table_model.specs.Sound.{IsSound}
use Rattle.table_model.specs.TableState.{TableState}
use Rattle.run_table.proofs.ReportKeeps.{has_it}
use Rattle.run_table.proofs.Storable.{legs_few}

abbrev pub has_lease_at : List RunState → ℕ → LegSite → Bool
has_lease_at runs lease p = option_map_or (has_lease lease) (leg_at runs p) false

-- a leg that has the lease
with_it : (runs : List RunState) (lease : ℕ) (p : LegSite) → has_lease_at runs lease p ≡ true → From (λ (y : LegState). y.lease) (leg_at runs p) lease
with_it runs lease p has = from_and_then (λ (y : LegState). y.lease) (leg_at runs p) lease (has_it lease (leg_at runs p) has)

-- it is the first one, since there is no other
pub leg_found : (t : TableState) (lease : ℕ) (p : LegSite) → IsSound t → has_lease_at t.runs lease p ≡ true
    → Some p ≡ site_of_lease t.runs lease
leg_found t lease p s has =
    let test = has_lease_at t.runs lease in
    let this = with_it t.runs lease p has in
    elim (site_of_lease t.runs lease) as (λ o. site_of_lease t.runs lease ≡ o → Some p ≡ o) [
      | None ↦ λ none.
          let fails = each_leg_place (λ q. test q ≡ false) t.runs p this.value (none_found test (leg_sites t.runs) none) this.is in
          absurd (true≢false (sym has ∙ fails))
      | Some q ↦ λ found.
          let first = with_it t.runs lease q (find_passes test (leg_sites t.runs) q found) in
          ap Some (s.leases_differ p q this.value first.value lease this.is first.is this.gives first.gives)
    ] refl

pub leg_below : (t : TableState) (lease : ℕ) (p : LegSite) → IsSound t → has_lease_at t.runs lease p ≡ true → p.leg < 2 ^ 63
leg_below t lease p s has =
    let this = with_it t.runs lease p has in
    let at = leg_in t.runs p this.value this.is in
    let few = legs_few t s p.run p.job at.job (job_in_run t.runs p.run p.job at.place.run at.place.run_is ∙ at.place.job_is) in
    let within = slice_get_within at.job.legs p.leg this.value at.leg_is in
    omega (arith, few, within)

-- a runner is at work on it
pub held_is_at_work : (runs : List RunState) (lease : ℕ) → OnlyAtWork runs lease
    → IfSome (site_of_lease runs lease) (λ p. IfSome (leg_at runs p) (λ z. is_at_work z.phase ≡ true))
held_is_at_work runs lease work = by (site_of_lease runs lease) refl
  where
    at_it : (p : LegSite) (this : From (λ (y : LegState). y.lease) (leg_at runs p) lease) → (o : Option LegState) → leg_at runs p ≡ o
        → IfSome o (λ z. is_at_work z.phase ≡ true)
    at_it p this None at = tt
    at_it p this (Some z) at =
        work p z at (ap (λ (y : LegState). y.lease) (same_Some z this.value (sym at ∙ this.is)) ∙ this.gives)

    by : (o : Option LegSite) → site_of_lease runs lease ≡ o → IfSome o (λ p. IfSome (leg_at runs p) (λ z. is_at_work z.phase ≡ true))
    by None none = tt
    by (Some p) found = at_it p (with_it runs lease p (find_passes (has_lease_at runs lease) (leg_sites runs) p found)) (leg_at runs p) refl

-- ---- the leg ends

-- the end of the leg that is found is the end of the lease's leg
pub ended_at : (lease : ℕ) (outcome : Outcome) (t : TableState) (runs ended : List RunState) (leg : Option LegSite) → runs ≡ t.runs
    → leg ≡ site_of_lease t.runs lease → ended ≡ option_map_or (λ p. after_end p outcome runs) leg runs
    → ended ≡ with_ended lease outcome t.runs
ended_at lease outcome t runs ended leg runs_are leg_is ended_is =
    ended_is ∙ ap (λ (xs : List RunState). option_map_or (λ p. after_end p outcome xs) leg xs) runs_are
    ∙ ap (λ (o : Option LegSite). option_map_or (λ p. after_end p outcome t.runs) o t.runs) leg_is
