use Rattle.std.proofs.Common.{◌≡◌, ap, arith, sym, subst, ◌∙◌, rules}
use Rattle.std.specs.Bool.{Decides}
use Rattle.table_model.specs.Sound.{IsOfALeg}
use Rattle.table_model.specs.Step.{kept_lease}
use Rattle.stored_tables.specs.inner.StoredSites.{site_in_runs}
use Rattle.table_model.specs.declared.sites.LegSite.{LegSite}
use Rattle.table_model.proofs.OneAfterAnother.{not_so}
use Rattle.stored_tables.proofs.PartsRead.{given_lease, no_given, none_forgotten, run_within}
use Rattle.stored_tables.proofs.leased.Leased.given_at.Goals as goal
use Rattle.stored_tables.proofs.leased.Leased.given_at.Goals.{After-is_of_a_leg}
use Rattle.wf_value.proofs.PassedOn.{same_Ok}

site_is : (c : After-is_of_a_leg) → c.site_in_runs-site.result ≡ site_in_runs c.args.self.now.forgotten.now.through c.args.stored.now
site_is c =
    c.site_in_runs-site.ensures ∙ ap (λ n. site_in_runs n c.args.stored.now) (c.through-through.ensures.through)

decided : (c : After-is_of_a_leg) → Decides c.is_of_a_leg.result
    (IsOfALeg c.args.self.now.last c.args.self.now.runs.now
    (kept_lease c.args.self.now.runs.now c.args.stored.now.attempt (site_in_runs c.args.self.now.forgotten.now.through c.args.stored.now) c.args.lease))
decided c =
    subst (λ (q : LegSite). Decides c.is_of_a_leg.result (IsOfALeg c.args.self.now.last c.args.self.now.runs.now
    (kept_lease c.args.self.now.runs.now c.args.stored.now.attempt q c.args.lease)))
    (site_is c) c.is_of_a_leg.ensures

pub returns-then-get-through-clause-of : goal.returns-then-get-through-clause-of
returns-then-get-through-clause-of c =
    none_forgotten c.args.self.now.last c.args.lease c.args.self.now.forgotten.now c.args.self.now.runs.now c.requires.ids c.args.stored.now
    (search (rules, arith))

pub returns-then-not-is_of_a_leg-clause-of : goal.returns-then-not-is_of_a_leg-clause-of
returns-then-not-is_of_a_leg-clause-of c =
    no_given c.args.self.now.last c.args.lease c.args.self.now.forgotten.now c.args.self.now.runs.now c.requires.ids c.args.stored.now
    (not_so c.is_of_a_leg.result (decided (goal.at.returns-then-not-is_of_a_leg-clause-of c).After-is_of_a_leg) (search rules))

pub kept_lease-requires : goal.kept_lease-requires
kept_lease-requires c =
    run_within c.args.self.now.last c.args.self.now.forgotten.now c.args.self.now.runs.now c.requires.ids c.args.stored.now.attempt c.site_in_runs-site.result
    c.args.lease (c.is_of_a_leg.ensures.0 (search rules))

pub returns-clause-of : goal.returns-clause-of
returns-clause-of c =
    let runs = c.args.self.now.runs.now in
    let stored = c.args.stored.now in
    given_lease c.args.self.now.last c.args.lease c.args.self.now.forgotten.now runs c.requires.ids stored c.in_ok-kept.kept (search (rules, arith))
    ((decided (goal.at.returns-clause-of c).After-is_of_a_leg).0 (search rules))
    (ap (λ p. kept_lease runs stored.attempt p c.args.lease) (sym (site_is (goal.at.returns-clause-of c).After-is_of_a_leg)) ∙ same_Ok _ _ c.in_ok-kept.ensures)
