use Rattle.std.proofs.Common.{List, ap, sym, subst, ◌∙◌}
use Rattle.std.specs.List.{AllByRecursion}
use Rattle.table_model.specs.inner.PlacedLegs.{PlacedLeg}
use Rattle.table_model.specs.inner.WithinRun.{goes_on}
use Rattle.table_model.specs.declared.sites.RuleSite.TheVariants.{AtLeg}
use Rattle.settling_laws.proofs.PlacedLegs.{first_passing, first_passing_in_job}
use Rattle.table_runs.proofs.LegsThere.{IsThere, legs_there}
use Rattle.table_runs.proofs.first_site.first_of_legs.Goals as goal

pub loop-site-init : goal.loop-site-init
loop-site-init c =
    let items = c.into_iter-site-iterator.ensures.into_iter_gives ∙ c.of_job-site-items.ensures in
    record {
      to_come = ap (first_passing (goes_on c.args.runs.now) AtLeg) items
          ∙ first_passing_in_job (goes_on c.args.runs.now) AtLeg c.args.r c.args.j c.args.legs.now;
      there = subst (λ (xs : List PlacedLeg). AllByRecursion (IsThere c.args.runs.now) xs) (sym items)
          (legs_there c.args.runs.now c.args.r c.args.j c.args.legs.now c.requires);
    }

pub goes_on-requires : goal.goes_on-requires
goes_on-requires c =
    (subst (λ (xs : List PlacedLeg). AllByRecursion (IsThere c.args.runs.now) xs) c.in-Some.ensures.steps.0 c.loop-site.invariant.there).0
