use Rattle.std.specs.Prelude.{Some}
use Rattle.std.specs.List.{AllByRecursion}
use Rattle.std.proofs.Common.{◌≡◌, false, subst, sym, rules}
use Rattle.stored_tables.specs.inner.OneByOne.{LegIsSound}
use Rattle.table_model.specs.inner.PlacedLegs.{PlacedLeg, placed_legs}
use Rattle.table_model.specs.Runs.{leg_at}
use Rattle.table_model.proofs.Found.{all_weaken}
use Rattle.table_model.proofs.OneAfterAnother.{no, not_so, yes}
use Rattle.settling_laws.proofs.PlacedLegs.{each_is_there, each_placed}
use Rattle.stored_tables.proofs.sound.legs.are_legs_sound.Goals as goal

pub loop-site-init : goal.loop-site-init
loop-site-init c =
    let runs = c.args.runs.now in
    let sound = λ (x : PlacedLeg). LegIsSound c.args.leases.now x.site x.leg in
    let legs : c.into_iter-site-iterator.result ≡ placed_legs runs = cc in (
      (λ all p x at. each_placed sound runs p x (subst (AllByRecursion sound) legs all) at),
      (λ each.
          subst (AllByRecursion sound) (sym legs)
          (all_weaken (λ x. leg_at runs x.site ≡ Some x.leg) sound (λ x at. each x.site x.leg at) (placed_legs runs) (each_is_there runs))),
    )

pub returns-then-not-is_leg_sound : goal.returns-then-not-is_leg_sound
returns-then-not-is_leg_sound c =
    let sound = λ (x : PlacedLeg). LegIsSound c.args.leases.now x.site x.leg in
    let fails : c.is_leg_sound.result ≡ false = search rules in
    no (λ each. not_so c.is_leg_sound.result c.is_leg_sound.ensures fails
    (subst (AllByRecursion sound) c.in-Some.ensures.steps.0 (c.loop-site.invariant.1 each)).0)

pub loop-site-preserved : goal.loop-site-preserved
loop-site-preserved c =
    let sound = λ (x : PlacedLeg). LegIsSound c.args.leases.now x.site x.leg in
    let holds = c.is_leg_sound.ensures.0 (search rules) in (
      (λ all. c.loop-site.invariant.0 (subst (AllByRecursion sound) (sym c.in-Some.ensures.steps.0) (holds, all))),
      (λ each. (subst (AllByRecursion sound) c.in-Some.ensures.steps.0 (c.loop-site.invariant.1 each)).1),
    )

pub returns : goal.returns
returns c =
    let sound = λ (x : PlacedLeg). LegIsSound c.args.leases.now x.site x.leg in
    yes (c.loop-site.invariant.0 (subst (AllByRecursion sound) (sym c.in-None.ensures.steps.0.0) tt))
