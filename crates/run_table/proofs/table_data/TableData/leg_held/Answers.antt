use Rattle.std.specs.Prelude.{◌≡◌, true}
use Rattle.std.proofs.Common.{ap, sym, ◌∙◌}
use Rattle.table_model.specs.TableState.{TableState}
use Rattle.run_table.proofs.LegHeld.{has_lease_at, leg_below, leg_found}
use Rattle.run_table.proofs.table_data.TableData.leg_held.Goals as goal

pub returns-in-Some-clause-found : goal.returns-in-Some-clause-found
returns-in-Some-clause-found c =
    let t = c.args.self.now in
    let has : has_lease_at t.runs c.args.lease c.in-Some.leg ≡ true =
    ap (λ (s : TableState). has_lease_at s.runs c.args.lease c.in-Some.leg) (sym c.self.view_is) ∙ sym c.leg_has_lease.ensures
    ∙ c.if-leg_has_lease.true in
    leg_found t c.args.lease c.in-Some.leg c.requires.sound has

pub returns-in-Some-clause-leg : goal.returns-in-Some-clause-leg
returns-in-Some-clause-leg c =
    let t = c.args.self.now in
    let has : has_lease_at t.runs c.args.lease c.in-Some.leg ≡ true =
    ap (λ (s : TableState). has_lease_at s.runs c.args.lease c.in-Some.leg) (sym c.self.view_is) ∙ sym c.leg_has_lease.ensures
    ∙ c.if-leg_has_lease.true in
    leg_below t c.args.lease c.in-Some.leg c.requires.sound has
