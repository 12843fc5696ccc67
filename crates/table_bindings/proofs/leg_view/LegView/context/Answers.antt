use Rattle.std.specs.Fmt.{decimal}
use Rattle.std.proofs.Common.{◌≡◌, rules}
use Rattle.table_model.specs.Runs.{direct_needs}
use Rattle.table_bindings.proofs.Digits.{told_in_digits}
use Rattle.table_bindings.proofs.leg_view.LegView.context.Goals as goal

pub returns : goal.returns
returns c =
    let leg = c.self.inside in
    let id : c.format.result.now ≡ decimal leg.run.now.id = search rules in
    let number : c.format-2.result.now ≡ decimal leg.run.now.number = search rules in
    let attempt : c.format-3.result.now ≡ decimal leg.run.now.attempt = search rules in
    told_in_digits leg.run.now.admitted leg.run.now.id leg.run.now.number leg.run.now.attempt c.format.result.now c.format-2.result.now
    c.format-3.result.now leg.job.now leg.leg (direct_needs leg.run.now leg.index) c.args.self.now id number attempt c.self.view_is
