use Rattle.std.specs.Prelude.{◌≡◌, true}
use Rattle.std.proofs.Common.{ap, sym, ◌∙◌}
use Rattle.table_model.specs.Groups.{waits}
use Rattle.table_model.specs.Stops.{stop_holder}
use Rattle.table_model.specs.declared.holder.Holder.{Holder}
use Rattle.table_model.specs.declared.holder.Holder.TheVariants.{Leg, Run}
use Rattle.table_runs.proofs.Cancelled.{leg_cancelled, run_cancelled}
use Rattle.table_runs.proofs.runs.arrivals.cancel.Goals as goal

pub returns-in-Run-clause-runs : goal.returns-in-Run-clause-runs
returns-in-Run-clause-runs c =
    let runs = c.args.rows.now.runs in
    let waiting : waits runs (Run c.in-Run.r) ≡ true = sym (ap (λ (h : Holder). waits runs h) c.in-Run.is) ∙ c.requires.waits in
    c.change.ensures.runs ∙ run_cancelled runs c.in-Run.r waiting
    ∙ sym (ap (λ (h : Holder). (stop_holder h runs).runs) c.in-Run.is)

pub returns-in-Leg-clause-runs : goal.returns-in-Leg-clause-runs
returns-in-Leg-clause-runs c =
    let runs = c.args.rows.now.runs in
    let p = c.in-Leg.site in
    let waiting : waits runs (Leg p) ≡ true = sym (ap (λ (h : Holder). waits runs h) c.in-Leg.is) ∙ c.requires.waits in
    c.change-in-Leg.ensures.runs
    ∙ leg_cancelled runs p c.new.result c.in_phase-ended.result c.requires.sound waiting c.new.ensures c.in_phase-ended.ensures
    ∙ sym (ap (λ (h : Holder). (stop_holder h runs).runs) c.in-Leg.is)
