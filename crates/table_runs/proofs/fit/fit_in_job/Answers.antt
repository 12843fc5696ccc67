use Rattle.std.specs.Prelude.{None, if◌then◌else◌}
use Rattle.std.proofs.Common.{ap, sym, ◌∙◌}
use Rattle.table_model.specs.Runs.{JobState}
use Rattle.table_model.specs.inner.WithinRun.{served_in_job}
use Rattle.table_runs.proofs.NoneReady.{none_in_job}
use Rattle.table_runs.proofs.fit.fit_in_job.Goals.{else-has_ready_leg-via-then-has_ready_leg+else-has_room, else-has_ready_leg-via-else-has_ready_leg}
use Rattle.table_runs.proofs.fit.fit_in_job.Goals as goal

pub returns-else-has_ready_leg-clause-found : goal.returns-else-has_ready_leg-clause-found
returns-else-has_ready_leg-clause-found c =
    let labels = c.args.labels.now in
    let runs = c.args.runs.now in
    let job : JobState = c.args.job.now.state in
    elim c.else-has_ready_leg.branch [
      | else-has_ready_leg-via-then-has_ready_leg+else-has_room w ↦
          sym (ap (λ b. if b then served_in_job labels runs c.args.r c.args.j job else None) (sym w.has_room.ensures ∙ w.if-has_room.false))
      | else-has_ready_leg-via-else-has_ready_leg w ↦
          sym (none_in_job labels runs c.args.r c.args.j job (sym c.has_ready_leg.ensures ∙ w.if-has_ready_leg.false))
    ]
