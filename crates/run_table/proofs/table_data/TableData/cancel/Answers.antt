use Rattle.std.proofs.Common.{ap, ◌∙◌}
use Rattle.table_model.specs.TableState.{TableState, index_of}
use Rattle.table_model.specs.Runs.{with_run}
use Rattle.table_model.specs.Stops.{stopped_run}
use Rattle.run_table.proofs.BeforeSettling.{so_settles, sound_as_they_are, stopped_may_settle}
use Rattle.run_table.proofs.table_data.TableData.cancel.Goals as goal

pub stop-requires : goal.stop-requires
stop-requires c =
    sound_as_they_are c.args.self.now c.self.inside.runs c.requires (ap (λ (s : TableState). s.runs) c.self.view_is)

pub settle-requires : goal.settle-requires
settle-requires c =
    let t = c.args.self.now in
    let may =
    so_settles (with_run (index_of t c.args.id) stopped_run t.runs) c.stop.new.self
    (c.stop.ensures ∙ ap (λ n. with_run n stopped_run c.self.inside.runs) c.index_of-index.ensures
    ∙ ap (λ (s : TableState). with_run (index_of t c.args.id) stopped_run s.runs) c.self.view_is)
    (stopped_may_settle t (index_of t c.args.id) c.requires) in
    may.sound
