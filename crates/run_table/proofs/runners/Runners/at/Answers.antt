use Rattle.std.specs.Prelude.{List, option_and_then, slice_get}
use Rattle.std.proofs.Common.{ap, ◌∙◌}
use Rattle.table_model.specs.TableState.{RunnerState, kept_named}
use Rattle.run_table.proofs.RunnerOrder.{found_there}
use Rattle.run_table.proofs.runners.Runners.at.Goals as goal

pub returns : goal.returns
returns c =
    let name = c.args.name.now in
    c.named_at.ensures
    ∙ ap (λ (xs : List RunnerState). option_and_then (kept_named name) (slice_get xs c.args.index)) c.as_slice.ensures.runners
    ∙ found_there c.args.self.now name c.as_slice.ensures.rise c.args.index c.requires
