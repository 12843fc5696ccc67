use Rattle.std.specs.Prelude.{option_and_then, slice_get}
use Rattle.std.proofs.Common.{ap, ◌∙◌}
use Rattle.forgotten_runs.specs.inner.CountIndexes.{kept_if_of}
use Rattle.forgotten_runs.proofs.CountIndexes.{found_at_index}
use Rattle.forgotten_runs.proofs.workflow_counts.count_of.Goals as goal

pub returns : goal.returns
returns c =
    let counts = c.args.counts.now in
    let event = c.args.event.now in
    c.count_at.ensures ∙ ap (λ n. option_and_then (kept_if_of event) (slice_get counts n)) c.index_in.ensures
    ∙ found_at_index counts event c.requires
