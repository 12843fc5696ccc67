use Rattle.std.proofs.Common.{List, ap, arith, length}
use Rattle.table_model.specs.Forgotten.{WorkflowCount}
use Rattle.table_text.proofs.ForgottenKnown.{few_counts}
use Rattle.table_text.proofs.table_lengths.forgotten_length.Goals as goal

pub counts_length-counts-requires : goal.counts_length-counts-requires
counts_length-counts-requires c =
    let few = few_counts c.args.forgotten.now (omega (arith, c.through-through.ensures.through, c.through-through.ensures.most))
    c.through-through.ensures.fit in
    omega (arith, few, ap (λ (l : List WorkflowCount). length l) c.counts.ensures)
