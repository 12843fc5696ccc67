use Rattle.std.proofs.Common.{length, drop, ◌∙◌, arith}
use Rattle.act_disk.proofs.LaidLemmas.{laid_vec}
use Rattle.act_disk.proofs.memory.lay.Goals as goal

pub returns-clause-ok : goal.returns-clause-ok
returns-clause-ok c =
    let old = c.deref_mut.result.now in
    let new = c.overwrite.new.file in
    laid_vec c.args.at c.grow.new.file.len c.args.bytes.now c.args.file.now.items old new (drop (length new) c.grow.new.file.items)
    (c.deref_mut.ensures.value ∙ c.in_ok-grow.ensures.ok) c.overwrite.ensures (omega arith)
