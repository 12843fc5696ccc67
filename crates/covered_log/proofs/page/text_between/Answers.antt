use Rattle.std.proofs.Common.{refl}
use Rattle.covered_log.proofs.PageLemmas.{one_more_line}
use Rattle.covered_log.proofs.page.text_between.Goals as goal

pub loop-index-preserved : goal.loop-index-preserved
loop-index-preserved c =
    rw (
      c.in_ok-push_str.ensures.bytes,
      c.loop-index.invariant,
      c.as_str.ensures,
      one_more_line c.args.kept.now.lines c.args.from c.loop-index.index c.line.result.now c.loop-index.auto.index c.line.ensures,
    ) refl
