use Rattle.std.proofs.Common.{◌≡◌, ◌+◌, ◌-◌, ◌≤◌, List, length, take, drop, sym, subst, rules, arith}
use Rattle.std.proofs.lemmas.List.{places, length-take, length-drop}
use Rattle.act_disk.specs.inner.FileCalls.{Reads}
use Rattle.act_disk.specs.SystemCalls.{FileCall, contents, IsHonest}
use Rattle.act_disk.proofs.ReadLemmas.{read_more, gave_bytes, filled_more}
use Rattle.act_disk.proofs.file_calls.fill.Goals as goal

pub loop-count-preserved : goal.loop-count-preserved
loop-count-preserved g c =
    let file = g.F.SystemFile in
    let old = file.calls c.args.file.now in
    let mid = file.calls c.loop-count.file in
    let from = c.args.at + c.loop-count.count in
    let count = c.in_ok-count.field-0 in
    let bytes = take count c.read_some.new.buf in
    let noted = c.in_ok-count.ensures.calls in
    let left : length c.read_some.new.buf ≡ length c.loop-count.buf - c.loop-count.count = search (rules, places) in
    let size : length (take (length c.loop-count.buf - c.loop-count.count) (drop c.loop-count.count c.loop-count.buf))
    ≡ length c.loop-count.buf - c.loop-count.count =
    omega (
      arith,
      length-take (length c.loop-count.buf - c.loop-count.count) (drop c.loop-count.count c.loop-count.buf),
      length-drop c.loop-count.count c.loop-count.buf,
    ) in
    let fits : count ≤ length c.read_some.new.buf = omega (arith, c.in_ok-count.ensures.count.1, size, left) in record {
      within = search (rules, places);
      reads = subst (λ (l : List FileCall). Reads file.left file.held old l) (sym noted)
          (read_more file.left file.held from bytes old mid c.loop-count.invariant.reads);
      bytes = λ sound honest.
          let now = subst (λ (l : List FileCall). IsHonest file.held l) noted honest in
          filled_more c.args.at c.loop-count.count count c.loop-count.buf c.read_some.new.buf
          (contents file.held old) c.loop-count.invariant.within fits
          (c.loop-count.invariant.bytes sound now.0)
          (gave_bytes file.left file.held from bytes old mid c.loop-count.invariant.reads sound now);
    }
