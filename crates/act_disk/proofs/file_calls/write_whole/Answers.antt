use Rattle.std.proofs.Common.{◌≡◌, ◌+◌, ◌-◌, ◌≤◌, ◌∷◌, ℕ, List, length, take, drop, sym, subst, arith}
use Rattle.std.proofs.lemmas.List.{length-drop, take_all}
use Rattle.act_disk.specs.inner.FileCalls.{Puts, MayHaveFailed}
use Rattle.act_disk.specs.SystemCalls.{FileCall, Wrote, WriteFailed}
use Rattle.act_disk.proofs.WriteLemmas.{put_one, put_more, broke_first, broke_later}
use Rattle.act_disk.proofs.file_calls.write_whole.Goals as goal

rest_is : (count : ℕ) (bytes : List ℕ) → take (length bytes - count) (drop count bytes) ≡ drop count bytes
rest_is count bytes = take_all (length bytes - count) (drop count bytes) (omega (arith, length-drop count bytes))

pub returns-in-Err-clause-err : goal.returns-in-Err-clause-err
returns-in-Err-clause-err g c =
    let file = g.F.SystemFile in
    broke_first file.left file.held c.args.at c.args.bytes.now (file.calls c.args.file.now)
    (file.calls c.write_some.new.file) c.in-Err.ensures.calls

pub loop-count-init : goal.loop-count-init
loop-count-init g c =
    let file = g.F.SystemFile in
    let old = file.calls c.args.file.now in record {
      within = c.in-Ok.ensures.count;
      some = c.in-Ok.ensures.some;
      puts = subst (λ (l : List FileCall). Puts file.left file.held c.args.at c.args.bytes.now c.in-Ok.count old l)
          (sym c.in-Ok.ensures.calls)
          (put_one file.left file.held c.args.at c.args.bytes.now c.in-Ok.count old);
    }

pub loop-count-preserved : goal.loop-count-preserved
loop-count-preserved g c =
    let file = g.F.SystemFile in
    let bytes = c.args.bytes.now in
    let count = c.loop-count.count in
    let more = c.in-Ok-write_some.more in
    let old = file.calls c.args.file.now in
    let mid = file.calls c.loop-count.file in
    let new = file.calls c.write_some-in-loop-count.new.file in
    let noted : new ≡ Wrote (c.args.at + count) (drop count bytes) more ∷ mid =
    subst (λ (l : List ℕ). new ≡ Wrote (c.args.at + count) l more ∷ mid) (rest_is count bytes) c.in-Ok-write_some.ensures.calls in
    let short : more ≤ length (drop count bytes) =
    subst (λ (l : List ℕ). more ≤ length l) (rest_is count bytes) c.in-Ok-write_some.ensures.count in
    let inv = c.loop-count.invariant in record {
      within = omega (arith, short, length-drop count bytes, inv.within);
      some = λ here. omega (arith, inv.some here);
      puts = put_more file.left file.held c.args.at bytes count inv.within old mid inv.puts more new
          (subst (λ (l : List FileCall). Puts file.left file.held (c.args.at + count) (drop count bytes) more mid l) (sym noted)
          (put_one file.left file.held (c.args.at + count) (drop count bytes) more mid));
    }

pub returns-in-Err-write_some-clause-err : goal.returns-in-Err-write_some-clause-err
returns-in-Err-write_some-clause-err g c =
    let file = g.F.SystemFile in
    let bytes = c.args.bytes.now in
    let count = c.loop-count.count in
    let old = file.calls c.args.file.now in
    let mid = file.calls c.loop-count.file in
    let new = file.calls c.write_some-in-loop-count.new.file in
    let inv = c.loop-count.invariant in
    let failed : MayHaveFailed (WriteFailed (c.args.at + count) (drop count bytes)) mid new =
    subst (λ (l : List ℕ). MayHaveFailed (WriteFailed (c.args.at + count) l) mid new)
    (rest_is count bytes) c.in-Err-write_some.ensures.calls in
    broke_later file.left file.held c.args.at bytes count inv.within old mid inv.puts new
    (inv.some (omega (arith, c.loop-count-test.true))) c.requires
    (broke_first file.left file.held (c.args.at + count) (drop count bytes) mid new failed)
