use Rattle.std.proofs.Common.{rules, arith, ◌≡◌, ◌+◌, ◌-◌, length}
use Rattle.std.proofs.lemmas.List.{places}
use Rattle.gated_journal.proofs.Composed.{on_ok}
use Rattle.act_store.proofs.AreaPrefixes.{filled}
use Rattle.act_store.proofs.area_prefix.fill_after.Goals as goal

pub returns-clause-bytes : goal.returns-clause-bytes
returns-clause-bytes g c =
    let from = c.args.from in
    let old = c.args.bytes.now in
    let n = length old - from in
    let all : from + n ≡ length old = omega (arith, c.requires.from) in
    let long : length c.read.new.bytes ≡ n = search (rules, places) in
    on_ok c.read.result c.read.ensures.bytes (λ read honest.
    filled c.args.area.start from n old c.read.new.bytes (g.D.Disk.seen c.args.disk.now) all long (read honest))
