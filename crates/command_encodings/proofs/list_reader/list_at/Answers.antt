use Rattle.std.proofs.Common.{◌≡◌, ◌++◌, ◌∷◌, []}
use Rattle.std.proofs.lemmas.Result.{err_from_is_err_and}
use Rattle.command_encodings.specs.inner.Reading.{items_at}
use Rattle.command_encodings.proofs.Loop.{goes_on, ends, is_done}
use Rattle.command_encodings.proofs.list_reader.list_at.Goals as goal

pub returns-in_err-value : goal.returns-in_err-value
returns-in_err-value g c =
    let at = g.T.ReadAt.prefix_at in
    let p = err_from_is_err_and c.from_residual.result c.from_residual.ensures.1 in
    rw (p.1, p.2) (ends at c.in_err-value.field-0.0 c.loop.values.items c.args.count c.loop.counter c.loop.rest.now
    (items_at at c.args.count c.args.bytes.now) c.loop-test.true c.in_err-value.ensures c.loop.invariant)

pub loop-preserved : goal.loop-preserved
loop-preserved g c =
    let at = g.T.ReadAt.prefix_at in
    let one = c.in_ok-value.value in
    let e : c.push.new.self.items ≡ c.loop.values.items ++ one ∷ [] = c.in_ok-push.ensures.items in
    rw e (goes_on at c.loop.values.items c.args.count c.loop.counter c.loop.rest.now one c.in_ok-value.suffix.now
    (items_at at c.args.count c.args.bytes.now) c.loop-test.true c.in_ok-value.ensures c.loop.invariant)

pub returns : goal.returns
returns g c =
    let at = g.T.ReadAt.prefix_at in
    is_done at c.loop.values.items c.args.count c.loop.counter c.loop.rest.now (items_at at c.args.count c.args.bytes.now)
    c.loop-test.false c.loop.invariant
