use Rattle.std.proofs.Common.{refl}
use Rattle.std.proofs.lemmas.Iterator.{YieldsList-from_chars}
use Rattle.std.proofs.lemmas.Iterator.Consumers.{YieldsList-turn, YieldsList-end}
use Rattle.wf_value.proofs.PassedOn.{passed_on}
use Rattle.wf_expr.proofs.RunLemmas.{run-ok, run-err, run-end}
use Rattle.wf_expr.proofs.reader.read_on.Goals as goal

pub loop-c-init : goal.loop-c-init
loop-c-init c = refl

pub loop-c-preserved : goal.loop-c-preserved
loop-c-preserved c =
    let t = YieldsList-turn
    (YieldsList-from_chars c.args.rest.now c.utf8.rest cc) c.loop-c.yielded _ c.loop-c.yielded_by _ _ c.in-Some.c c.in-Some.is
    c.next.ensures.steps in
    run-ok _ _ _ _ _ _ t c.loop-c.invariant c.in_ok-reader.ensures

pub returns : goal.returns
returns c =
    let t = YieldsList-end
    (YieldsList-from_chars c.args.rest.now c.utf8.rest cc) c.loop-c.yielded _ c.loop-c.yielded_by _ _ c.in-None.is c.next.ensures.steps
    in
    rw (← run-end _ _ _ _ t.1 c.loop-c.invariant) c.end.ensures

pub returns-in_err-reader : goal.returns-in_err-reader
returns-in_err-reader c =
    let t = YieldsList-turn
    (YieldsList-from_chars c.args.rest.now c.utf8.rest cc) c.loop-c.yielded _ c.loop-c.yielded_by _ _ c.in-Some.c c.in-Some.is
    c.next.ensures.steps in
    passed_on _ _ _ _ c.in_err-reader.field-0.0 c.from_residual.ensures.1 c.in_err-reader.ensures (run-err _ _ _ _ _ _ t c.loop-c.invariant)
