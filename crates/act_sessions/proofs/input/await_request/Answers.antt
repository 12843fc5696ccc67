use Rattle.std.proofs.Common.{◌≤◌, ◌++◌, length, Ok, ap, subst, length-append, arith}
use Rattle.std.specs.Prelude.{None}
use Rattle.std.proofs.lemmas.Result.{err_from_is_err_and}
use Rattle.act_sessions.specs.Taking.{Finds}
use Rattle.act_sessions.proofs.Heard.{read_failed}
use Rattle.act_sessions.proofs.input.await_request.Goals as goal

pub returns-in_err-read_more : goal.returns-in_err-read_more
returns-in_err-read_more g c =
    let rules = g.P.Protocol.rules in
    let held = c.args.held.now in
    let before = c.pieces.invariant in
    let more = c.in_err-read_more.ensures.err in
    let e = c.in_err-read_more.field-0.0 in
    let p = err_from_is_err_and c.from_residual-in_err-read_more.result c.from_residual-in_err-read_more.ensures.1 in
    let next : Finds rules c.pieces.held c.next_request.new.self (Ok None) = rw c.in_default.is at c.in_ok-request.ensures in
    let short : length (held ++ (before.0 ++ more.0)) ≤ rules.limit =
    let a = length-append held (before.0 ++ more.0) in
    let b = length-append before.0 more.0 in
    let d = length-append held before.0 in
    let e = ap length before.2 in
    let kept = ap length next.2 in
    let f = more.2 in
    let h = c.limit.ensures in
    omega arith in
    let all : length (held ++ before.0) ≤ rules.limit = let e = ap length before.2 in omega arith in
    let waits = subst rules.waits before.2 next.0 in
    rw (p.1, p.2)
    (read_failed rules (g.R.Read.remaining c.args.reader.now) (g.R.Read.remaining c.pieces.reader) (g.R.Read.remaining c.read_more.new.reader) held before.0 more.0
    c.read_more.new.held e before.1 more.1 short all waits c.in_err-read_more.ensures.broken)
