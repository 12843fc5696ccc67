use Rattle.std.proofs.Common.{◌≡◌, ◌∙◌, Some, ap, drop, inr, sym}
use Rattle.std.specs.List.{position}
use Rattle.std.proofs.lemmas.List.{take_rest}
use Rattle.webhook_sessions.proofs.HeadLines.{is_feed, lines_go_on}
use Rattle.webhook_sessions.proofs.head_lines.read_on.Goals as goal

pub lines-preserved : goal.lines-preserved
lines-preserved c =
    let rest = drop c.lines.known.read c.args.bytes.now in
    let found : position is_feed rest ≡ Some c.in-Some.offset =
    ap (position is_feed) (sym (take_rest c.args.bytes.now c.lines.known.read)) ∙ sym c.line_feed_index.ensures ∙ c.in-Some.is in
    lines_go_on c.args.bytes.now c.lines.known c.in-Some.offset c.lines.invariant found

pub returns : goal.returns
returns c = inr c.lines.invariant.0
