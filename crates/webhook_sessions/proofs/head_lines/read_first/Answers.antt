use Rattle.std.proofs.Common.{◌∙◌, sym}
use Rattle.webhook_sessions.proofs.HeadLines.{first_read}
use Rattle.webhook_sessions.proofs.head_lines.read_first.Goals as goal

pub read_on-requires : goal.read_on-requires
read_on-requires c =
    first_read c.args.bytes.now c.in-Some.offset (c.begin_a_line.ensures c.if-begin_a_line.true) c.requires.none c.requires.may
    (sym c.line_feed_index.ensures ∙ c.in-Some.is)
