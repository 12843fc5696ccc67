use Rattle.std.proofs.Common.{◌≡◌, ◌+◌, ◌-◌, ◌<◌, ◌∙◌, sym, length, take, drop, arith}
use Rattle.std.proofs.lemmas.Bool.Decides.{nat_tests}
use Rattle.std.proofs.lemmas.Grind.{common_steps}
use Rattle.program_commands.proofs.CutLines.{lines_at_feed, lines_without_feed}
use Rattle.program_commands.proofs.lines.first_line.Goals as goal

pub returns-in-Some-clause-lines : goal.returns-in-Some-clause-lines
returns-in-Some-clause-lines c =
    let w = c.args.text.now in
    let after = c.in-Some.offset + 1 in
    let first = lines_at_feed w c.in-Some.offset (sym c.line_feed_index.ensures ∙ c.in-Some.is) in
    let all : take (length w - after) (drop after w) ≡ drop after w = grind (arith, common_steps) in
    let stripped = c.strip_carriage_return.ensures in
    rw (all, stripped) first

pub returns-in-None-clause-lines : goal.returns-in-None-clause-lines
returns-in-None-clause-lines c =
    let some : 0 < length c.args.text.now = grind (arith, nat_tests) in
    lines_without_feed c.args.text.now some (sym c.line_feed_index.ensures ∙ c.in-None.is)
