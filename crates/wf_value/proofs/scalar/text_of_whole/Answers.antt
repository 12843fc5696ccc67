use Rattle.wf_value.proofs.PrintedNumbers.{signed_decimal-filled}
use Rattle.wf_value.proofs.scalar.text_of_whole.Goals as goal

pub returns-in_err-format-clause-filled : goal.returns-in_err-format-clause-filled
returns-in_err-format-clause-filled c = signed_decimal-filled c.args.n c.ranges.n

pub returns-clause-filled : goal.returns-clause-filled
returns-clause-filled c = signed_decimal-filled c.args.n c.ranges.n
