use Rattle.std.proofs.Common.{ap, Ok}
use Rattle.group_name.proofs.Folding.{spelled, text_of_string}
use Rattle.group_name.proofs.group_key.folded.Goals as goal

pub returns-clause-gives : goal.returns-clause-gives
returns-clause-gives c = ap Ok (spelled c.in_ok-folding.folding c.args.name.now c.new.result c.new.ensures c.in_ok-folding.ensures)

pub returns-clause-utf8 : goal.returns-clause-utf8
returns-clause-utf8 c = text_of_string c.in_ok-folding.folding c.new.result c.new.ensures
