use Rattle.std.proofs.Common.{arith}
use Rattle.std.proofs.lemmas.Map.Text.{text_keys}
use Rattle.forgotten_runs.proofs.delivery_indexes.DeliveryIndexes.keep.Goals as goal

pub returns : goal.returns
returns c = λ other. grind (arith, text_keys)
