use Rattle.std.proofs.Common.{refl}
use Rattle.gated_journal.proofs.record_laws.none_is_parted_at_first.Goals as goal

pub returns : goal.returns
returns c = λ bytes. record { split = refl; short = _ }
