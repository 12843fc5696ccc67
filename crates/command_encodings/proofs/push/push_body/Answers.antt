use Rattle.std.proofs.Common.{◌<◌, ◌^◌, ℕ, List, length, subst, sym}
use Rattle.command_encodings.proofs.Known.{faultless_fits}
use Rattle.command_encodings.proofs.push.push_body.Goals as goal

pub push_text-requires : goal.push_text-requires
push_text-requires c =
    subst (λ (l : List ℕ). length l < 2 ^ 32) (sym c.body.ensures.bytes) (faultless_fits c.args.event.now.body c.body.ensures.faultless).0

pub returns-clause-takes : goal.returns-clause-takes
returns-clause-takes c = faultless_fits c.args.event.now.body c.body.ensures.faultless
