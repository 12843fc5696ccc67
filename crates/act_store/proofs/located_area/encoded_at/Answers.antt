use Rattle.std.proofs.Common.{rules}
use Rattle.gated_journal.specs.Choice.{part}
use Rattle.act_store.proofs.EncodedAlike.{found_alike}
use Rattle.act_store.proofs.Encoding.{sound_encoded}
use Rattle.act_store.proofs.located_area.encoded_at.Goals as goal

pub returns-clause-encoded : goal.returns-clause-encoded
returns-clause-encoded g c =
    found_alike c.as_slice.result.now (part c.args.area.start c.args.area.len (g.D.Disk.seen c.args.disk.now)) c.encoded_in.result
    (λ honest. search rules) c.encoded_in.ensures.encoded

pub returns-clause-sound : goal.returns-clause-sound
returns-clause-sound g c = sound_encoded c.as_slice.result.now c.encoded_in.result c.encoded_in.ensures.encoded
