use Rattle.std.proofs.Common.{refl, sym}
use Rattle.std.specs.Prelude.{None}
use Rattle.client_loop.proofs.PendingPart.{entry_at, no_entry}
use Rattle.client_loop.proofs.sending.is_under.Goals as goal

pub returns-in-Some : goal.returns-in-Some
returns-in-Some g c = (c.in-Some.entry.now, sym (entry_at c.args.store.now.history c.args.position _ c.in-Some.ensures), refl)

pub returns-in-None : goal.returns-in-None
returns-in-None g c =
    absurd (no_entry c.args.store.now.history c.args.position c.requires.within (sym (entry_at c.args.store.now.history c.args.position None c.in-None.ensures)))
