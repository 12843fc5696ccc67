use Rattle.std.proofs.Common.{◌≡◌, [], List, subst, sym}
use Rattle.std.specs.Prelude.{◌↔◌, IsTrue}
use Rattle.act_store.specs.declared.entry.Entry.{Entry}
use Rattle.client_loop.specs.Entering.{part_of}
use Rattle.client_loop.specs.Service.{ServiceState, pending_of}
use Rattle.client_loop.proofs.PendingPart.{drop_past}
use Rattle.client_loop.proofs.service.Service.may_send.Goals as goal

pub returns : goal.returns
returns g c =
    let f = c.self.inside in
    subst (λ (o : ServiceState g.row.D.Denot). IsTrue c.none_pending.result ↔ (part_of c.args.index (pending_of o) ≡ [])) c.self.view_is
    (subst (λ (l : List Entry). IsTrue c.none_pending.result ↔ (part_of c.args.index l ≡ [])) (sym (drop_past f.past f.store.history f.store.covered))
    c.none_pending.ensures)
