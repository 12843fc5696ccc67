use Rattle.service_rounds.proofs.Held.{served_once}
use Rattle.service_rounds.proofs.serve.serve_on.Goals as goal

pub returns : goal.returns
returns g c =
    let history = c.in_ok-store.store.history in
    let once = served_once c.args.hooks.now c.args.runners.now c.args.sessions (g.O.Write.contents c.args.out.now)
    (g.O.Write.contents c.serve_rounds.new.out) c.args.store.base c.in_ok-store.store.base history c.in_ok-store.ensures.served in
    record { served = (history, c.entries.ensures, once.0, once.1) }
