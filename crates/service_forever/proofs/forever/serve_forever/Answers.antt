use Rattle.std.proofs.Common.{rules, ◌≡◌, subst, sym}
use Rattle.act_store.specs.Images.{RecoversTo}
use Rattle.service_forever.proofs.forever.serve_forever.Goals as goal

-- the disk and the first table of the service are those of the store that was brought up
pub serve-requires-clause-base : goal.serve-requires-clause-base
serve-requires-clause-base g c = λ honest.
    let disk : c.deref_mut.result.now.service.store.disk ≡ c.in_ok-store.store.disk = search rules in
    let base : c.deref_mut.result.now.service.origin ≡ c.args.store.base = search rules in
    subst (λ t. RecoversTo t g.D.Opened.opened) (sym base) (c.requires.base (c.in_ok-store.ensures.honest (subst g.D.Disk.honest disk honest)))
