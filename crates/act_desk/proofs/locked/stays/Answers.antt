use Rattle.act_disk.proofs.Moments.{started}
use Rattle.act_store.specs.StoreState.{RecoversToEither}
use Rattle.act_desk.proofs.locked.stays.Goals as goal

pub returns : goal.returns
returns g c =
    let disk = g.D.Disk in
    let s = c.args.store.now in
    λ honest. started disk.moment disk.images_since s.disk (RecoversToEither s)
    (λ i left. c.covered.ensures.promise honest i (g.met.D.Disk.only_now s.disk honest i left))
