use Rattle.std.proofs.Common.{◌≡◌, take}
use Rattle.client_loop.specs.Events.{Plays, Survives}
use Rattle.client_loop.specs.Slots.{by_port}
use Rattle.client_loop.proofs.playing.play.Given as goal

abbrev pub invariant-loop-event : goal.invariant-loop-event
invariant-loop-event g l =
    let disk = g.D.Disk in
    Plays (Survives disk.honest disk.moment disk.images_since) (by_port l.fn.service.slots.hooks g.P.Protocol.rules g.Q.Protocol.rules) l.fn.service
    (take l.event-index l.events) l.service
    × (l.service.slots.hooks ≡ l.fn.service.slots.hooks)
