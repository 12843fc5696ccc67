use Rattle.std.proofs.Common.{take}
use Rattle.act_store.specs.Steps.{Plays, Survives}
use Rattle.act_store.proofs.playing.take_all.Given as goal

abbrev pub invariant-loop-step : goal.invariant-loop-step
invariant-loop-step g l =
    let disk = g.D.Disk in
    Plays (Survives disk.honest disk.moment disk.fault_count disk.images_since) l.fn.store (take l.step-index l.steps)
    l.answers.items l.store
