use Rattle.std.proofs.Common.{◌≡◌, take}
use Rattle.service_views.specs.Shown.{seconds_of}
use Rattle.service_views.proofs.kept.Kept.seconds_of.Given as goal

abbrev pub invariant-loop-runner : goal.invariant-loop-runner
invariant-loop-runner l = l.seconds.items ≡ seconds_of l.self l.now (take l.runner-index l.runners)
