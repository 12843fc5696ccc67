use Rattle.std.proofs.Common.{◌≡◌, take}
use Rattle.service_views.specs.HeardTimes.{longest_silence}
use Rattle.service_views.proofs.kept.Kept.longest_silence.Given as goal

abbrev pub invariant-loop-runner : goal.invariant-loop-runner
invariant-loop-runner l = l.longest ≡ longest_silence l.self l.now (take l.runner-index l.runners)
