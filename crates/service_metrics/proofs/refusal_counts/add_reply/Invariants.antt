use Rattle.std.proofs.Common.{◌≡◌, ◌++◌, map, take, drop}
use Rattle.service_metrics.specs.Refusals.{with_reply}
use Rattle.service_metrics.proofs.refusal_counts.add_reply.Given as goal

-- the reply is counted in the counts so far, and the others are unchanged
abbrev pub invariant-loop-count : goal.invariant-loop-count
invariant-loop-count l =
    l.counts ≡ map (with_reply l.reply) (take l.count-index l.initial.counts) ++ drop l.count-index l.initial.counts
