use Rattle.std.proofs.Common.{◌≡◌, ℕ, ◌<◌, ◌&&◌, false, None, get_or, map}
use Rattle.needs_graph.specs.Needs.{is_ancestor, has_failed}
use Rattle.needs_graph.proofs.graph.Graph.any_ancestor_failed.Given as goal

-- no ancestor so far has failed
abbrev pub invariant-loop-other : goal.invariant-loop-other
invariant-loop-other g l =
    (k : ℕ) → k < l.other → (is_ancestor l.self l.job k && has_failed (get_or (map g.J.HasResult.job_result l.jobs) k None)) ≡ false
