use Rattle.std.proofs.Common.{◌≡◌, ℕ, ◌<◌, ◌&&◌, not, false, None, get_or, map}
use Rattle.needs_graph.specs.Needs.{is_ancestor, has_succeeded}
use Rattle.needs_graph.proofs.graph.Graph.all_ancestors_succeeded.Given as goal

-- every ancestor so far has succeeded
abbrev pub invariant-loop-other : goal.invariant-loop-other
invariant-loop-other g l =
    (k : ℕ) → k < l.other
    → (is_ancestor l.self l.job k && not (has_succeeded (get_or (map g.J.HasResult.job_result l.jobs) k None))) ≡ false
