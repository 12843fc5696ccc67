-- Properties of an ancestor.
use Rattle.std.proofs.Common.{◌≡◌, ◌≢◌, ◌↔◌, ℕ, ◌<◌, List, true, length, sym, ap, ◌∙◌}
use Rattle.std.proofs.lemmas.Bool.{true≢false}
use Rattle.needs_graph.specs.Needs.{HasWalk, is_ancestor, IsGraph}
use Rattle.needs_graph.proofs.Walks.{walk_from_is_ancestor, is_ancestor-from_walk, walk_end_below}

module _ (needs ancestors dependents : List (List ℕ)) (graph : IsGraph needs ancestors dependents) (job other : ℕ) where
  pub ends_a_walk : (is_ancestor needs job other ≡ true) ↔ HasWalk needs job other
  ends_a_walk = (walk_from_is_ancestor needs job other, is_ancestor-from_walk needs graph.within job other)

  pub is_a_job : is_ancestor needs job other ≡ true → other < length needs
  is_a_job h = let walk = walk_from_is_ancestor needs job other h in walk_end_below needs graph.within walk.0 job other walk.1

  pub is_another : is_ancestor needs job other ≡ true → other ≢ job
  is_another h same = true≢false (sym h ∙ (ap (is_ancestor needs job) same ∙ graph.acyclic job))
