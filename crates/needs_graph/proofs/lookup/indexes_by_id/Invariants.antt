use Rattle.std.proofs.Common.{ℕ, List, take}
use Rattle.std.specs.Str.{bytes_eq}
use Rattle.std.specs.HashMap.{get_by}
use Rattle.needs_graph.specs.inner.Lookup.{Finds}
use Rattle.needs_graph.proofs.lookup.indexes_by_id.Given as goal

-- the jobs so far are found
abbrev pub invariant-loop-index : goal.invariant-loop-index
invariant-loop-index l = (id : List ℕ) → Finds (take l.index l.jobs) id (get_by (λ k. bytes_eq id k.now) l.indexes)
