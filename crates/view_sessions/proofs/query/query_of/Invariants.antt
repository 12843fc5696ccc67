use Rattle.std.proofs.Common.{◌≡◌, map}
use Rattle.std.specs.Prelude.{Ok}
use Rattle.view_sessions.specs.Queries.{all_added, no_query}
use Rattle.view_sessions.proofs.query.query_of.Given as goal

-- the query has the parts so far, none of which has a fault
abbrev pub invariant-loop-part : goal.invariant-loop-part
invariant-loop-part l = all_added l.path (Ok no_query) (map (λ p. p.now) l.yielded) ≡ Ok l.query
