use Rattle.std.proofs.Common.{◌≡◌, ℕ, ◌++◌, map, take}
use Rattle.std.specs.Prelude.{filter_map}
use Rattle.table_model.specs.Runs.{placed, RunState}
use Rattle.table_views.specs.inner.Claims.{claim_of, said}
use Rattle.table_views.proofs.groups.claims_of.Given as goal
use Rattle.table_model.specs.declared.holder.Holder.TheVariants.{Run, Leg}

-- the claims of the runs so far
abbrev pub invariant-loop-r : goal.invariant-loop-r
invariant-loop-r l =
    map said l.claims.items ≡ filter_map (claim_of l.runs) (map (λ (x : ℕ × RunState). Run x.0) (placed (take l.r l.runs)))

-- the claims of all runs and of the legs so far
abbrev pub invariant-loop-site : goal.invariant-loop-site
invariant-loop-site l =
    map said l.claims.items
    ≡ filter_map (claim_of l.runs) (map (λ (x : ℕ × RunState). Run x.0) (placed l.runs)
    ++ map (λ p. Leg p) (take l.site-index l.sites))
