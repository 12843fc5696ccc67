use Rattle.std.proofs.Common.{◌≡◌, ◌++◌, map, take}
use Rattle.std.specs.Prelude.{filter_map}
use Rattle.table_model.specs.declared.holder.Holder.TheVariants.{Leg}
use Rattle.table_views.specs.HolderPages.{row_of_holder}
use Rattle.table_views.proofs.group_holders.push_legs.Given as goal

-- the rows of the legs so far
abbrev pub invariant-loop-site : goal.invariant-loop-site
invariant-loop-site l =
    l.rows.items ≡ l.initial.rows.items ++ filter_map (row_of_holder l.filter l.runs) (map (λ p. Leg p) (take l.site-index l.sites))
