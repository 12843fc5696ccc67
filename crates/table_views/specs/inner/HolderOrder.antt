-- The order of a table's runs and legs: all runs first, and then the legs, by run, job and index.
use Rattle.std.specs.Prelude.{Bool, true, false, ◌&&◌, ◌||◌, nat_eq, nat_lt, Option}
use Rattle.std.specs.Option.{option_map_or}
use Rattle.table_model.specs.declared.holder.Holder.{Holder}
use Rattle.table_model.specs.declared.holder.Holder.TheVariants.{Run, Leg}
use Rattle.table_model.specs.declared.sites.LegSite.{LegSite}

abbrev pub is_site_before : LegSite → LegSite → Bool
is_site_before p q =
    nat_lt p.run q.run || (nat_eq p.run q.run && (nat_lt p.job q.job || (nat_eq p.job q.job && nat_lt p.leg q.leg)))

abbrev pub is_before : Holder → Holder → Bool
is_before (Run r) (Run s) = nat_lt r s
is_before (Run r) (Leg q) = true
is_before (Leg p) (Run s) = false
is_before (Leg p) (Leg q) = is_site_before p q

-- whether another one comes before
abbrev pub is_earlier : Holder → Option Holder → Bool
is_earlier h o = option_map_or (λ k. is_before k h) o false
