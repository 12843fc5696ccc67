-- The run of a holder.
use Rattle.std.specs.Prelude.{ℕ}
use Rattle.table_model.specs.declared.holder.Holder.{Holder}
use Rattle.table_model.specs.declared.holder.Holder.TheVariants.{Run, Leg}

-- the index of its run
abbrev pub run_of : Holder → ℕ
run_of (Run r) = r
run_of (Leg p) = p.run
