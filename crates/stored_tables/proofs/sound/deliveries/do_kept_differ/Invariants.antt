use Rattle.stored_tables.proofs.DeliveriesFound.{IsKeptAt}
use Rattle.table_model.proofs.OneAfterAnother.{SoFar}
use Rattle.stored_tables.proofs.sound.deliveries.do_kept_differ.Given as goal

-- a look-up by each kept delivery so far finds it
abbrev pub invariant-loop-k : goal.invariant-loop-k
invariant-loop-k l = SoFar (IsKeptAt l.forgotten.deliveries) l.forgotten.deliveries l.k
