use Rattle.stored_tables.proofs.DeliveriesFound.{IsFoundAt}
use Rattle.table_model.proofs.OneAfterAnother.{SoFar}
use Rattle.stored_tables.proofs.sound.deliveries.do_deliveries_differ.Given as goal

-- a look-up by delivery finds each run so far, and no kept delivery is its
abbrev pub invariant-loop-r : goal.invariant-loop-r
invariant-loop-r l = SoFar (IsFoundAt l.forgotten.deliveries l.runs) l.runs l.r
