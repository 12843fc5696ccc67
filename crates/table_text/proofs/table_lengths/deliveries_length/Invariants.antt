use Rattle.std.proofs.Common.{◌≡◌, ◌≤◌, ◌*◌, take}
use Rattle.std.specs.Prelude.{sum_by}
use Rattle.command_encodings.specs.Lengths.{text_length}
use Rattle.table_text.proofs.table_lengths.deliveries_length.Given as goal

-- the deliveries so far are counted
abbrev pub invariant-loop-delivery : goal.invariant-loop-delivery
invariant-loop-delivery l = record {
  length : l.total ≡ sum_by text_length (take l.delivery-index l.deliveries);
  most : l.total ≤ 68 * l.delivery-index;
}
