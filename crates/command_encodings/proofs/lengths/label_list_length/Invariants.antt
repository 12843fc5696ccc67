use Rattle.std.proofs.Common.{◌≡◌, ◌≤◌, ◌*◌, take}
use Rattle.std.specs.Prelude.{sum_by}
use Rattle.command_encodings.specs.Lengths.{text_length}
use Rattle.command_encodings.proofs.lengths.label_list_length.Given as goal

-- the labels so far have been counted, with at most 68 bytes each
abbrev pub invariant-loop-label : goal.invariant-loop-label
invariant-loop-label l = record {
  length : l.total ≡ sum_by text_length (take l.label-index l.list);
  most : l.total ≤ 68 * l.label-index;
}
