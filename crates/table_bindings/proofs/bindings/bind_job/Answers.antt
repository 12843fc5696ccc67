use Rattle.std.proofs.Common.{subst}
use Rattle.std.specs.Prelude.{IfSome, List}
use Rattle.wf_expr.specs.declared.piece.Piece.{Piece}
use Rattle.table_bindings.specs.PlainLabels.{AreTheTexts}
use Rattle.table_bindings.proofs.bindings.bind_job.Goals as goal

pub returns-clause-says : goal.returns-clause-says
returns-clause-says c = record {
  groups = c.in_ok-groups.ensures.says;
  labels = c.in_ok-labels.ensures.kept;
  plain = subst (λ (labels : List (List Piece)). IfSome c.in_ok-plain.plain (AreTheTexts labels)) c.as_slice.ensures c.in_ok-plain.ensures.texts;
  flags = c.in_ok-flags.ensures.says;
}
