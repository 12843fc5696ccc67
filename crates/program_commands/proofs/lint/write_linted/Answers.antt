use Rattle.std.proofs.Common.{◌∙◌, [], ap, append-nil, inl}
use Rattle.std.proofs.KnownBytes.{Appends-kept}
use Rattle.workflow_lint.specs.Lines.{finding_lines}
use Rattle.program_commands.specs.Lint.{is_any}
use Rattle.program_commands.proofs.Lints.{prefix_linted, slice_is}
use Rattle.program_commands.proofs.lint.write_linted.Goals as goal

pub returns-in_err-flush : goal.returns-in_err-flush
returns-in_err-flush g c =
    let lines = finding_lines c.as_slice.result.now in
    let found = slice_is c.args.text.now c.in_ok-found.found.items c.as_slice.result.now c.in_ok-found.ensures c.as_slice.ensures.value in
    prefix_linted c.args.text.now lines (g.W.Write.contents c.args.writer.now) (g.W.Write.contents c.flush.new.writer)
    c.from_residual-in_err-flush.result c.in_err-flush.field-0.0 c.from_residual-in_err-flush.ensures.1 (ap finding_lines found)
    (inl c.in_err-flush.ensures.err)
    (lines, [], Appends-kept _ _ _ lines c.in_ok-write_lines.ensures c.in_err-flush.ensures.kept, append-nil lines)

pub returns : goal.returns
returns g c =
    let lines = finding_lines c.as_slice.result.now in
    let found = slice_is c.args.text.now c.in_ok-found.found.items c.as_slice.result.now c.in_ok-found.ensures c.as_slice.ensures.value in
    let all = slice_is c.args.text.now c.in_ok-found.found.items c.as_slice-2.result.now c.in_ok-found.ensures c.as_slice-2.ensures.value in (
      lines,
      Appends-kept _ _ _ lines c.in_ok-write_lines.ensures c.in_ok-flush.ensures.kept,
      (ap finding_lines found, c.is_any.ensures ∙ ap is_any all),
    )
