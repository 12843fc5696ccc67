use Rattle.std.proofs.Common.{◌≡◌, ◌∙◌, ◌<◌, ◌≤◌, ◌+◌, ◌++◌, [], length, refl, ap, subst, arith}
use Rattle.std.specs.Io.KnownBytes.{Appends}
use Rattle.std.proofs.KnownBytes.{Appends-nil, Appends-trans}
use Rattle.table_model.specs.TableState.{TableState}
use Rattle.table_model.specs.ViewText.{seen_of}
use Rattle.table_views.specs.RunLines.{run_line}
use Rattle.program_commands.specs.Show.{lines_of}
use Rattle.program_commands.proofs.Showing.{after_run, lines_after, past_last}
use Rattle.program_commands.proofs.Writing.{more_written, past_part, stopped}
use Rattle.program_commands.proofs.show.write_views.Goals as goal

pub loop-index-init : goal.loop-index-init
loop-index-init g c = ([], Appends-nil (g.W.Write.contents c.args.writer.now), refl)

pub loop-index-preserved : goal.loop-index-preserved
loop-index-preserved g c =
    let so_far = c.loop-index.invariant in
    let form = c.args.form in
    let runs = c.runs-runs.result.now in
    let index = c.loop-index.index in
    let run = c.index-runs-index.result in
    let line = run_line form (seen_of run) in
    let within : index < length runs = omega (arith, c.loop-index-test.true) in
    let written = rw c.of.ensures at c.in_ok-write_view.ensures in (
      so_far.0 ++ line,
      Appends-trans _ _ _ so_far.0 line so_far.1 written,
      past_part so_far.0 line (lines_after form runs (index + 1)) (lines_of form runs)
          (after_run form runs so_far.0 index run within c.index-runs-index.is so_far.2),
    )

pub returns-in_err-write_view : goal.returns-in_err-write_view
returns-in_err-write_view g c =
    let so_far = c.loop-index.invariant in
    let form = c.args.form in
    let runs = c.runs-runs.result.now in
    let index = c.loop-index.index in
    let run = c.index-runs-index.result in
    let within : index < length runs = omega (arith, c.loop-index-test.true) in
    let written = rw c.of.ensures at c.in_err-write_view.ensures in
    let all : lines_of form runs ≡ lines_of form _ = ap (lines_of form) (c.runs-runs.ensures.runs ∙ ap (λ (t : TableState). t.runs) c.table.ensures) in
    rw (← all)
    (stopped _ _ (lines_of form runs) _ c.in_err-write_view.field-0.0 c.from_residual.ensures.1 written.0
    (more_written _ _ _ so_far.0 (run_line form (seen_of run)) (lines_after form runs (index + 1)) (lines_of form runs) so_far.1
    (after_run form runs so_far.0 index run within c.index-runs-index.is so_far.2)
    written.1))

pub returns : goal.returns
returns g c =
    let so_far = c.loop-index.invariant in
    let form = c.args.form in
    let runs = c.runs-runs.result.now in
    let past : length runs ≤ c.loop-index.index = omega (arith, c.loop-index-test.false) in
    let all = ap (lines_of form) (c.runs-runs.ensures.runs ∙ ap (λ (t : TableState). t.runs) c.table.ensures) in
    subst (Appends _ _) (past_last form runs so_far.0 c.loop-index.index past so_far.2 ∙ all) so_far.1
