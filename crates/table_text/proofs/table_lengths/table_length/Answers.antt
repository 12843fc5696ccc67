use Rattle.std.proofs.Common.{◌≡◌, ap, arith, ◌∙◌}
use Rattle.std.specs.Prelude.{sum_by}
use Rattle.stored_tables.specs.Stored.{stored_table}
use Rattle.table_runs.specs.StoredSizes.{run_size}
use Rattle.table_text.specs.TableLengths.{forgotten_length, run_length, runner_length}
use Rattle.table_text.proofs.TableLengthLaws.{length_table, run_sizes, runner_sizes}
use Rattle.table_text.proofs.table_lengths.table_length.Goals as goal

pub returns : goal.returns
returns c =
    let t = c.args.stored.now in
    let runs : c.text_size-runs.result ≡ sum_by run_length (stored_table t).runs =
    c.text_size-runs.ensures.size ∙ ap (sum_by run_size) c.kept_runs.ensures.runs ∙ run_sizes t.runs in
    let runners : c.size_of_runners.result ≡ sum_by runner_length (stored_table t).runners = c.size_of_runners.ensures.size ∙ runner_sizes t.runners in
    let gone : c.forgotten_length-forgotten.result ≡ forgotten_length t.forgotten =
    c.forgotten_length-forgotten.ensures.length ∙ ap forgotten_length c.forgotten.ensures.forgotten in
    omega (arith, runs, runners, gone, length_table (stored_table t))
