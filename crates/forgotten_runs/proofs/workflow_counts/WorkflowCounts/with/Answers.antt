use Rattle.std.specs.Prelude.{◌≡◌, ◌++◌, ◌∷◌, [], List, sum_by}
use Rattle.std.proofs.Common.{arith, ap, sym, take, ◌∙◌}
use Rattle.std.proofs.lemmas.List.{take_more}
use Rattle.wf_value.proofs.PassedOn.{same_Ok}
use Rattle.definitions.specs.SmallText.{Admitted}
use Rattle.table_model.specs.Forgotten.{WorkflowCount, counted, next_count, put_in_order, workflow_order}
use Rattle.table_model.specs.Runs.{RunState}
use Rattle.forgotten_runs.proofs.CountIndexes.{counted_more}
use Rattle.forgotten_runs.proofs.workflow_counts.WorkflowCounts.with.Goals as goal

pub loop-run-preserved : goal.loop-run-preserved
loop-run-preserved c =
    let runs = c.args.runs.now in
    let before = c.args.self.now in
    let i = c.loop-run.run-index in
    let run = c.run-item.result in
    let put : List WorkflowCount → Admitted → List WorkflowCount = λ cs event. put_in_order workflow_order cs (next_count cs event) in
    let sum = c.in_ok-count.ensures.sum in
    record {
      counts = sym (same_Ok _ _ c.in_ok-count.ensures.counts)
          ∙ ap (λ (e : Admitted). put c.loop-run.counts e) c.prepared.ensures
          ∙ ap (λ (cs : List WorkflowCount). put cs run.admitted) c.loop-run.invariant.counts
          ∙ sym (counted_more before (take i runs) run)
          ∙ ap (counted before) (ap (λ (x : RunState). take i runs ++ x ∷ []) c.run-item.is ∙ sym (take_more runs i run (omega arith)));
      sum = omega (arith, sum, c.loop-run.invariant.sum);
    }
