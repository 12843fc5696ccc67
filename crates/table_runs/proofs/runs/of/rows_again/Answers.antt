use Rattle.std.proofs.Common.{◌≡◌, ◌+◌, ◌++◌, ◌∷◌, [], arith, ap, rules, sym, take, ◌∙◌, get_or}
use Rattle.std.specs.Prelude.{List, length}
use Rattle.std.proofs.lemmas.List.{length-take, take_all, take_more}
use Rattle.definitions.specs.SmallText.{Admitted}
use Rattle.table_model.specs.Runs.{RunState}
use Rattle.wf_value.proofs.PassedOn.{same_Ok}
use Rattle.table_runs.specs.inner.Counted.{number_among}
use Rattle.table_runs.proofs.Stored.{one_more_stored}
use Rattle.table_runs.proofs.runs.of.rows_again.Goals as goal

pub loop-r-init : goal.loop-r-init
loop-r-init c = record {
  runs = c.new-rows.ensures.runs;
  stored = search rules;
  entries = c.requires.empty;
}

pub coming-requires : goal.coming-requires
coming-requires c = omega (arith, ap length c.loop-r.invariant.runs, length-take c.loop-r.r c.args.runs.now)

pub add-requires-clause-number : goal.add-requires-clause-number
add-requires-clause-number c =
    c.in_ok-coming.ensures.number ∙ ap (λ (event : Admitted). number_among c.loop-r.rows.runs event) c.prepared.ensures

pub loop-r-preserved : goal.loop-r-preserved
loop-r-preserved c =
    let runs = c.args.runs.now in
    let r = c.loop-r.r in
    let adds = c.in_ok-add.ensures.adds in
    let run_is = sym (same_Ok _ _ c.in_ok-run.ensures) ∙ c.index-runs-r.is in
    record {
      runs = adds.runs ∙ ap (λ (rs : List RunState). rs ++ c.in_ok-run.run' ∷ []) c.loop-r.invariant.runs
          ∙ ap (λ (x : RunState). take r runs ++ x ∷ []) run_is ∙ sym (take_more runs r c.index-runs-r.result (omega arith));
      stored = one_more_stored _ c.loop-r.rows c.add.new.self c.loop-r.book c.add.new.book c.loop-r.invariant.stored adds.runs
          adds.told adds.tickets adds.older adds.expected;
      entries = adds.entries ∙ c.loop-r.invariant.entries;
    }

pub returns-clause-runs : goal.returns-clause-runs
returns-clause-runs c = c.loop-r.invariant.runs ∙ take_all c.loop-r.r c.args.runs.now (omega arith)
