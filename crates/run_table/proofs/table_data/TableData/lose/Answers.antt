use Rattle.std.specs.Prelude.{◌≡◌, ℕ, List, Some}
use Rattle.std.proofs.Common.{ap, sym, ◌∙◌}
use Rattle.table_model.specs.TableState.{RunnerState, TableState, runner_named}
use Rattle.run_table.specs.inner.IndexNamed.{index_named}
use Rattle.run_table.proofs.BeforeSettling.{lost_may_settle}
use Rattle.run_table.proofs.HeldAtWork.{held_at_work}
use Rattle.run_table.proofs.RunnerPut.{has_the_name}
use Rattle.run_table.proofs.table_data.TableData.lose.Goals as goal
use Rattle.wf_value.proofs.PassedOn.{same_Ok}

pub end_lost-requires : goal.end_lost-requires
end_lost-requires c =
    let name = c.args.name.now in
    let named : runner_named c.args.self.now.runners name ≡ Some c.in-Some.runner.now =
    ap (λ (t : TableState). runner_named t.runners name) (sym c.self.view_is)
    ∙ sym c.in-Some.ensures in
    let holds : c.in-Some.runner.now.holds ≡ Some c.in-Some-holds.lease =
    ap (λ (r : RunnerState). r.holds) (sym c.runner.view_is) ∙ c.in-Some-holds.is in
    let may = lost_may_settle c.args.self.now name c.in-Some.runner.now c.in-Some-holds.lease c.requires named holds in
    let same = sym (has_the_name c.args.self.now.runners name c.in-Some.runner.now named)
    ∙ ap (λ (r : RunnerState). r.name) (same_Ok _ _ c.in_ok-runner-in-Some-holds.ensures) in
    record {
      sound = c.requires;
      index = c.index_named-index.ensures ∙ ap (λ (t : TableState). index_named t.runners name) c.self.view_is
          ∙ ap (λ (n : List ℕ). index_named c.args.self.now.runners n) same;
      work = held_at_work c.args.self.now name c.in-Some.runner.now c.in-Some-holds.lease c.requires named holds;
      ends = may.sound;
    }
