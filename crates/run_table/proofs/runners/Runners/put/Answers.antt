use Rattle.std.proofs.Common.{◌≡◌, List, ℕ, ap, arith, sym, ◌∙◌}
use Rattle.wf_value.proofs.PassedOn.{same_Ok}
use Rattle.table_model.specs.TableState.{runner_named, with_runner, RunnerState}
use Rattle.run_table.proofs.RunnerOrder.{put_keeps_order}
use Rattle.run_table.proofs.RunnerSizes.{size_most, size_of, size_within, sized_with}
use Rattle.run_table.proofs.runners.Runners.put.Goals as goal
use Rattle.run_table.proofs.runners.Runners.put.Goals.{After-from-before}

-- the size of the runner of that name that was there
its_size : (c : After-from-before) → c.from-before.result ≡ size_of (runner_named c.self.inside.runners.items c.args.runner.name)
its_size c =
    let name : c.runner.inside.name ≡ c.args.runner.name = ap (λ (r : RunnerState). r.name) c.runner.view_is in
    c.from-before.ensures ∙ c.size_at.ensures
    ∙ ap (λ (n : List ℕ). size_of (runner_named c.args.self.now n)) name
    ∙ ap (λ (rs : List RunnerState). size_of (runner_named rs c.args.runner.name)) (sym c.self.view_is)

pub overflow_sub-self : goal.overflow_sub-self
overflow_sub-self c =
    let was = its_size (goal.at.overflow_sub-self c).After-from-before in
    omega (arith, was, size_within c.self.inside.runners.items c.self.invariant.0 c.args.runner, c.self.invariant.1.is)

pub overflow_add-self : goal.overflow_add-self
overflow_add-self c =
    let v = c.self.inside.runners in
    omega (
      arith,
      size_most v.items c.self.inside.text c.self.invariant.1,
      c.from-after.ensures,
      c.text_size.ensures.most,
      v.ok.0,
      v.ok.1,
      v.small,
    )

pub invariant_of-self-2 : goal.invariant_of-self-2
invariant_of-self-2 c =
    let items = c.self.inside.runners.items in
    let new = c.put_in.new.runners.items in
    let is : new ≡ with_runner items c.args.runner = sym (same_Ok (with_runner items c.args.runner) new c.in_ok-put_in.ensures.put) in
    let was = its_size (goal.at.invariant_of-self-2 c).After-from-before in (
      put_keeps_order items new c.args.runner c.put_in.result c.self.invariant.0 c.put_in.ensures.put c.put_in.ensures.err,
      sized_with items new c.args.runner c.self.inside.text c.from-before.result c.from-after.result c.self.invariant.0 is was
          (c.from-after.ensures ∙ c.text_size.ensures.size) (omega (arith, c.from-after.ensures, c.text_size.ensures.most)) c.self.invariant.1,
    )
