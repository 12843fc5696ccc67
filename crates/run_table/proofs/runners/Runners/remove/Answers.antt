use Rattle.std.specs.Prelude.{◌≡◌, ◌-◌, List, not, true}
use Rattle.std.specs.Option.{is_some}
use Rattle.std.proofs.Common.{arith, ap, subst, sym, ◌∙◌}
use Rattle.table_model.specs.TableState.{RunnerState, is_named, names_rise, runner_named}
use Rattle.run_table.specs.inner.RunnerSizes.{AreSized}
use Rattle.run_table.proofs.RunnerOrder.{rise_filtered}
use Rattle.run_table.proofs.RunnerSizes.{size_of, size_of_named, sized_without}
use Rattle.run_table.proofs.runners.Runners.remove.Goals as goal
use Rattle.run_table.proofs.runners.Runners.remove.Goals.{After-from-size}

-- the size of the runner of that name
its_size : (c : After-from-size) → c.from-size.result ≡ size_of (runner_named c.self.inside.runners.items c.args.name.now)
its_size c =
    c.from-size.ensures ∙ c.size_at.ensures
    ∙ ap (λ (rs : List RunnerState). size_of (runner_named rs c.args.name.now)) (sym c.self.view_is)

pub overflow_sub-self : goal.overflow_sub-self
overflow_sub-self c =
    let was = its_size (goal.at.overflow_sub-self c).After-from-size in
    omega (
      arith,
      was,
      size_of_named c.self.inside.runners.items c.self.invariant.0 c.args.name.now,
      c.self.invariant.1.is,
    )

pub invariant_of-self : goal.invariant_of-self
invariant_of-self c =
    let items = c.self.inside.runners.items in
    let name = c.args.name.now in
    let known =
    subst (λ (rs : List RunnerState). is_some (runner_named rs c.args.name.now) ≡ true) (sym c.self.view_is) c.requires.known in (
      ap names_rise c.take_out.ensures ∙ rise_filtered (λ r. not (is_named name r)) items c.self.invariant.0,
      subst (λ (rs : List RunnerState). AreSized rs (c.self.inside.text - c.from-size.result)) (sym c.take_out.ensures)
          (sized_without items name c.self.inside.text c.from-size.result c.self.invariant.0 known
          (its_size (goal.at.invariant_of-self c).After-from-size) c.self.invariant.1),
    )
