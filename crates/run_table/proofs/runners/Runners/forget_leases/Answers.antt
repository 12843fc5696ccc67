use Rattle.std.proofs.Common.{List, ap, subst, ◌∙◌}
use Rattle.table_model.specs.TableState.{RunnerState, names_rise}
use Rattle.settling_laws.proofs.RunnersThrough.{names_through}
use Rattle.run_table.specs.inner.RunnerSizes.{AreSized}
use Rattle.run_table.proofs.runners.Runners.forget_leases.Goals as goal

pub invariant_of-self : goal.invariant_of-self
invariant_of-self c = (
  ap names_rise c.forget_leases_of.ensures ∙ names_through c.args.through c.self.inside.runners.items ∙ c.self.invariant.0,
  subst (λ (rs : List RunnerState). AreSized rs c.all_sizes-self-inside.result) c.deref.ensures.value c.all_sizes-self-inside.ensures,
)
