use Rattle.std.proofs.Common.{◌≡◌, subst}
use Rattle.std.specs.Prelude.{length}
use Rattle.std.specs.Option.{option_map_or}
use Rattle.table_bindings.specs.Bindings.{RunSays}
use Rattle.table_bindings.specs.BoundGroups.{results_by_index}
use Rattle.table_bindings.specs.GroupKeys.{AllAreLater, decided}
use Rattle.table_bindings.specs.LabelNumbers.{AreListsOf}
use Rattle.table_bindings.specs.declared.bindings.RunBindings.{RunBindings}
use Rattle.table_bindings.specs.declared.group_keys.HolderKey.TheVariants.{NoGroup}
use Rattle.table_bindings.proofs.bindings.bind_identity.Goals as goal
use Rattle.wf_value.proofs.PassedOn.{same_Ok}

pub returns-clause-says : goal.returns-clause-says
returns-clause-says c =
    subst (λ (b : RunBindings). RunSays c.args.identity.now b) (same_Ok _ _ c.in_ok-with_own.ensures)
    (record { own = c.in_ok-own.ensures.says; as_many = c.in_ok-bound.ensures.many; jobs = c.in_ok-bound.ensures.says })

pub returns-clause-own : goal.returns-clause-own
returns-clause-own c =
    subst (λ (b : RunBindings). b.keys.own ≡ option_map_or (decided (results_by_index c.args.run.now)) b.own NoGroup) (same_Ok _ _ c.in_ok-with_own.ensures)
    c.in_ok-key.ensures.own

pub returns-clause-as_many : goal.returns-clause-as_many
returns-clause-as_many c =
    subst (λ (b : RunBindings). length b.keys.jobs ≡ length b.jobs) (same_Ok _ _ c.in_ok-with_own.ensures) c.in_ok-bound.ensures.beside.as_many

pub returns-clause-later : goal.returns-clause-later
returns-clause-later c =
    subst (λ (b : RunBindings). AllAreLater b.jobs b.keys.jobs) (same_Ok _ _ c.in_ok-with_own.ensures) c.in_ok-bound.ensures.beside.later

pub returns-clause-lists : goal.returns-clause-lists
returns-clause-lists c =
    subst (λ (b : RunBindings). AreListsOf c.bind_jobs.new.lists c.args.r b.jobs b.lists) (same_Ok _ _ c.in_ok-with_own.ensures) c.in_ok-bound.ensures.beside.listed
