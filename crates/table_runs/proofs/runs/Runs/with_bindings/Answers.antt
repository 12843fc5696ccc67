use Rattle.std.proofs.Common.{ap, ◌∙◌, refl}
use Rattle.table_model.specs.Groups.{run_facts_at}
use Rattle.table_runs.specs.declared.runs.Runs.TheInside.{Inside}
use Rattle.table_runs.proofs.ReadThere.{read_there}
use Rattle.table_runs.proofs.runs.Runs.with_bindings.Goals as goal

pub returns-clause-says : goal.returns-clause-says
returns-clause-says c = λ facts leg_facts.
    let bindings = c.in_ok-bindings.bindings.now in
    let rows = c.self-inside.inside.0.0 in
    let r = c.args.r in
    c.self-inside.invariant.0.bound.each r facts bindings
    (ap (λ (w : Inside). run_facts_at w.rows.runs r) c.self-inside.view_is ∙ ap (λ runs. run_facts_at runs r) c.self.view_is ∙ leg_facts)
    (read_there rows.bindings.items c.deref-2.result.now r r bindings refl c.deref-2.ensures.value
    c.in_ok-bindings.ensures.lookup.3.0 c.in_ok-bindings.ensures.lookup.1)
