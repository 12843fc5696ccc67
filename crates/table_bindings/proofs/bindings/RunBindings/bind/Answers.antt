use Rattle.std.proofs.Common.{◌≡◌, subst, List, ℕ, rules}
use Rattle.std.specs.Prelude.{IfOk}
use Rattle.std.specs.Fmt.{decimal}
use Rattle.table_model.specs.Groups.{RunFacts}
use Rattle.table_bindings.specs.Bindings.{RunSays}
use Rattle.table_bindings.proofs.bindings.RunBindings.bind.Goals as goal

pub returns-clause-says : goal.returns-clause-says
returns-clause-says c =
    let run = c.args.run.now in
    let identity : List ℕ → List ℕ → List ℕ → RunFacts =
    λ i n a. record { event = run.admitted; run_id = i; run_number = n; run_attempt = a } in
    let id : c.format.result.now ≡ decimal run.id = search rules in
    let number : c.format-2.result.now ≡ decimal run.number = search rules in
    let attempt : c.format-3.result.now ≡ decimal run.attempt = search rules in
    subst (λ (a : List ℕ). IfOk c.bind_identity.result (RunSays (identity (decimal run.id) (decimal run.number) a))) attempt
    (subst (λ (n : List ℕ). IfOk c.bind_identity.result (RunSays (identity (decimal run.id) n c.format-3.result.now))) number
    (subst (λ (i : List ℕ). IfOk c.bind_identity.result (RunSays (identity i c.format-2.result.now c.format-3.result.now))) id
    c.bind_identity.ensures.says))
