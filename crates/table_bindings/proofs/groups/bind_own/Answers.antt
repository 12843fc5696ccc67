use Rattle.std.specs.Prelude.{◌≡◌, ℕ, List, Option, Some, None}
use Rattle.std.proofs.Common.{ap, sym, subst, ◌∙◌}
use Rattle.wf_expr.specs.Bound.{HasResults, Results}
use Rattle.wf_expr.specs.TemplateValue.{Values}
use Rattle.wf_reader.specs.Event.{event_of}
use Rattle.wf_reader.specs.declared.concurrency.Concurrency.{Concurrency}
use Rattle.table_model.specs.Groups.{run_context}
use Rattle.table_bindings.specs.BoundGroups.{Says, SaysSo, no_need}
use Rattle.table_bindings.proofs.groups.bind_own.Goals as goal

pub returns-in_ok-bound-in-Some-clause-says : goal.returns-in_ok-bound-in-Some-clause-says
returns-in_ok-bound-in-Some-clause-says c =
    let identity = c.args.identity.now in
    let event = event_of identity.event.body in
    let bound = c.in_ok-bound-in-Some.bound in
    let values : Results → Values = λ results. run_context identity in
    let admitted : c.prepared-prepared.result.now ≡ identity.event =
    c.prepared-prepared.ensures in
    let repository = c.as_str-repository.ensures ∙ c.repo.ensures ∙ ap (λ a. (event_of a.body).repo) admitted in
    let bindings : Some c.in-Some.requested.now ≡ event.workflow.concurrency =
    c.in-Some.ensures ∙ ap (λ a. (event_of a.body).workflow.concurrency) admitted in
    let has : (results : Results) → HasResults (run_context c.run_context-context.result) no_need results (values results) = λ results path.
    ap (λ f. run_context f path) (sym c.run_context-context.ensures) in
    subst (λ (o : Option Concurrency). SaysSo event.repo values o (Some bound)) bindings
    (subst (λ (r : List ℕ). Says r values c.in-Some.requested.now bound) repository (c.in_ok-bound-in-Some.ensures.says values has))

pub returns-in-None-clause-says : goal.returns-in-None-clause-says
returns-in-None-clause-says c =
    let identity = c.args.identity.now in
    let event = event_of identity.event.body in
    let admitted : c.prepared-prepared.result.now ≡ identity.event =
    c.prepared-prepared.ensures in
    let bindings : None ≡ event.workflow.concurrency = c.in-None.ensures ∙ ap (λ a. (event_of a.body).workflow.concurrency) admitted in
    subst (λ (o : Option Concurrency). SaysSo event.repo (λ results. run_context identity) o None) bindings tt
