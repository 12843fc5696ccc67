use Rattle.std.proofs.Common.{◌≡◌, ℕ, Option, arith, subst, sym, ◌∙◌}
use Rattle.std.specs.Prelude.{MatchOption, Some, slice_get}
use Rattle.std.proofs.lemmas.Option.{same_Some}
use Rattle.stored_tables.specs.Stored.{RunnerParts}
use Rattle.stored_tables.specs.TableOf.{IsRunnerAs}
use Rattle.table_model.specs.TableState.{RunnerState}
use Rattle.table_model.proofs.OneAfterAnother.{read_at}
use Rattle.table_bindings.proofs.Binding.{one_pushed}
use Rattle.stored_tables.proofs.PartsRead.{no_runners}
use Rattle.stored_tables.proofs.leased.Leased.runners.Goals as goal

pub returns-in-None-clause-of : goal.returns-in-None-clause-of
returns-in-None-clause-of c =
    let last = c.args.self.now.last in
    let runs = c.args.self.now.runs.now in
    let parts = c.args.parts.now in
    let part = c.index-parts-k.result in
    no_runners last runs parts c.loop-k.k part (read_at parts c.loop-k.k part (omega arith) c.index-parts-k.is)
    (subst (λ (o : Option RunnerState). MatchOption o ((x : RunnerState) → IsRunnerAs last runs part x → ⊥)
    (λ x. IsRunnerAs last runs part x))
    c.in-None.is
    c.in_ok-runner.ensures.of)

pub loop-k-preserved : goal.loop-k-preserved
loop-k-preserved c =
    let last = c.args.self.now.last in
    let runs = c.args.self.now.runs.now in
    let parts = c.args.parts.now in
    let part = c.index-parts-k.result in
    let x = c.in-Some.runner in
    let old = c.loop-k.runners.items in
    let is = subst (λ (o : Option RunnerState). MatchOption o ((y : RunnerState) → IsRunnerAs last runs part y → ⊥)
    (λ y. IsRunnerAs last runs part y))
    c.in-Some.is c.in_ok-runner.ensures.of in
    let at = read_at parts c.loop-k.k part (omega arith) c.index-parts-k.is in
    one_pushed (λ (i : ℕ) (y : RunnerState). (p : RunnerParts) → slice_get parts i ≡ Some p → IsRunnerAs last runs p y) old
    c.push.new.self.items x c.loop-k.k c.in_ok-push-in-Some.ensures.items c.loop-k.invariant.0 c.loop-k.invariant.1
    (λ p at_p. subst (λ (q : RunnerParts). IsRunnerAs last runs q x) (same_Some part p (sym at ∙ at_p)) is)

pub returns-clause-of : goal.returns-clause-of
returns-clause-of c = record {
  as_many = omega (arith, c.loop-k.invariant.0);
  each = (λ k part x at_part at_x. c.loop-k.invariant.1 k x at_x part at_part);
}
