use Rattle.std.proofs.Common.{IsTrue, ap, refl, sym, subst}
use Rattle.definitions.specs.Rising.{names_rise}
use Rattle.wf_value.proofs.PassedOn.{passed_on}
use Rattle.wf_reader.specs.Strategy.{is_variable_name, variable_faults, variable_of}
use Rattle.wf_reader.proofs.Entries.{kept, kept-sorted, kept_here, check_fails, all_done, rises-sorted}
use Rattle.wf_reader.proofs.matrix.read_variables.Goals as goal

pub returns-in_err-read_variable-clause-gives : goal.returns-in_err-read_variable-clause-gives
returns-in_err-read_variable-clause-gives c =
    let here = kept_here is_variable_name c.loop-name.name-iterator c.next.new.self (c.in-Some.name.now, c.in-Some.value.now)
    c.as_str-text.result.now c.in-Some.ensures.steps c.as_str-text.ensures.value c.if-not-is_variable_name.ensures in
    passed_on _ _ _ _ c.in_err-read_variable.field-0.0 c.from_residual.ensures.1 c.in_err-read_variable.ensures (λ refused.
    check_fails variable_faults variable_of (kept is_variable_name c.args.members.now.entries)
    (kept is_variable_name c.loop-name.name-iterator) _ (c.in-Some.name.now, c.in-Some.value.now)
    c.as_str-text.result.now _ _ c.loop-name.invariant.left here
    c.as_str-text.ensures.value refused)

pub returns-clause-rising : goal.returns-clause-rising
returns-clause-rising c =
    subst (λ vs. IsTrue (names_rise vs)) (sym
    (all_done variable_faults variable_of (kept is_variable_name c.args.members.now.entries)
    (kept is_variable_name c.loop-name.name-iterator) c.loop-name.variables.items
    c.loop-name.invariant.done (ap (kept is_variable_name) c.in-None.ensures.steps.0)))
    (rises-sorted (λ p. p.0) _ (λ e. refl) (kept is_variable_name c.args.members.now.entries)
    (kept-sorted is_variable_name c.args.members.now.entries c.into_iter-name-iterator.ensures.into_iter_gives.5))
