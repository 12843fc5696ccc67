use Rattle.std.proofs.Common.{◌≡◌, ◌++◌, ◌∙◌, List, ap, append-nil, subst, sym}
use Rattle.std.specs.Result.{OnOk}
use Rattle.serde_json.specs.View.{view}
use Rattle.wf_value.specs.declared.code.Code.TheVariants.{StrategyMember}
use Rattle.wf_value.specs.declared.refusal.Refusal.{Refusal}
use Rattle.wf_reader.specs.Faults.{fault_unless}
use Rattle.workflow_lint.specs.Findings.{at}
use Rattle.workflow_lint.proofs.Here.{names_here}
use Rattle.workflow_lint.proofs.strategy.check_names.Goals as goal

pub returns-then-has_strategy_names : goal.returns-then-has_strategy_names
returns-then-has_strategy_names c =
    sym (ap (λ (fs : List Refusal). c.args.found.now.items ++ at c.args.path.now fs)
    (names_here (view c.args.value.now) c.args.members.now.entries c.requires
    ∙ ap (λ b. fault_unless b StrategyMember) (sym c.if-has_strategy_names.ensures))
    ∙ append-nil c.args.found.now.items)

pub returns : goal.returns
returns c =
    subst (λ (fs : List Refusal). OnOk c.push_code.result (c.push_code.new.found.items ≡ c.args.found.now.items ++ at c.args.path.now fs))
    (sym (names_here (view c.args.value.now) c.args.members.now.entries c.requires
    ∙ ap (λ b. fault_unless b StrategyMember) (sym c.if-has_strategy_names.ensures)))
    c.push_code.ensures
