use Rattle.std.proofs.Common.{rules}
use Rattle.std.proofs.lemmas.Fn.{always_returns_same}
use Rattle.wf_value.proofs.Rising.{below, rise_told}
use Rattle.stored_tables.specs.Stored.{RunnerParts}
use Rattle.stored_tables.proofs.parts.do_names_rise.Goals as goal

pub returns : goal.returns
returns c =
    let name = λ (runner : RunnerParts). runner.name in
    rise_told name c.args.runners.now c.is_sorted_by.result
    (c.is_sorted_by.ensures.cases (below name) (always_returns_same _ _ _ (λ a r g called. search rules)))
