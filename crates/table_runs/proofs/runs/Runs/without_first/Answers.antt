use Rattle.std.proofs.Common.{◌≡◌, ◌-◌, List, Option, ap, arith, drop, length, length-drop, subst, sym, ◌∙◌}
use Rattle.std.specs.Prelude.{MatchOption}
use Rattle.std.proofs.lemmas.List.{take_all}
use Rattle.table_model.specs.Groups.{HasOneEach}
use Rattle.table_model.specs.Runs.{RunState}
use Rattle.table_runs.proofs.runs.Runs.without_first.Goals as goal
use Rattle.table_runs.proofs.runs.Runs.without_first.Goals.{In_ok-rows}

-- the rows are those of the runs that stay
of_the_others : (c : In_ok-rows) → c.in_ok-rows.rows.runs ≡ drop c.args.k c.args.self.now
of_the_others c =
    let all = c.as_slice.result.now in
    let k = c.args.k in
    c.in_ok-rows.ensures.runs ∙ take_all (length all - k) (drop k all) (omega (arith, length-drop k all))
    ∙ ap (λ (rs : List RunState). drop k rs) c.as_slice.ensures.runs

-- no group has two holders of a kind among the runs that stay
pub unreachable-requires : goal.unreachable-requires
unreachable-requires c =
    let rows = c.in_ok-rows.rows.runs in
    let none = subst
    (λ (o : Option (List RunState)). MatchOption o (HasOneEach rows → ⊥) (λ runs. (runs ≡ rows) × HasOneEach rows)) c.in-None.is
    c.in_ok-runs.ensures.of in
    none (subst HasOneEach (sym (of_the_others (goal.at.unreachable-requires c).In_ok-rows)) c.requires.one)
