use Rattle.std.proofs.Common.{[], ◌∷◌, ◌++◌, ap, ◌∙◌}
use Rattle.std.proofs.lemmas.List.{take_all}
use Rattle.json.specs.Token.{end_object}
use Rattle.run_plan.proofs.ComboTokens.{opened, text_of_written}
use Rattle.run_plan.proofs.combo_text.printed.Goals as goal

pub returns : goal.returns
returns c =
    let all = take_all c.loop-name.name-index c.as_slice-name-items.result.now c.loop-name-test.false in
    let none = c.in_ok-end_object.ensures.room.0 ∙ c.loop-name.invariant.0 in
    let pairs = c.loop-name.invariant.1 ∙ ap opened (all ∙ c.as_slice-name-items.ensures.pairs) in
    let written = c.in_ok-end_object.ensures.ok ∙ ap (λ ts. ts ++ end_object ∷ []) pairs in
    let bytes = ap (λ vec. vec.items) (rw c.unwrap.ensures at c.from_utf8.ensures.ok) in
    bytes ∙ text_of_written c.args.combo.now _ _ _ none written c.into_inner.ensures.items
