use Rattle.std.proofs.Common.{rules, tests, ap, sym, ◌∙◌}
use Rattle.std.specs.Prelude.{Ok}
use Rattle.std.proofs.lemmas.Iterator.Consumers.{YieldsList-turn, YieldsList-end, YieldsList-at}
use Rattle.std.proofs.lemmas.Iterator.Splits.{YieldsList-from_slice_split}
use Rattle.definitions.specs.SmallText.{is_short, is_label_byte, split_at_commas}
use Rattle.run_plan.proofs.Parts.{each_passes, passes_at}
use Rattle.run_plan.proofs.labels.labels_of_parts.Goals as goal

pub copy_of-requires : goal.copy_of-requires
copy_of-requires c =
    let turn = YieldsList-turn (YieldsList-at c.into_iter-part-iterator.ensures.into_iter_gives
    (YieldsList-from_slice_split _ _ c.args.text.now c.split-part-items.ensures.rest c.split-part-items.ensures.done
    c.split-part-items.ensures.closure (λ x r q k. search (rules, tests))))
    c.loop-part.yielded _ c.loop-part.yielded_by _ _ c.in-Some.part c.in-Some.is c.next.ensures.steps in
    let parts = split_at_commas c.args.text.now in
    ap (is_short is_label_byte) turn.1 ∙ passes_at (is_short is_label_byte) parts _ _ (each_passes parts c.requires) turn.0

pub returns : goal.returns
returns c =
    let whole = YieldsList-end (YieldsList-at c.into_iter-part-iterator.ensures.into_iter_gives
    (YieldsList-from_slice_split _ _ c.args.text.now c.split-part-items.ensures.rest c.split-part-items.ensures.done
    c.split-part-items.ensures.closure (λ x r q k. search (rules, tests))))
    c.loop-part.yielded _ c.loop-part.yielded_by _ _ c.in-None.is c.next.ensures.steps in
    ap Ok (sym whole.0 ∙ sym c.loop-part.invariant)
