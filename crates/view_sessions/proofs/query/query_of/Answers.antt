use Rattle.std.proofs.Common.{◌∙◌, [], ◌∷◌, ap, sym, map, rules, tests}
use Rattle.std.specs.Prelude.{Ok, ◌==◌}
use Rattle.std.specs.List.{slice_split}
use Rattle.wf_value.proofs.PassedOn.{same_Ok}
use Rattle.std.proofs.lemmas.List.{map-append}
use Rattle.std.proofs.lemmas.Iterator.Consumers.{YieldsList-turn, YieldsList-end, YieldsList-at, YieldsList-so_far}
use Rattle.std.proofs.lemmas.Iterator.Splits.{YieldsList-from_slice_split}
use Rattle.view_sessions.specs.Queries.{all_added, no_query}
use Rattle.view_sessions.proofs.Parts.{added_more, first_fault, parts_split}
use Rattle.view_sessions.proofs.query.query_of.Goals as goal

pub returns-in-Err : goal.returns-in-Err
returns-in-Err c =
    let parts = YieldsList-at c.into_iter-part-iterator.ensures.into_iter_gives
    (YieldsList-from_slice_split _ _ c.args.text.now c.split-part-items.ensures.rest c.split-part-items.ensures.done
    c.split-part-items.ensures.closure (λ x r q k. search (rules, tests))) in
    let before = YieldsList-so_far parts c.loop-part.yielded _ c.loop-part.yielded_by in
    let turn = YieldsList-turn parts c.loop-part.yielded _ c.loop-part.yielded_by _ _ c.in-Some.part c.in-Some.is c.next.ensures.steps in
    let added = same_Ok _ _ c.in_ok-more.ensures in
    ap Ok (ap (all_added c.args.path.now (Ok no_query)) (parts_split c.args.text.now _ c.is_empty.ensures c.if-is_empty.false)
    ∙ first_fault c.args.path.now (map (λ p. p.now) c.loop-part.yielded) c.loop-part.query c.loop-part.invariant c.in-Some.part.now
    (slice_split (λ b. b == 38) c.args.text.now) _ c.in-Err.fault before turn (added ∙ c.in-Err.is))

pub loop-part-preserved : goal.loop-part-preserved
loop-part-preserved c =
    ap (all_added c.args.path.now (Ok no_query)) (map-append (λ p. p.now) c.loop-part.yielded (c.in-Some.part ∷ []))
    ∙ added_more c.args.path.now (map (λ p. p.now) c.loop-part.yielded) c.loop-part.query c.loop-part.invariant c.in-Some.part.now (Ok c.in-Ok.more)
    (same_Ok _ _ c.in_ok-more.ensures ∙ c.in-Ok.is)

pub returns : goal.returns
returns c =
    let whole = YieldsList-end (YieldsList-at c.into_iter-part-iterator.ensures.into_iter_gives
    (YieldsList-from_slice_split _ _ c.args.text.now c.split-part-items.ensures.rest c.split-part-items.ensures.done
    c.split-part-items.ensures.closure (λ x r q k. search (rules, tests))))
    c.loop-part.yielded _ c.loop-part.yielded_by _ _ c.in-None.is c.next.ensures.steps in
    ap Ok (ap (all_added c.args.path.now (Ok no_query)) (parts_split c.args.text.now _ c.is_empty.ensures c.if-is_empty.false ∙ sym whole.0) ∙ c.loop-part.invariant)
