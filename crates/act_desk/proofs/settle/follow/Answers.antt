use Rattle.std.proofs.Common.{◌≡◌, ◌∙◌, ◌+◌, ◌++◌, ◌∷◌, [], List, Some, ap, arith, rules, slice_get, subst, sym, take}
use mathlib.Core.List.{IsPrefix}
use Rattle.act_sessions.specs.Exchange.{exchanges_in}
use Rattle.act_store.specs.declared.entry.Entry.{Entry}
use Rattle.act_desk.specs.Settled.{entries_of, if_any, part_of}
use Rattle.act_desk.proofs.Following.{begins_earlier, for_none, part_earlier}
use Rattle.act_desk.proofs.Parts.{part_more}
use Rattle.act_desk.proofs.settle.follow.Goals as goal

pub loop-index-preserved : goal.loop-index-preserved
loop-index-preserved g c =
    let history = c.args.store.now.history in
    let e = c.in_ok-entry.entry.now in
    let at : slice_get history c.loop-index.index ≡ Some e = search rules in
    let found = c.in_ok-found.ensures in
    record {
      within = found.within;
      part =
          part_more c.args.seat history c.loop-index.index e at
          ∙ ap (λ (l : List Entry). l ++ part_of c.args.seat (e ∷ [])) c.loop-index.invariant.part
          ∙ sym found.more;
      over = found.over;
      all = found.all;
    }

pub returns-in_err-found-clause-other : goal.returns-in_err-found-clause-other
returns-in_err-found-clause-other g c =
    let history = c.args.store.now.history in
    let seat = c.args.seat in
    let asked = c.args.asked.now in
    let index = c.loop-index.index in
    let found = c.loop-index.found in
    let e = c.in_ok-entry.entry.now in
    let at : slice_get history index ≡ Some e = search rules in
    let part : List Entry = (entries_of seat (exchanges_in (take found.asked asked)) ++ if_any found.over) ++ part_of seat (e ∷ []) in
    let same : part_of seat (take (index + 1) history) ≡ part =
    part_more seat history index e at ∙ ap (λ (l : List Entry). l ++ part_of seat (e ∷ [])) c.loop-index.invariant.part in
    for_none c.from_residual-in_err-found.result
    (λ begins. c.in_err-found.ensures.other
    (begins_earlier seat (exchanges_in asked) part (part_of seat (take c.args.to history))
    (subst (λ (l : List Entry). IsPrefix l (part_of seat (take c.args.to history))) same
    (part_earlier seat (index + 1) c.args.to history (omega (arith, c.loop-index-test.true)))) begins))
