use Rattle.std.proofs.Common.{◌≡◌, ◌∙◌, ◌++◌, ◌∷◌, [], List, length, ap, arith, length-append, subst, sym}
use mathlib.Core.List.{IsPrefix}
use Rattle.act_desk.specs.Events.{entries_in, entry_of_event}
use Rattle.act_desk.specs.inner.Lines.{IsUnused, line, next_of}
use Rattle.act_desk.specs.declared.event.Event.{Event}
use Rattle.act_desk.specs.declared.event.Note.{Note}
use Rattle.act_desk.proofs.Eventful.{entries_few, entries_more, one_at_most}
use Rattle.act_desk.proofs.Lines.{added_line, added_next}
use Rattle.act_desk.proofs.Moving.{add_moves}
use Rattle.act_desk.proofs.Prefixes.{prefix_trans}
use Rattle.act_desk.proofs.prefix.HistoryWriter.add.Goals as goal

pub compare_exchange-requires : goal.compare_exchange-requires
compare_exchange-requires g c =
    let is = c.self.invariant in
    let h = is.3 in
    let offer = c.plain-offer.ensures in (
      ap (λ w. w.tracked) h,
      c.reserve.ensures.seen.0 ∙ (is.2 ∙ sym (ap (λ w. w.book) h)),
      is.4 ∙ sym (ap (λ w. w.book) h),
      offer.0,
      rw (ap (λ w. w.key) h, offer.3) (add_moves c.reserve.new.seen.log c.plain-offer.result.ask c.self.inside.token.nib is.5),
    )

pub overflow_add-self-2 : goal.overflow_add-self-2
overflow_add-self-2 g c =
    let events = line g.E.Named.first c.self.inside.seen.log in
    omega (
      arith,
      c.self.invariant.0,
      c.self.invariant.1,
      entries_few events,
      ap (λ (l : List Event). length l) c.self.view_is,
      c.requires,
      c.count-entries.ensures,
      one_at_most c.args.event,
    )

pub invariant_of-self : goal.invariant_of-self
invariant_of-self g c =
    let first = g.E.Named.first in
    let xs = c.self.inside.seen.log in
    let is = c.self.invariant in
    let adds = c.compare_exchange.ensures.7 in
    let ask = c.plain-offer.result.ask in
    let note : Note = record { from = c.self.inside.token.nib.key; to = ask.to; event = ask.event } in
    let pre : IsPrefix xs adds.log = prefix_trans xs c.reserve.new.seen.log adds.log c.reserve.ensures.seen.1 adds.seen in
    let unused : IsUnused (next_of first xs) adds.log = subst (λ k. IsUnused k adds.log) (sym is.6) adds.unused in
    let grown : line first c.compare_exchange.new.seen.log ≡ line first xs ++ c.args.event ∷ [] =
    added_line first xs adds.log c.compare_exchange.new.seen.log note pre unused (sym is.6) adds.noted
    ∙ ap (λ (m : Note). line first xs ++ m.event ∷ []) c.plain-offer.ensures.1 in
    let to : ask.to ≡ c.reserve.result.nib.key = ap (λ (m : Note). m.to) c.plain-offer.ensures.1 in
    let events = line first xs in (
      omega (arith, is.0, ap (λ (l : List Event). length l) grown, length-append events (c.args.event ∷ [])),
      omega (
        arith,
        is.1,
        c.count-entries.ensures,
        ap (λ (l : List Event). length (entries_in l)) grown,
        ap (λ l. length l) (entries_more events c.args.event),
        length-append (entries_in events) (entry_of_event c.args.event),
      ),
      c.compare_exchange.ensures.0 ∙ (c.reserve.ensures.seen.0 ∙ is.2),
      is.3,
      c.reserve.ensures.token.0 ∙ is.2,
      c.reserve.ensures.token.1,
      added_next first xs adds.log c.compare_exchange.new.seen.log note pre unused (sym is.6) adds.noted ∙ to,
    )

pub returns : goal.returns
returns g c =
    let first = g.E.Named.first in
    let xs = c.self.inside.seen.log in
    let is = c.self.invariant in
    let adds = c.compare_exchange.ensures.7 in
    let ask = c.plain-offer.result.ask in
    let note : Note = record { from = c.self.inside.token.nib.key; to = ask.to; event = ask.event } in
    let pre : IsPrefix xs adds.log = prefix_trans xs c.reserve.new.seen.log adds.log c.reserve.ensures.seen.1 adds.seen in
    let unused : IsUnused (next_of first xs) adds.log = subst (λ k. IsUnused k adds.log) (sym is.6) adds.unused in
    let grown : line first c.compare_exchange.new.seen.log ≡ line first xs ++ c.args.event ∷ [] =
    added_line first xs adds.log c.compare_exchange.new.seen.log note pre unused (sym is.6) adds.noted
    ∙ ap (λ (m : Note). line first xs ++ m.event ∷ []) c.plain-offer.ensures.1 in
    grown ∙ ap (λ (l : List Event). l ++ c.args.event ∷ []) c.self.view_is
