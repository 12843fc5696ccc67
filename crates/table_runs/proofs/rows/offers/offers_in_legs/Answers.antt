use Rattle.std.specs.Prelude.{◌≡◌, false, length, nat_eq, refl}
use Rattle.std.proofs.Common.{arith, sym, ◌∙◌}
use Rattle.std.proofs.lemmas.Bool.Decides.{Decides-eqb}
use Rattle.std.proofs.lemmas.Option.{slice_get_read}
use Rattle.table_model.specs.Fitting.{is_ready}
use Rattle.table_model.proofs.NamedOnce.{not_same}
use Rattle.table_bindings.specs.inner.LabelNumbers.{leg_offers}
use Rattle.table_bindings.specs.LabelNumbers.{list_number}
use Rattle.table_runs.proofs.OffersList.{and_false, and_then_false, and_true, none_passes, one_more_fails, one_passes}
use Rattle.table_runs.proofs.rows.offers.offers_in_legs.Goals.{else-is_ready-via-then-is_ready+else-list_number-number}
use Rattle.table_runs.proofs.rows.offers.offers_in_legs.Goals.{else-is_ready-via-else-is_ready}
use Rattle.table_runs.proofs.rows.offers.offers_in_legs.Goals as goal

pub returns-then-list_number-number : goal.returns-then-list_number-number
returns-then-list_number-number c =
    let numbers = c.args.numbers.now in
    let legs = c.args.legs.now in
    let l = c.loop-l.l in
    let leg = c.index-legs-l.result in
    sym (one_passes (leg_offers numbers c.args.number c.args.j) legs l leg
    (slice_get_read legs (length legs) l leg refl (omega arith) c.index-legs-l.is)
    (and_true (is_ready leg.phase) (nat_eq (list_number numbers c.args.j l) c.args.number)
    (sym c.is_ready.ensures ∙ c.if-is_ready.true)
    ((Decides-eqb _ _).1 (sym c.list_number.ensures ∙ c.if-list_number-number.true))))

pub loop-l-preserved : goal.loop-l-preserved
loop-l-preserved c =
    let numbers = c.args.numbers.now in
    let legs = c.args.legs.now in
    let l = c.loop-l.l in
    let leg = c.index-legs-l.result in
    let fails : leg_offers numbers c.args.number c.args.j (l, leg) ≡ false =
    elim c.else-is_ready.branch [
      | else-is_ready-via-then-is_ready+else-list_number-number w ↦
          and_then_false (is_ready leg.phase) (nat_eq (list_number numbers c.args.j l) c.args.number)
          (not_same _ _ (λ same. w.if-list_number-number.false (w.list_number.ensures ∙ same)))
      | else-is_ready-via-else-is_ready w ↦
          and_false (is_ready leg.phase) (nat_eq (list_number numbers c.args.j l) c.args.number)
          (sym c.is_ready.ensures ∙ w.if-is_ready.false)
    ] in
    one_more_fails (leg_offers numbers c.args.number c.args.j) legs l leg
    (slice_get_read legs (length legs) l leg refl (omega arith) c.index-legs-l.is) fails c.loop-l.invariant

pub returns : goal.returns
returns c =
    let legs = c.args.legs.now in
    sym (none_passes (leg_offers c.args.numbers.now c.args.number c.args.j) legs
    (λ i x lt at. c.loop-l.invariant i x (omega (arith, lt)) at))
