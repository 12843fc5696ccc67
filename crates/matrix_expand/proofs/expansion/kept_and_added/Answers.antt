use Rattle.std.proofs.Common.{◌≡◌, Ok, inr, map, length, sym, ap, ◌∙◌, arith}
use Rattle.std.proofs.lemmas.Bool.{true≢false}
use Rattle.std.proofs.lemmas.List.{length-map}
use Rattle.matrix_expand.specs.inner.Entries.{SortsEntries}
use Rattle.matrix_expand.specs.inner.Numbered.{pattern_of}
use Rattle.matrix_expand.proofs.Legs.{added_are, all_are, legs_counted, legs_miscounted}
use Rattle.matrix_expand.proofs.expansion.kept_and_added.Goals as goal
use Rattle.wf_value.proofs.PassedOn.{same_Ok}

pub returns-then-not-is_leg_count : goal.returns-then-not-is_leg_count
returns-then-not-is_leg_count c =
    let m = c.args.matrix.now in
    let kept = c.as_slice-3.ensures.value ∙ c.requires.kept in
    let added = added_are m c.as_slice.result.now c.include.result.now c.in_ok-includes.includes.items c.as_slice-2.result.now
    c.as_slice-3.result.now (map (λ o. o.now) c.in_ok-added.added.items) (c.as_slice.ensures.value ∙ c.requires.axes) c.include.ensures
    c.in_ok-includes.ensures c.as_slice-2.ensures.value kept c.in_ok-added.ensures in
    inr (legs_miscounted m c.len.result c.len-2.result (omega (arith, c.len.ensures, ap length c.requires.kept))
    (omega (arith, c.len-2.ensures, ap length added, length-map c.in_ok-added.added.items (λ o. o.now)))
    (λ counted. true≢false (sym (c.is_leg_count.ensures.1 counted) ∙ c.if-not-is_leg_count.true)))

pub returns : goal.returns
returns c =
    let m = c.args.matrix.now in
    let kept = c.as_slice-3.ensures.value ∙ c.requires.kept in
    let added = added_are m c.as_slice.result.now c.include.result.now c.in_ok-includes.includes.items c.as_slice-2.result.now
    c.as_slice-3.result.now (map (λ o. o.now) c.in_ok-added.added.items) (c.as_slice.ensures.value ∙ c.requires.axes) c.include.ensures
    c.in_ok-includes.ensures c.as_slice-2.ensures.value kept c.in_ok-added.ensures in
    let sorts : SortsEntries 0 m.include c.in_ok-entries.entries.items = rw c.include-2.ensures at c.in_ok-entries.ensures.sorted in
    let includes : c.in_ok-includes.includes.items ≡ map (pattern_of c.args.axes.items) m.include =
    sym (same_Ok _ _ c.in_ok-includes.ensures) ∙ ap (map (pattern_of c.as_slice.result.now)) c.include.ensures
    ∙ ap (λ axes. map (pattern_of axes) m.include) c.as_slice.ensures.value in
    legs_counted m c.len.result c.len-2.result (omega (arith, c.len.ensures, ap length c.requires.kept))
    (omega (arith, c.len-2.ensures, ap length added, length-map c.in_ok-added.added.items (λ o. o.now)))
    (c.is_leg_count.ensures.0 c.if-not-is_leg_count.false)
    ∙ ap Ok (all_are m c.args.axes.items c.in_ok-includes.includes.items c.in_ok-entries.entries.items c.args.kept.items
    (map (λ o. o.now) c.in_ok-added.added.items) c.requires.axes includes c.requires.kept added c.requires.in_order sorts)
