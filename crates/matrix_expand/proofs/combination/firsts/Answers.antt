use Rattle.std.proofs.Common.{◌≡◌, ◌+◌, ◌++◌, ◌∷◌, None, Some, true, false, get_or, drop, refl, sym, ap, ◌∙◌}
use Rattle.std.specs.Option.{option_copied}
use Rattle.definitions.specs.Rising.{names_rise}
use Rattle.matrix_expand.specs.inner.Entries.{flagged, firsts_after, is_last}
use Rattle.matrix_expand.proofs.Firsts.{firsts_drop, names_ascend-flagged, names_rise-firsts, names_rise_front}
use Rattle.matrix_expand.proofs.combination.firsts.Goals as goal

pub push_copy-requires : goal.push_copy-requires
push_copy-requires c =
    let flags = c.args.flags.now in
    let es = c.args.entries.now in
    let e = c.entry-item.result in
    let last = option_copied c.loop-entry.last in
    let left = flagged flags (drop (c.loop-entry.entry-index + 1) es) in
    let has_flag : get_or flags e.0 false ≡ true = ap (λ i. get_or flags i false) (sym c.object.ensures) ∙ sym c.has_flag.ensures
    ∙ c.if-has_flag.true in
    let other : is_last last e.1.0 ≡ false = ap (is_last last) (sym c.name.ensures) ∙ sym c.is_named.ensures ∙ c.if-not-is_named.true in
    let step : firsts_after last (flagged flags (drop c.loop-entry.entry-index es)) ≡ e.1 ∷ firsts_after (Some e.1.0) left =
    firsts_drop flags last e es c.loop-entry.entry-index c.loop-entry-test.true c.entry-item.is ∙ rw (has_flag, other) refl in
    let all : c.loop-entry.combo ++ e.1 ∷ firsts_after (Some e.1.0) left ≡ firsts_after None (flagged flags es) = ap
    (λ ps. c.loop-entry.combo ++ ps) (sym step) ∙ c.loop-entry.invariant in
    rw (c.name-then-not-is_named.ensures, c.value.ensures)
    (names_rise_front c.loop-entry.combo (firsts_after (Some e.1.0) left) e.1
    (ap names_rise all ∙ names_rise-firsts (flagged flags es) (names_ascend-flagged flags es c.requires)))
