use Rattle.std.proofs.Common.{◌≡◌, true, false, sym, ◌∙◌, rules}
use Rattle.std.proofs.lemmas.Bool.{true≢false}
use Rattle.stored_tables.proofs.StoredOnce.{names_stored, names_told}
use Rattle.stored_tables.proofs.runners.runners_of.Goals as goal

pub returns-then-not-do_names_rise-clause-of : goal.returns-then-not-do_names_rise-clause-of
returns-then-not-do_names_rise-clause-of c = λ runners are rise.
    let fall : c.do_names_rise.result ≡ false = search rules in
    true≢false
    (sym rise ∙ names_stored c.args.last c.args.runs.now c.args.parts.now runners are ∙ sym c.do_names_rise.ensures ∙ fall)

pub returns-clause-of : goal.returns-clause-of
returns-clause-of c =
    let rise : c.do_names_rise.result ≡ true = search rules in
    names_told (λ v. v.items) c.args.last c.args.runs.now c.args.parts.now c.runners.result (sym c.do_names_rise.ensures ∙ rise)
    c.runners.ensures.of
