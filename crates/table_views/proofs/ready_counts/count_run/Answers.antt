use Rattle.std.proofs.Common.{◌≡◌, ◌∙◌, ◌<◌, List, length, refl, sym, ap, arith, rules}
use Rattle.std.proofs.lemmas.Option.{slice_get_read}
use Rattle.std.specs.Prelude.{false, slice_get}
use Rattle.table_model.specs.Runs.{RunState}
use Rattle.table_views.proofs.AskedLists.{still_counts}
use Rattle.table_views.proofs.ready_counts.count_run.Goals as goal

pub returns-then-not-offers_legs : goal.returns-then-not-offers_legs
returns-then-not-offers_legs c = λ lists are.
    let all = c.as_slice-all.result.now in
    let r = c.args.r in
    let run = c.index-all-r.result in
    let lt : r < length all = omega (arith, c.requires, ap length c.as_slice-all.ensures.runs) in
    let at = slice_get_read all (length all) r run refl lt c.index-all-r.is in
    let rests : c.offers_legs.result ≡ false = search rules in
    still_counts c.args.runs.now r run lists c.args.counts.now
    (ap (λ (rs : List RunState). slice_get rs r) (sym c.as_slice-all.ensures.runs) ∙ at) (sym c.offers_legs.ensures ∙ rests) are
