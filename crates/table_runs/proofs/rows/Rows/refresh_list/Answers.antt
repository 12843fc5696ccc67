use Rattle.std.specs.Prelude.{◌≡◌, ◌<◌, List, Some, false, length, slice_get, refl}
use Rattle.std.proofs.Common.{arith, rules, subst, sym, ◌∙◌}
use Rattle.std.proofs.lemmas.Option.{slice_get_read}
use Rattle.table_bindings.specs.inner.LabelNumbers.{offers_list}
use Rattle.table_bindings.specs.declared.label_numbers.ListNumbers.{ListNumbers}
use Rattle.table_runs.proofs.LegsOffered.{number_unmarked}
use Rattle.table_runs.proofs.rows.Rows.refresh_list.Goals as goal

pub invariant_of-self : goal.invariant_of-self
invariant_of-self c =
    let are = c.self.invariant.0 in
    let runs = c.self.inside.runs.items in
    let bindings = c.self.inside.bindings.items in
    let r = c.args.site.run in
    let run = c.index-run.result.now in
    let requested = c.index.result.now in
    let number = c.list_number-number.result in
    let within : r < length runs = search rules in
    let run_there : slice_get runs r ≡ Some run = slice_get_read runs (length runs) r run refl within c.index-run.ensures in
    let requested_there : slice_get bindings r ≡ Some requested =
    slice_get_read bindings (length bindings) r requested refl (omega (arith, within, are.bound.as_many)) c.index.ensures in
    let none : c.offers_list.result ≡ false = search rules in
    let rests : offers_list run requested.lists number ≡ false =
    subst (λ (numbers : List ListNumbers). offers_list run numbers number ≡ false) c.as_slice-numbers.ensures
    (sym c.offers_list.ensures ∙ none) in (
      record {
        few = are.few;
        bound = are.bound;
        found = are.found;
        counted = are.counted;
        active = are.active;
        offered = number_unmarked runs bindings c.self.inside.index.lists c.unmark.new.self r number run requested run_there requested_there rests
            c.unmark.ensures are.offered;
      },
      c.self.invariant.1,
    )
