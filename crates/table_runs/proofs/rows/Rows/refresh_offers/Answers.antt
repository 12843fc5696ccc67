use Rattle.std.specs.Prelude.{◌≡◌, ◌<◌, List, Some, length, slice_get, refl}
use Rattle.std.proofs.Common.{arith, rules, subst, sym}
use Rattle.std.proofs.lemmas.Option.{slice_get_read}
use Rattle.label_lists.specs.Lists.{HasPlace}
use Rattle.table_bindings.specs.LabelNumbers.{list_number}
use Rattle.table_bindings.specs.declared.label_numbers.ListNumbers.{ListNumbers}
use Rattle.table_runs.proofs.LegsOffered.{offered_anew}
use Rattle.table_runs.proofs.rows.Rows.refresh_offers.Goals as goal

pub put_run-requires : goal.put_run-requires
put_run-requires c = λ j l.
    let bindings = c.self.inside.bindings.items in
    let r = c.args.r in
    let within : r < length c.self.inside.runs.items = search rules in
    let at : slice_get bindings r ≡ Some c.index-bindings.result.now =
    slice_get_read bindings (length bindings) r c.index-bindings.result.now refl (omega (arith, within, c.self.invariant.0.bound.as_many))
    c.index-bindings.ensures in
    subst (λ (numbers : List ListNumbers). HasPlace c.self.inside.index.lists (list_number numbers j l) r) (sym c.as_slice.ensures)
    (c.self.invariant.0.offered.numbers r c.index-bindings.result.now at j l).place

pub offer_run-requires : goal.offer_run-requires
offer_run-requires c = λ j l.
    let bindings = c.self.inside.bindings.items in
    let r = c.args.r in
    let within : r < length c.self.inside.runs.items = search rules in
    let at : slice_get bindings r ≡ Some c.index-bindings.result.now =
    slice_get_read bindings (length bindings) r c.index-bindings.result.now refl (omega (arith, within, c.self.invariant.0.bound.as_many))
    c.index-bindings.ensures in
    c.put_run.ensures.others.places (list_number c.index-bindings.result.now.lists j l) r
    (c.self.invariant.0.offered.numbers r c.index-bindings.result.now at j l).place

pub invariant_of-self : goal.invariant_of-self
invariant_of-self c =
    let are = c.self.invariant.0 in
    let runs = c.self.inside.runs.items in
    let bindings = c.self.inside.bindings.items in
    let r = c.args.r in
    let run = c.index-run.result.now in
    let requested = c.index-bindings.result.now in
    let within : r < length runs = search rules in
    let run_there : slice_get runs r ≡ Some run = slice_get_read runs (length runs) r run refl within c.index-run.ensures in
    let requested_there : slice_get bindings r ≡ Some requested =
    slice_get_read bindings (length bindings) r requested refl (omega (arith, within, are.bound.as_many)) c.index-bindings.ensures in (
      record {
        few = are.few;
        bound = are.bound;
        found = are.found;
        counted = are.counted;
        active = are.active;
        offered = offered_anew runs bindings c.self.inside.index.lists c.put_run.new.lists c.offer_run.new.lists r run requested run_there
            requested_there c.put_run.ensures.others c.offer_run.ensures.all c.offer_run.ensures.others are.offered;
      },
      c.self.invariant.1,
    )
