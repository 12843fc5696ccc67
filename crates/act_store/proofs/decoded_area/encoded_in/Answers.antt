use Rattle.std.proofs.Common.{rules, ◌≡◌, subst}
use Rattle.std.specs.Prelude.{None, Option, Some}
use Rattle.gated_journal.specs.ScannedHead.{head_of}
use Rattle.table_model.specs.TableState.{TableState}
use Rattle.act_store.specs.Layouts.{layout_of}
use Rattle.act_store.specs.inner.Replayed.{IsReplayed}
use Rattle.act_store.specs.inner.Encoded.{IsTextOf}
use Rattle.act_store.proofs.Encoding.{none_layout, none_read, none_replayed, none_text, some_replayed}
use Rattle.act_store.proofs.decoded_area.encoded_in.Goals as goal

pub returns-in_default-clause-encoded : goal.returns-in_default-clause-encoded
returns-in_default-clause-encoded c = none_read c.args.area.now (c.scan.ensures.none (search rules))

pub returns-in_default-of_byte-clause-encoded : goal.returns-in_default-of_byte-clause-encoded
returns-in_default-of_byte-clause-encoded c =
    let found = c.in-Some.found in
    let none : layout_of found.head.version ≡ None = search rules in
    none_layout c.args.area.now (head_of found.head) found.records.now found.gate c.in-Some.ensures.some none

pub returns-in_default-2-clause-encoded : goal.returns-in_default-2-clause-encoded
returns-in_default-2-clause-encoded c =
    let found = c.in-Some.found in
    let layout = c.in-Some-of_byte.layout in
    let is : layout_of found.head.version ≡ Some layout = search rules in
    none_text c.args.area.now (head_of found.head) found.records.now found.gate c.in-Some.ensures.some layout is
    (subst (λ (o : Option TableState). IsTextOf layout found.head.text.now o) c.in_default-2.is c.in_ok-first.ensures.encoded)

pub returns-in-None-clause-encoded : goal.returns-in-None-clause-encoded
returns-in-None-clause-encoded c =
    let found = c.in-Some.found in
    let layout = c.in-Some-of_byte.layout in
    let first = c.in-Some-2.first in
    let is : layout_of found.head.version ≡ Some layout = search rules in
    none_replayed c.args.area.now (head_of found.head) found.records.now found.gate c.in-Some.ensures.some layout is first
    (subst (λ (o : Option TableState). IsReplayed layout found.records.now first o) c.in-None.is c.in_ok-table.ensures.replayed)

pub returns-in-Some-3-clause-encoded : goal.returns-in-Some-3-clause-encoded
returns-in-Some-3-clause-encoded c =
    let found = c.in-Some.found in
    let layout = c.in-Some-of_byte.layout in
    let first = c.in-Some-2.first in
    let is : layout_of found.head.version ≡ Some layout = search rules in
    some_replayed c.args.area.now (head_of found.head) found.records.now found.gate c.in-Some.ensures.some layout is first
    c.in-Some-3.table
    (subst (λ (o : Option TableState). IsTextOf layout found.head.text.now o) c.in-Some-2.is c.in_ok-first.ensures.encoded)
    (subst (λ (o : Option TableState). IsReplayed layout found.records.now first o) c.in-Some-3.is c.in_ok-table.ensures.replayed)
