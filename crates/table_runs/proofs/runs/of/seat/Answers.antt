use Rattle.std.specs.Prelude.{◌≡◌, Option, None, Some, false, is_some, option_copied, true}
use Rattle.std.proofs.Common.{ap, rules, sym, ◌∙◌}
use Rattle.std.proofs.lemmas.Bool.{and_from}
use Rattle.std.proofs.lemmas.Option.{same_Some}
use Rattle.group_book.specs.Books.{slot_in}
use Rattle.group_name.specs.Group.{Group}
use Rattle.table_model.specs.Groups.{group_at}
use Rattle.table_model.specs.GroupLaw.{same_holder}
use Rattle.table_model.proofs.Optional.{some_of}
use Rattle.settling_laws.proofs.ArrivalKeeps.{itself}
use Rattle.table_runs.specs.inner.Seating.{in_slot, is_of}
use Rattle.table_runs.proofs.Seating.{group_by_key, in_no_group, its_place_is_taken, no_seat_for, one_seated}
use Rattle.table_runs.proofs.runs.of.seat.Goals as goal
use Rattle.table_runs.proofs.runs.of.seat.Goals.{In-Some}

pub returns-then-not-is_of-clause-taken : goal.returns-then-not-is_of-clause-taken
returns-then-not-is_of-clause-taken c =
    let fails : is_of c.args.slot c.args.rows.now.runs c.args.holder.now ≡ false = search rules in
    no_seat_for c.args.slot c.args.rows.now.runs c.args.rows.now.bindings c.args.book.now.entries c.args.holder.now fails

pub returns-in_default-clause-taken : goal.returns-in_default-clause-taken
returns-in_default-clause-taken c =
    let has : is_of c.args.slot c.args.rows.now.runs c.args.holder.now ≡ true = search rules in
    let none : c.key.result ≡ None = search rules in
    in_no_group c.args.slot c.args.rows.now.runs c.args.rows.now.bindings c.args.book.now.entries c.args.holder.now
    (sym (group_by_key c.args.slot c.args.rows.now.runs c.args.rows.now.bindings c.args.book.now c.args.holder.now has c.requires.seats)
    ∙ sym c.key.ensures ∙ ap option_copied none)

in_group : (c : In-Some) → is_of c.args.slot c.args.rows.now.runs c.args.holder.now ≡ true
    → group_at c.args.rows.now.runs c.args.holder.now ≡ Some c.in-Some.group.now
in_group c has =
    sym (group_by_key c.args.slot c.args.rows.now.runs c.args.rows.now.bindings c.args.book.now c.args.holder.now has c.requires.seats)
    ∙ sym c.in-Some.ensures

pub returns-then-is_some-clause-taken : goal.returns-then-is_some-clause-taken
returns-then-is_some-clause-taken c =
    let has : is_of c.args.slot c.args.rows.now.runs c.args.holder.now ≡ true = search rules in
    let some : is_some c.in_slot.result ≡ true = search rules in
    let k = some_of c.in_slot.result some in
    its_place_is_taken c.args.slot c.args.rows.now.runs c.args.book.now.entries c.args.holder.now k.0 c.in-Some.group.now has
    (in_group (goal.at.returns-then-is_some-clause-taken c).In-Some has) (sym c.in_slot.ensures ∙ k.1)

none_there : {X : Type 0} (o : Option X) → is_some o ≡ false → o ≡ None
none_there None e = cc
none_there (Some x) e = cc

pub arrive-requires : goal.arrive-requires
arrive-requires c =
    let has : is_of c.args.slot c.args.rows.now.runs c.args.holder.now ≡ true = search rules in
    let free : is_some c.in_slot.result ≡ false = search rules in
    record {
      seats = c.requires.seats;
      has = has;
      key = c.requires.keys c.args.holder.now
          (and_from (is_of c.args.slot c.args.rows.now.runs c.args.holder.now) (same_holder c.args.holder.now c.args.holder.now) has
          (itself c.args.holder.now));
      free = λ g its.
          let same = same_Some g c.in-Some.group.now (sym its ∙ in_group (goal.at.arrive-requires c).In-Some has) in
          ap (λ (k : Group). in_slot c.args.slot (slot_in c.args.book.now.entries k)) same ∙ sym c.in_slot.ensures ∙ none_there c.in_slot.result free;
    }

pub returns-clause-taken : goal.returns-clause-taken
returns-clause-taken c =
    let has : is_of c.args.slot c.args.rows.now.runs c.args.holder.now ≡ true = search rules in
    let free : is_some c.in_slot.result ≡ false = search rules in
    let its = in_group (goal.at.returns-clause-taken c).In-Some has in
    one_seated c.args.slot c.args.rows.now.runs c.args.rows.now.bindings c.arrive.new.rows.bindings c.args.book.now.entries
    c.arrive.new.book.entries c.args.holder.now c.in-Some.group.now has its (sym c.in_slot.ensures ∙ none_there c.in_slot.result free)
    c.arrive.ensures.keys (c.arrive.ensures.sits c.in-Some.group.now its)
