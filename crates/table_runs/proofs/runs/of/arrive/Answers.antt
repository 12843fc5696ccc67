use Rattle.std.specs.Prelude.{◌≡◌, List, Some}
use Rattle.std.proofs.Common.{◌+◌, arith, ap, subst, sym, ◌∙◌}
use Rattle.std.proofs.lemmas.Option.{same_Some}
use Rattle.group_name.specs.Group.{Group}
use Rattle.table_model.specs.Groups.{group_at}
use Rattle.table_model.specs.Runs.{RunState}
use Rattle.table_bindings.specs.declared.bindings.RunBindings.{RunBindings}
use Rattle.table_runs.specs.inner.RowsKept.{holder_key_at, key_at, keys_spent}
use Rattle.table_runs.specs.inner.Seating.{HasSeats, SitsDown}
use Rattle.table_runs.proofs.Seating.{free_still, key_after, room_for_it, seats_still, seats_without, sits_down}
use Rattle.table_runs.proofs.SpentThere.{another_key}
use Rattle.table_runs.proofs.runs.of.arrive.Goals as goal
use Rattle.table_runs.proofs.runs.of.arrive.Goals.{After-begin_at_once, In-Some}

its_group : (c : In-Some) → group_at c.args.rows.now.runs c.args.holder.now ≡ Some c.in-Some.group
its_group c = sym c.requires.key ∙ sym c.in-Some.ensures.ticket

pub arrive-requires : goal.arrive-requires
arrive-requires c =
    room_for_it c.args.slot c.args.rows.now.runs c.args.rows.now.bindings c.args.book.now c.args.holder.now c.in-Some.group
    (its_group (goal.at.arrive-requires c).In-Some) c.requires.key c.requires.seats

pub begin_at_once-requires : goal.begin_at_once-requires
begin_at_once-requires c = λ g is key.
    let runs = c.args.rows.now.runs in
    let its = its_group (goal.at.begin_at_once-requires c).In-Some in
    let knows = ap (λ bs. key_at bs c.args.holder.now) c.in-Some.ensures.spent
    ∙ key_after c.args.slot runs c.args.rows.now.bindings c.args.book.now c.args.holder.now c.requires.has c.requires.seats in
    free_still c.args.slot c.args.holder.now c.in-Some.group g c.args.book.now.entries c.arrive.new.self.entries is
    (same_Some c.in-Some.group g (sym its ∙ sym knows ∙ key)) (c.requires.free c.in-Some.group its) c.arrive.ensures.slots

pub returns-in_default-clause-seats : goal.returns-in_default-clause-seats
returns-in_default-clause-seats c =
    subst (λ (bs : List RunBindings). HasSeats c.args.slot c.spend.new.self.runs bs c.args.book.now) (sym c.in_default.ensures.spent)
    (subst (λ (rs : List RunState). HasSeats c.args.slot rs (keys_spent c.args.holder.now c.args.rows.now.bindings) c.args.book.now)
    (sym c.in_default.ensures.runs)
    (seats_without c.args.slot c.args.rows.now.runs c.args.rows.now.bindings c.args.book.now c.args.holder.now c.requires.has c.requires.seats))

pub returns-in_default-clause-keys : goal.returns-in_default-clause-keys
returns-in_default-clause-keys c = λ h other.
    ap (λ bs. holder_key_at bs h) c.in_default.ensures.spent ∙ another_key c.args.holder.now h c.args.rows.now.bindings other

-- it has sat down
sat : (c : After-begin_at_once) → SitsDown c.args.slot c.args.holder.now c.in-Some.group c.args.book.now.entries c.begin_at_once.new.book.entries
sat c =
    let its = sym c.requires.key ∙ sym c.in-Some.ensures.ticket in
    let knows = ap (λ bs. key_at bs c.args.holder.now) c.in-Some.ensures.spent
    ∙ key_after c.args.slot c.args.rows.now.runs c.args.rows.now.bindings c.args.book.now c.args.holder.now c.requires.has c.requires.seats in
    sits_down c.args.slot c.args.holder.now c.in-Some.group (key_at c.spend.new.self.bindings c.args.holder.now) c.args.book.now.entries
    c.arrive.new.self.entries c.begin_at_once.new.book.entries c.requires.seats.beside (knows ∙ its) c.arrive.ensures.slots
    c.begin_at_once.ensures.begins

pub returns-clause-seats : goal.returns-clause-seats
returns-clause-seats c =
    let fewer : c.begin_at_once.new.book.expected + 1 ≡ c.args.book.now.expected =
    omega (arith, c.begin_at_once.ensures.expected, c.arrive.ensures.expected) in
    subst (λ (bs : List RunBindings). HasSeats c.args.slot c.spend.new.self.runs bs c.begin_at_once.new.book) (sym c.in-Some.ensures.spent)
    (subst (λ (rs : List RunState). HasSeats c.args.slot rs (keys_spent c.args.holder.now c.args.rows.now.bindings) c.begin_at_once.new.book)
    (sym c.in-Some.ensures.runs)
    (seats_still c.args.slot c.args.rows.now.runs c.args.rows.now.bindings c.args.book.now c.begin_at_once.new.book c.args.holder.now
    c.in-Some.group c.requires.has (its_group (goal.at.returns-clause-seats c).In-Some) c.requires.key
    (sat (goal.at.returns-clause-seats c).After-begin_at_once) fewer c.requires.seats))

pub returns-clause-keys : goal.returns-clause-keys
returns-clause-keys c = λ h other.
    ap (λ bs. holder_key_at bs h) c.in-Some.ensures.spent ∙ another_key c.args.holder.now h c.args.rows.now.bindings other

pub returns-clause-sits : goal.returns-clause-sits
returns-clause-sits c = λ g its.
    subst (λ (k : Group). SitsDown c.args.slot c.args.holder.now k c.args.book.now.entries c.begin_at_once.new.book.entries)
    (same_Some c.in-Some.group g (sym (its_group (goal.at.returns-clause-sits c).In-Some) ∙ its))
    (sat (goal.at.returns-clause-sits c).After-begin_at_once)
