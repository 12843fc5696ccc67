use Rattle.label_lists.proofs.Entering.{enters_twice}
use Rattle.label_lists.proofs.Passed.{none_where_passed, some_where_not}
use Rattle.label_lists.proofs.known_lists.KnownLists.enter.Goals as goal

pub returns-in_err-has_place-clause-enters : goal.returns-in_err-has_place-clause-enters
returns-in_err-has_place-clause-enters c = enters_twice _ _ _ c.in_ok-number.ensures.enters c.in_err-has_place.ensures.enters

pub returns-then-not-has_place-clause-enters : goal.returns-then-not-has_place-clause-enters
returns-then-not-has_place-clause-enters c = enters_twice _ _ _ c.in_ok-number.ensures.enters c.in_ok-has_place.ensures.enters

pub returns-clause-enters : goal.returns-clause-enters
returns-clause-enters c = enters_twice _ _ _ c.in_ok-number.ensures.enters c.in_ok-has_place.ensures.enters

pub returns-then-not-has_place-clause-none : goal.returns-then-not-has_place-clause-none
returns-then-not-has_place-clause-none c =
    let number = c.in_ok-number.ensures in
    none_where_passed c.args.self.now c.number_of.new.self.requesting number.requests c.args.labels.now c.in_ok-number.number c.args.run number.keeps number.had
    c.in_ok-has_place.has_place c.if-not-has_place.true c.in_ok-has_place.ensures.refused

pub returns-clause-none : goal.returns-clause-none
returns-clause-none c =
    let number = c.in_ok-number.ensures in
    some_where_not c.args.self.now c.number_of.new.self.requesting number.requests c.args.labels.now c.in_ok-number.number c.args.run number.keeps number.had
    c.in_ok-has_place.has_place c.if-not-has_place.false c.in_ok-has_place.ensures.refused
