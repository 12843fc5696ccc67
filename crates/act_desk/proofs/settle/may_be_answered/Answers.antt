use Rattle.std.proofs.Common.{◌≡◌, ◌||◌, ◌++◌, ◌∷◌, [], List, false, rules, subst, sym, true}
use Rattle.act_sessions.specs.Exchange.{leaves_open, exchanges_in}
use Rattle.act_sessions.specs.declared.transcript.LoggedExchange.{LoggedExchange}
use Rattle.act_desk.specs.Settled.{AreDefinite, is_definite}
use Rattle.act_desk.proofs.Definite.{definite_before, definite_last, definite_with}
use Rattle.act_desk.proofs.settle.may_be_answered.Goals as goal

pub returns-then-not-may_be_last-clause-other : goal.returns-then-not-may_be_last-clause-other
returns-then-not-may_be_last-clause-other c =
    let last = c.in-Some.last.now in
    let prefix = c.in-Some.prefix.now in
    let split : c.args.asked.now ≡ prefix ++ last ∷ [] = search rules in
    let may : (is_definite last.answer || leaves_open last.answer) ≡ false = search rules in
    λ no are. let settles = definite_last prefix last (subst (λ (l : List LoggedExchange). AreDefinite (exchanges_in l)) split are) in absurd (cc (settles, may))

pub returns-else-not-may_be_last-clause-definite : goal.returns-else-not-may_be_last-clause-definite
returns-else-not-may_be_last-clause-definite c =
    let last = c.in-Some.last.now in
    let prefix = c.in-Some.prefix.now in
    let split : c.args.asked.now ≡ prefix ++ last ∷ [] = search rules in
    let may : (is_definite last.answer || leaves_open last.answer) ≡ true = search rules in
    λ yes. subst (λ (l : List LoggedExchange). AreDefinite (exchanges_in l)) (sym split) (definite_with prefix last (c.are_definite.ensures.each yes) may)

pub returns-else-not-may_be_last-clause-other : goal.returns-else-not-may_be_last-clause-other
returns-else-not-may_be_last-clause-other c =
    let last = c.in-Some.last.now in
    let prefix = c.in-Some.prefix.now in
    let split : c.args.asked.now ≡ prefix ++ last ∷ [] = search rules in
    λ no are. c.are_definite.ensures.not_each no
    (definite_before prefix last (subst (λ (l : List LoggedExchange). AreDefinite (exchanges_in l)) split are))
