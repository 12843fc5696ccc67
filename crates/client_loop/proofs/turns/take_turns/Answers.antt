use Rattle.std.proofs.Common.{arith, inr, min, length, ℕ, ◌+◌, ◌<◌, ◌≡◌}
use Rattle.std.specs.Prelude.{None}
use Rattle.definitions.specs.Limits.{max_withheld}
use Rattle.client_loop.specs.inner.Turns.{EndsRound, Moment}
use Rattle.client_loop.proofs.TurnsSoFar.{goes_pauses}
use Rattle.client_loop.proofs.turns.take_turns.Goals as goal

below_end : (turns count most all end : ℕ) → turns < end → end ≡ min (count + most) all → turns < count + most
below_end turns count most all end less is = omega arith

pub returns-then-len-ge-MAX_WITHHELD : goal.returns-then-len-ge-MAX_WITHHELD
returns-then-len-ge-MAX_WITHHELD g c =
    let l = c.rounds in
    let p = g.P.Protocol.rules in
    let begin : Moment g.row.D.Denot = record { store = c.args.store.now; exchanges = c.args.exchanges.now; out = c.args.out.now.items } in
    let now : Moment g.row.D.Denot = record { store = l.store; exchanges = l.exchanges; out = l.out.items } in
    let below = below_end l.turns c.args.count.now c.args.most c.most.result c.last_turn-end.result c.rounds-test.true c.last_turn-end.ensures in
    goes_pauses p c.args.number c.args.count.now c.args.most c.args.held.now begin now l.turns l.held (omega (arith, below)) l.invariant
    (inr (omega (arith, c.if-len-ge-MAX_WITHHELD.true)))

pub returns-in-Some : goal.returns-in-Some
returns-in-Some g c =
    let l = c.rounds in
    let short : length l.out.items < max_withheld = omega (arith, c.if-len-ge-MAX_WITHHELD.false) in
    c.in-Some.ensures c.args.count.now c.args.most c.args.held.now
    (record { store = c.args.store.now; exchanges = c.args.exchanges.now; out = c.args.out.now.items })
    (below_end l.turns c.args.count.now c.args.most c.most.result c.last_turn-end.result c.rounds-test.true c.last_turn-end.ensures) short l.invariant

pub rounds-preserved : goal.rounds-preserved
rounds-preserved g c =
    let l = c.rounds in
    let p = g.P.Protocol.rules in
    let begin : Moment g.row.D.Denot = record { store = c.args.store.now; exchanges = c.args.exchanges.now; out = c.args.out.now.items } in
    let new : Moment g.row.D.Denot = record { store = c.take_round.new.store; exchanges = c.take_round.new.exchanges; out = c.take_round.new.out.items } in
    let short : length l.out.items < max_withheld = omega (arith, c.if-len-ge-MAX_WITHHELD.false) in
    let round : EndsRound p c.args.number c.args.count.now c.args.most c.args.held.now begin new l.turns c.take_round.new.held None =
    rw c.in_default.is at (c.take_round.ensures c.args.count.now c.args.most c.args.held.now begin
    (below_end l.turns c.args.count.now c.args.most c.most.result c.last_turn-end.result c.rounds-test.true c.last_turn-end.ensures) short l.invariant) in
    round
