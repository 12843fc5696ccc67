use Rattle.std.proofs.Common.{◌≡◌, ◌≤◌, ℕ, Ok, arith, false, length, subst, sym}
use Rattle.std.specs.Prelude.{Option, Some, nat_lt}
use Rattle.std.proofs.lemmas.Bool.Decides.{nat_tests}
use Rattle.act_sessions.specs.Taking.{Finds}
use Rattle.client_loop.specs.declared.pause.Pause.{Pause}
use Rattle.client_loop.specs.inner.Turns.{EndsRound, Moment}
use Rattle.client_loop.proofs.TurnsSoFar.{round_ends}
use Rattle.client_loop.proofs.turns.take_round.Goals as goal

not_less : (a b : ℕ) → nat_lt a b ≡ false → b ≤ a
not_less a b stays = grind (arith, nat_tests)

pub returns : goal.returns
returns g c n most bytes begin below short goes =
    let p = g.P.Protocol.rules in
    let mid : Moment g.row.D.Denot = record { store = c.args.store.now; exchanges = c.args.exchanges.now; out = c.args.out.now.items } in
    let new : Moment g.row.D.Denot =
    record { store = c.append_turn-last.new.store; exchanges = c.append_turn-last.new.exchanges; out = c.append_turn-last.new.out.items } in
    let left = c.next_request.new.self in
    let found : Finds p c.args.held.now left (Ok (Some c.in-Ok-Some.request)) = rw c.in-Ok-Some.field-0-is at c.in-Ok-Some.ensures in
    let grown : nat_lt c.entries-before.result c.entries.result ≡ false → length new.store.history ≤ length mid.store.history =
    λ stays. let less = not_less c.entries-before.result c.entries.result stays in
    let before = c.entries-before.ensures in
    let after = c.entries.ensures in
    omega (arith, less, before, after) in
    subst (λ (r : Option Pause). EndsRound p c.args.number n most bytes begin new c.args.count left r) (sym c.pause_after.ensures)
    (round_ends p c.args.number n most bytes begin mid new c.args.count c.args.held.now left c.in-Ok-Some.request below short goes found.0
    c.append_turn-last.result c.append_turn-last.ensures (nat_lt c.entries-before.result c.entries.result) grown)
