use Rattle.std.proofs.Common.{◌≡◌, ◌∙◌, ◌||◌, ◌+◌, ◌-◌, ap, arith, subst, sym}
use Rattle.act_store.specs.StoreState.{StoreState}
use Rattle.service_rounds.specs.Rounds.{RoundsEnded}
use Rattle.service_rounds.proofs.Held.{ends_served, first_round, next_round}
use Rattle.service_rounds.proofs.serve.serve_rounds.Goals as goal
use Rattle.service_rounds.proofs.serve.serve_rounds.Goals.{then-broken, else-broken}

pub loop-init : goal.loop-init
loop-init g c = (
  omega arith,
  first_round c.args.hooks.now c.args.runners.now c.args.sessions (g.O.Write.contents c.args.out.now)
      (g.O.Write.contents c.tell_ready.new.out) (g.O.Write.contents c.serve_round.new.out) c.in_ok-round.round.broken
      c.args.store.base c.in_ok-round.round.store.base c.in_ok-round.round.store.history
      (c.in_ok-round.ensures.base ∙ c.in_ok-store.ensures.same.1) c.in_ok-tell_ready.ensures.announced c.in_ok-round.ensures.announced
      (record {
        connections = c.in_ok-first.first.items;
        count = c.in_ok-first.ensures.count;
        alternate = c.in_ok-first.ensures.alternate;
        held = c.in_ok-round.ensures.held;
      }),
)

pub loop-preserved : goal.loop-preserved
loop-preserved g c =
    let now = c.in_ok-round-2.round.broken in
    let broken : c.if-broken.broken ≡ (c.loop.broken || now) =
    elim c.if-broken.branch [
      | then-broken w ↦ w.broken-is ∙ w.if-broken.true ∙ sym (ap (λ b. b || now) w.if-broken.true)
      | else-broken w ↦ w.broken-is ∙ sym (ap (λ b. b || now) w.if-broken.false)
    ] in
    let before = g.O.Write.contents c.args.out.now in
    let after = g.O.Write.contents c.serve_next.new.out in
    let base = c.in_ok-round-2.round.store.base in
    let history = c.in_ok-round-2.round.store.history in (
      omega (arith, c.loop-test.true),
      subst (λ b. RoundsEnded c.args.hooks.now c.args.runners.now c.args.sessions (c.loop.counter + 1) b before after c.args.store.base base history) (sym broken)
          (next_round c.args.hooks.now c.args.runners.now c.args.sessions c.loop.counter c.loop.broken now before
          (g.O.Write.contents c.loop.out) after c.args.store.base c.loop.round.store.base base c.loop.round.store.history history
          c.loop.invariant.1 c.in_ok-round-2.ensures.base c.in_ok-round-2.ensures.announced c.in_ok-round-2.ensures.ended),
    )

pub returns : goal.returns
returns g c =
    let all : c.loop.counter ≡ c.args.rounds - 1 + 1 = omega (arith, c.loop-test.false, c.loop.invariant.0, c.loop.auto.counter) in
    record {
      served = ends_served c.args.hooks.now c.args.runners.now c.args.sessions (λ (s : StoreState _). s.base) (λ (s : StoreState _). s.history)
          c.loop.round.store c.ended.result c.args.rounds c.loop.counter c.loop.broken (g.O.Write.contents c.args.out.now)
          (g.O.Write.contents c.loop.out) c.args.store.base c.ended.ensures.ok all c.loop.invariant.1;
    }
