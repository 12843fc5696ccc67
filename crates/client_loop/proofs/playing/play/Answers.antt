use Rattle.std.proofs.Common.{◌∙◌, ℕ, get_or, refl, subst, take}
use Rattle.client_loop.specs.Conversation.{Conversation}
use Rattle.client_loop.specs.Events.{Happens, Survives}
use Rattle.client_loop.specs.Slots.{by_port}
use Rattle.client_loop.proofs.Happening.{plays_next, plays_survive, stays_promised}
use Rattle.client_loop.specs.declared.event.Event.TheVariants.{Joins}
use Rattle.client_loop.proofs.playing.play.Goals as goal

pub loop-event-preserved : goal.loop-event-preserved
loop-event-preserved g c =
    let follows_by : ℕ → ℕ → Conversation → Type 0 = λ hooks. by_port hooks g.P.Protocol.rules g.Q.Protocol.rules in
    let p = follows_by c.args.service.now.slots.hooks in
    let disk = g.D.Disk in
    let during = Survives disk.honest disk.moment disk.images_since in
    let l = c.loop-event in
    let events = c.args.events.now in (
      plays_next during p c.args.service.now l.service c.happen.new.service events l.event-index (Joins 0) c.loop-event-test.true l.invariant.0
          (subst (λ (hooks : ℕ). Happens (follows_by hooks) l.service (get_or events l.event-index (Joins 0)) c.happen.new.service) l.invariant.1
          c.happen.ensures.happens) c.happen.ensures.survives,
      c.happen.ensures.survives.grows.hooks ∙ l.invariant.1,
    )

pub returns-clause-any_moment : goal.returns-clause-any_moment
returns-clause-any_moment g c =
    let p = by_port c.args.service.now.slots.hooks g.P.Protocol.rules g.Q.Protocol.rules in
    let now = by_port c.loop-event.service.slots.hooks g.P.Protocol.rules g.Q.Protocol.rules in
    let disk = g.D.Disk in
    let l = c.loop-event in
    (plays_survive p disk.honest disk.moment disk.images_since c.args.service.now l.service (take l.event-index c.args.events.now) l.invariant.0
    (stays_promised now disk.honest disk.moment disk.images_since disk.images g.met.D.Disk.only_now l.service l.service
    c.is_covered-covered.ensures.promise refl)).any_moment

pub returns-clause-grows : goal.returns-clause-grows
returns-clause-grows g c =
    let p = by_port c.args.service.now.slots.hooks g.P.Protocol.rules g.Q.Protocol.rules in
    let now = by_port c.loop-event.service.slots.hooks g.P.Protocol.rules g.Q.Protocol.rules in
    let disk = g.D.Disk in
    let l = c.loop-event in
    (plays_survive p disk.honest disk.moment disk.images_since c.args.service.now l.service (take l.event-index c.args.events.now) l.invariant.0
    (stays_promised now disk.honest disk.moment disk.images_since disk.images g.met.D.Disk.only_now l.service l.service
    c.is_covered-covered.ensures.promise refl)).grows

pub returns-clause-honest : goal.returns-clause-honest
returns-clause-honest g c =
    let p = by_port c.args.service.now.slots.hooks g.P.Protocol.rules g.Q.Protocol.rules in
    let now = by_port c.loop-event.service.slots.hooks g.P.Protocol.rules g.Q.Protocol.rules in
    let disk = g.D.Disk in
    let l = c.loop-event in
    (plays_survive p disk.honest disk.moment disk.images_since c.args.service.now l.service (take l.event-index c.args.events.now) l.invariant.0
    (stays_promised now disk.honest disk.moment disk.images_since disk.images g.met.D.Disk.only_now l.service l.service
    c.is_covered-covered.ensures.promise refl)).stays_honest
