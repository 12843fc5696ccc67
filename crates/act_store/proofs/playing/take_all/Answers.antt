use Rattle.std.proofs.Common.{◌+◌, ◌++◌, [], ◌∷◌, refl, rules, arith, sym, subst}
use Rattle.std.specs.Prelude.{OnErr}
use Rattle.act_store.specs.StoreState.{StoreState}
use Rattle.act_store.specs.Steps.{PlaysSome, Survives}
use Rattle.act_store.proofs.Plays.{first_played, plays_next}
use Rattle.act_store.proofs.playing.take_all.Goals as goal

pub returns-in_err-answer : goal.returns-in_err-answer
returns-in_err-answer g c =
    let disk = g.D.Disk in
    let l = c.loop-step in
    let during = Survives disk.honest disk.moment disk.fault_count disk.images_since in
    let result = c.from_residual.result in
    record {
      played = search rules;
      part = subst (λ (k : StoreState g.row.D.Denot). OnErr result (PlaysSome during c.args.store.now c.args.steps.now k))
          (sym c.in_err-answer.ensures.unchanged)
          (first_played during c.args.store.now c.args.steps.now result l.store l.step-index l.answers.items l.invariant);
      refused = search rules;
      empty = λ none. absurd (omega (arith, none));
    }

pub returns-in_err-push : goal.returns-in_err-push
returns-in_err-push g c =
    let disk = g.D.Disk in
    let l = c.loop-step in
    let old = c.args.store.now in
    let steps = c.args.steps.now in
    let new = c.take_step.new.store in
    let during = Survives disk.honest disk.moment disk.fault_count disk.images_since in
    let answer = c.in_ok-answer.answer in
    let answers = l.answers.items ++ answer ∷ [] in
    record {
      played = search rules;
      part = first_played during old steps c.from_residual-in_err-push.result new (l.step-index + 1) answers
          (plays_next during old steps l.store new l.step-index l.answers.items answers c.step-item.result answer
          c.loop-step-test.true c.step-item.is refl l.invariant c.in_ok-answer.ensures.takes c.in_ok-answer.ensures.survives);
      refused = search rules;
      empty = λ none. absurd (omega (arith, none));
    }

pub loop-step-preserved : goal.loop-step-preserved
loop-step-preserved g c =
    let disk = g.D.Disk in
    let l = c.loop-step in
    let during = Survives disk.honest disk.moment disk.fault_count disk.images_since in
    plays_next during c.args.store.now c.args.steps.now l.store c.take_step.new.store l.step-index l.answers.items c.push.new.self.items
    c.step-item.result c.in_ok-answer.answer c.loop-step-test.true c.step-item.is c.in_ok-push.ensures.items l.invariant
    c.in_ok-answer.ensures.takes c.in_ok-answer.ensures.survives
