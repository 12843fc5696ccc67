use Rattle.std.proofs.Common.{◌≡◌, ◌+◌, rules, ◌∙◌, get_or}
use Rattle.std.specs.Prelude.{vec_items, vec_len}
use Rattle.act_desk.proofs.Lists.{pushed_each}
use Rattle.act_desk.proofs.starting.start_all.Goals as goal

pub loop-work-preserved : goal.loop-work-preserved
loop-work-preserved g c =
    let was = c.loop-work.invariant in
    let step = c.in-Some.ensures.steps in
    let works = vec_items c.args.works in
    let n = vec_len c.loop-work.running in
    let pushed = c.push_reserved.ensures in
    let here : (w : g.row.W.Denot) → c.in-Some.work ≡ get_or works n w = λ w. let h = was.left 0 w in grind rules in
    let grown : vec_len c.push_reserved.new.self ≡ n + 1 = pushed.len in
    record {
      number = grind rules;
      room = grind rules;
      left = λ k w below. let h = was.left (k + 1) w in grind rules;
      each = λ i r w low.
          pushed_each (λ j x. x ≡ get_or works j w) (vec_items c.loop-work.running) (vec_items c.push_reserved.new.self) c.start.result n pushed.items
          (search rules) (λ j d less. was.each j d w less) (c.start.ensures ∙ here w) i r (grind rules);
    }
