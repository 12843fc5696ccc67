use Rattle.std.proofs.Common.{◌≡◌, ◌+◌, rules, get_or, subst}
use Rattle.std.specs.Prelude.{vec_items, vec_len}
use Rattle.act_sessions.specs.declared.transcript.Transcript.{Transcript}
use Rattle.act_desk.specs.Settled.{HasEnded}
use Rattle.act_desk.proofs.Lists.{pushed_each}
use Rattle.act_desk.proofs.starting.join_all.Goals as goal

pub loop-session-preserved : goal.loop-session-preserved
loop-session-preserved g c =
    let was = c.loop-session.invariant in
    let step = c.in-Some.ensures.steps in
    let all = vec_items c.args.running in
    let done = vec_len c.loop-session.transcripts in
    let pushed = c.push_reserved.ensures in
    let here : (w : g.row.W.Denot) → c.in-Some.session ≡ get_or all done w = λ w. let h = was.left 0 w in grind rules in
    let grown : vec_len c.push_reserved.new.self ≡ done + 1 = pushed.len in
    record {
      number = grind rules;
      room = grind rules;
      left = λ k w below. let h = was.left (k + 1) w in grind rules;
      each = λ i w t low.
          pushed_each (λ j (x : Transcript). HasEnded (g.W.Work.ends (get_or all j w)) x) (vec_items c.loop-session.transcripts) (vec_items c.push_reserved.new.self) c.join.result done pushed.items
          (search rules) (λ j d less. was.each j w d less)
          (subst (λ (v : g.row.W.Denot). HasEnded (g.W.Work.ends v) c.join.result) (here w) c.join.ensures)
          i t (grind rules);
    }

pub returns : goal.returns
returns g c =
    let n = c.loop-session.invariant.number in
    let steps = c.in-None.ensures.steps in
    let all : vec_len c.loop-session.transcripts ≡ vec_len c.args.running = search rules in
    record {
      len = search rules;
      ended = λ i w t low. c.loop-session.invariant.each i w t (search rules);
    }
