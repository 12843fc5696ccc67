use Rattle.std.proofs.Common.{◌≡◌, get_or, rules, subst}
use Rattle.std.specs.Prelude.{vec_len}
use Rattle.act_desk.specs.Settled.{HasEnded}
use Rattle.act_desk.proofs.starting.fn.hold_all.scope.Goals as goal

pub returns : goal.returns
returns g c =
    let started = c.start_all-started.ensures in
    let ended = c.join_all-ended.ensures in
    let all = c.join_all-ended.result.items in
    let same : vec_len c.start_all-started.result ≡ vec_len c.captures.works = started.len in
    record {
      len = search rules;
      ended = λ i w t low.
          subst (λ (v : g.row.W.Denot). HasEnded (g.W.Work.ends v) (get_or all i t)) (started.each i w w (search rules)) (ended.ended i w t (search rules));
    }
