use Rattle.std.proofs.Common.{◌∙◌, ◌<◌, List, length, ap, arith}
use Rattle.covered_log.specs.Lines.{Change, LegStands, with_more}
use Rattle.covered_log.proofs.Telling.{one_leg_more}
use Rattle.covered_log.proofs.log.CoveredLog.tell_legs.Goals as goal

pub loop-news-preserved : goal.loop-news-preserved
loop-news-preserved c =
    let legs = c.args.legs.now in
    let i = c.loop-news.news-index in
    let news = c.news-item.result in
    let within : i < length legs = omega (arith, c.loop-news-test.true) in
    record {
      told = c.tell_leg.ensures.told ∙ ap (λ (cs : List Change). with_more cs (LegStands c.args.at news)) c.loop-news.invariant.told
          ∙ one_leg_more c.args.self.now.changes c.args.at legs i news within c.news-item.is;
      entries = c.tell_leg.ensures.entries ∙ c.loop-news.invariant.entries;
    }
