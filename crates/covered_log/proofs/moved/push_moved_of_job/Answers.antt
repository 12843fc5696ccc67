use Rattle.std.proofs.Common.{◌≡◌, ◌∙◌, ◌<◌, ℕ, List, ◌++◌, length, take, ap, sym, arith}
use Rattle.std.specs.List.{flat_map}
use Rattle.table_model.specs.Runs.{LegState, leg_site, placed}
use Rattle.table_model.specs.declared.sites.LegSite.{LegSite}
use Rattle.table_views.proofs.Placing.{added_more, one_more}
use Rattle.table_views.specs.declared.told_legs.LegNews.{LegNews}
use Rattle.covered_log.specs.Standings.{moved_leg}
use Rattle.covered_log.proofs.moved.push_moved_of_job.Goals as goal

pub loop-l-preserved : goal.loop-l-preserved
loop-l-preserved c =
    let legs = c.args.legs.now in
    let l = c.loop-l.l in
    let leg = c.index-legs-l.result in
    let one : LegSite → LegState → List LegNews =
    λ p x. moved_leg c.args.look.now.names.now c.args.look.now.table.now c.args.told.now c.args.run.now p x in
    let f : ℕ × LegState → List LegNews = λ x. one (leg_site c.args.job.run c.args.job.job x.0) x.1 in
    let lt : l < length legs = omega (arith, c.loop-l-test.true) in
    let more : c.push_moved.new.moved.items ≡ c.loop-l.moved.items ++ f (l, leg) =
    c.in_ok-push_moved.ensures ∙ ap (λ (p : LegSite). c.loop-l.moved.items ++ one p leg) c.new-site.ensures in
    added_more c.args.moved.now.items (flat_map f (placed (take l legs))) (f (l, leg)) c.loop-l.moved.items c.push_moved.new.moved.items
    c.loop-l.invariant more
    ∙ ap (λ (zs : List LegNews). c.args.moved.now.items ++ zs) (sym (one_more f l legs leg lt (sym c.index-legs-l.is)))
