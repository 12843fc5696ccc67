use Rattle.std.proofs.lemmas.Result.{on_ok_weaker}
use Rattle.std.specs.Prelude.{codes, string_bytes}
use Rattle.table_views.specs.LegCounting.{leg_line}
use Rattle.table_views.proofs.SoFar.{after}
use Rattle.table_views.proofs.leg_counts.push_counts.Goals as goal

pub returns : goal.returns
returns c =
    let counts = c.args.counts in
    let old = string_bytes c.args.text.now in
    on_ok_weaker c.push_leg_line-7.result
    (λ last. after old (string_bytes c.push_leg_line-6.new.text) (string_bytes c.push_leg_line-7.new.text) _
    (leg_line (codes "cancelled") counts.cancelled)
    (after old (string_bytes c.push_leg_line-5.new.text) (string_bytes c.push_leg_line-6.new.text) _
    (leg_line (codes "failure") counts.failure)
    (after old (string_bytes c.push_leg_line-4.new.text) (string_bytes c.push_leg_line-5.new.text) _
    (leg_line (codes "success") counts.success)
    (after old (string_bytes c.push_leg_line-3.new.text) (string_bytes c.push_leg_line-4.new.text) _
    (leg_line (codes "stopping") counts.stopping)
    (after old (string_bytes c.push_leg_line-2.new.text) (string_bytes c.push_leg_line-3.new.text) _
    (leg_line (codes "running") counts.running)
    (after old (string_bytes c.push_leg_line.new.text) (string_bytes c.push_leg_line-2.new.text) _
    (leg_line (codes "ready") counts.ready)
    (after old (string_bytes c.push_head.new.text) (string_bytes c.push_leg_line.new.text) _
    (leg_line (codes "waiting") counts.waiting)
    c.in_ok-push_head.ensures c.in_ok-push_leg_line.ensures) c.in_ok-push_leg_line-2.ensures) c.in_ok-push_leg_line-3.ensures) c.in_ok-push_leg_line-4.ensures) c.in_ok-push_leg_line-5.ensures) c.in_ok-push_leg_line-6.ensures) last)
    c.push_leg_line-7.ensures
