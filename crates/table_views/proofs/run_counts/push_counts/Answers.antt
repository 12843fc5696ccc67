use Rattle.std.proofs.Common.{[]}
use Rattle.std.proofs.lemmas.Result.{on_ok_weaker}
use Rattle.std.specs.Prelude.{codes, string_bytes}
use Rattle.table_views.specs.RunCounting.{run_line}
use Rattle.table_views.proofs.SoFar.{after}
use Rattle.table_views.proofs.run_counts.push_counts.Goals as goal

pub returns : goal.returns
returns c =
    let counts = c.args.counts in
    let old = string_bytes c.args.text.now in
    on_ok_weaker c.push_run_line-6.result
    (λ last. after old (string_bytes c.push_run_line-5.new.text) (string_bytes c.push_run_line-6.new.text) _
    (run_line (codes "completed") (codes "cancelled") counts.cancelled)
    (after old (string_bytes c.push_run_line-4.new.text) (string_bytes c.push_run_line-5.new.text) _
    (run_line (codes "completed") (codes "failure") counts.failure)
    (after old (string_bytes c.push_run_line-3.new.text) (string_bytes c.push_run_line-4.new.text) _
    (run_line (codes "completed") (codes "success") counts.success)
    (after old (string_bytes c.push_run_line-2.new.text) (string_bytes c.push_run_line-3.new.text) _
    (run_line (codes "in_progress") [] counts.in_progress)
    (after old (string_bytes c.push_run_line.new.text) (string_bytes c.push_run_line-2.new.text) _
    (run_line (codes "queued") [] counts.queued)
    (after old (string_bytes c.push_head.new.text) (string_bytes c.push_run_line.new.text) _
    (run_line (codes "pending") [] counts.pending)
    c.in_ok-push_head.ensures c.in_ok-push_run_line.ensures) c.in_ok-push_run_line-2.ensures) c.in_ok-push_run_line-3.ensures) c.in_ok-push_run_line-4.ensures) c.in_ok-push_run_line-5.ensures) last)
    c.push_run_line-6.ensures
