use Rattle.std.proofs.lemmas.Result.{on_ok_weaker}
use Rattle.std.specs.Prelude.{string_bytes}
use Rattle.table_views.proofs.SoFar.{after}
use Rattle.service_metrics.proofs.gauges.push_file.Goals as goal

pub returns : goal.returns
returns c =
    let old = string_bytes c.args.text.now in
    on_ok_weaker c.push_metric-4.result
    (λ last. after old (string_bytes c.push_metric-3.new.text) (string_bytes c.push_metric-4.new.text) _ _
    (after old (string_bytes c.push_metric-2.new.text) (string_bytes c.push_metric-3.new.text) _ _
    (after old (string_bytes c.push_metric.new.text) (string_bytes c.push_metric-2.new.text) _ _
    c.in_ok-push_metric.ensures c.in_ok-push_metric-2.ensures) c.in_ok-push_metric-3.ensures) last)
    c.push_metric-4.ensures
