use Rattle.std.proofs.lemmas.Result.{on_ok_weaker}
use Rattle.std.specs.Prelude.{string_bytes}
use Rattle.table_views.proofs.SoFar.{after}
use Rattle.service_metrics.proofs.gauges.push_clients.Goals as goal

pub returns : goal.returns
returns c =
    let old = string_bytes c.args.text.now in
    on_ok_weaker c.push_value-3.result
    (λ last. after old (string_bytes c.push_value-2.new.text) (string_bytes c.push_value-3.new.text) _ _
    (after old (string_bytes c.push_value.new.text) (string_bytes c.push_value-2.new.text) _ _
    (after old (string_bytes c.push_head.new.text) (string_bytes c.push_value.new.text) _ _
    c.in_ok-push_head.ensures c.in_ok-push_value.ensures) c.in_ok-push_value-2.ensures) last)
    c.push_value-3.ensures
