use Rattle.std.proofs.lemmas.Result.{on_ok_weaker}
use Rattle.std.specs.Prelude.{string_bytes}
use Rattle.table_views.proofs.SoFar.{after}
use Rattle.service_metrics.proofs.metrics.push_service.Goals as goal

pub returns : goal.returns
returns c =
    let old = string_bytes c.args.text.now in
    on_ok_weaker c.push_file.result
    (λ last. after old (string_bytes c.push.new.text) (string_bytes c.push_file.new.text) _ _
    (after old (string_bytes c.push_standing.new.text) (string_bytes c.push.new.text) _ _
    (after old (string_bytes c.push_silence.new.text) (string_bytes c.push_standing.new.text) _ _
    (after old (string_bytes c.push_clients.new.text) (string_bytes c.push_silence.new.text) _ _
    (after old (string_bytes c.push_program.new.text) (string_bytes c.push_clients.new.text) _ _
    c.in_ok-push_program.ensures c.in_ok-push_clients.ensures) c.in_ok-push_silence.ensures) c.in_ok-push_standing.ensures) c.in_ok-push.ensures) last)
    c.push_file.ensures
