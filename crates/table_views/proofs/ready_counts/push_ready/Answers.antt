use Rattle.std.proofs.Common.{◌∙◌, ℕ, List, ◌++◌, ap, ap₂}
use Rattle.std.proofs.lemmas.Result.{on_ok_weaker}
use Rattle.std.specs.Prelude.{codes, string_bytes}
use Rattle.std.specs.List.{flat_map}
use Rattle.table_views.specs.MetricLines.{head}
use Rattle.table_views.specs.NamedCounts.{named}
use Rattle.table_views.specs.TableMetrics.{asked, ready_value}
use Rattle.table_views.specs.declared.named_counts.NamedCount.{NamedCount}
use Rattle.table_views.proofs.AskedLists.{named_lines}
use Rattle.table_views.proofs.SoFar.{after}
use Rattle.table_views.proofs.ready_counts.push_ready.Goals as goal

pub returns : goal.returns
returns c =
    let all = asked c.args.runs.now in
    let are = c.in_ok-counts.ensures in
    let old = string_bytes c.args.text.now in
    let new = string_bytes c.push_ready_value.new.text in
    let begin = head (codes "acts_ready_legs") (codes "gauge") (codes "Ready legs by the labels that they ask for.") in
    let lines = flat_map (λ (n : NamedCount). ready_value n.name n.count) in
    on_ok_weaker c.push_ready_value.result
    (λ last. after old (string_bytes c.push_named.new.text) new _ (ready_value (codes "other") c.in_ok-counts.counts.other)
    (after old (string_bytes c.push_head.new.text) (string_bytes c.push_named.new.text) begin (lines c.as_slice.result.now)
    c.in_ok-push_head.ensures c.in_ok-push_named.ensures) last
    ∙ ap₂ (λ (some : List ℕ) (n : ℕ). old ++ (begin ++ some ++ ready_value (codes "other") n))
    (ap lines (c.as_slice.ensures.value ∙ are.each) ∙ named_lines all (named all)) are.other)
    c.push_ready_value.ensures
