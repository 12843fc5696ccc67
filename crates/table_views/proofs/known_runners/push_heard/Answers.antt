use Rattle.std.proofs.Common.{◌≡◌, ◌∙◌, ◌++◌, List, ℕ, ap, ap₂, append_assoc, sym}
use Rattle.std.specs.Prelude.{codes, string_bytes, Ok}
use Rattle.table_views.specs.Members.{member, number_or_null}
use Rattle.table_views.specs.RunnerPages.{claimed_labels, labels_or_null}
use Rattle.table_views.proofs.Paging.{gives_ok}
use Rattle.table_views.proofs.known_runners.push_heard.Goals as goal

pub returns : goal.returns
returns c =
    let old = string_bytes c.args.text.now in
    let heard = number_or_null c.args.heard in
    let claimed = labels_or_null (claimed_labels c.args.runner.now.last) in
    let seconds : c.as_str.result.now ≡ heard = c.as_str.ensures.value ∙ sym (gives_ok string_bytes c.in_ok-seconds.seconds _ c.in_ok-seconds.ensures) in
    let labels : c.as_str-2.result.now ≡ claimed =
    c.as_str-2.ensures.value ∙ sym (gives_ok string_bytes c.in_ok-labels.labels _ c.in_ok-labels.ensures) ∙ ap labels_or_null c.labels_of.ensures in
    let first = c.in_ok-push_member.ensures ∙ ap (λ (v : List ℕ). old ++ member (codes "heard_seconds_ago") v) seconds in
    let both = c.in_ok-push_member-2.ensures ∙ ap₂ (λ (t v : List ℕ). t ++ member (codes "labels") v) first labels in
    ap Ok (sym (both ∙ append_assoc old (member (codes "heard_seconds_ago") heard) (member (codes "labels") claimed)))
