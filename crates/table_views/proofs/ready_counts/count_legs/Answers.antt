use Rattle.std.proofs.Common.{◌<◌, ◌≤◌, ◌++◌, ℕ, List, length, take, get_or, refl, sym, subst, arith}
use Rattle.std.proofs.lemmas.List.{take_all}
use Rattle.table_model.specs.Runs.{leg_site}
use Rattle.table_model.specs.declared.sites.LegSite.{LegSite}
use Rattle.table_views.specs.NamedCounts.{AreCounts}
use Rattle.table_views.specs.TableMetrics.{asked_at}
use Rattle.table_views.proofs.AskedLists.{asked_more}
use Rattle.table_views.proofs.Claimed.{site_read}
use Rattle.table_views.proofs.ready_counts.count_legs.Goals as goal

pub loop-site-preserved : goal.loop-site-preserved
loop-site-preserved c = λ lists are.
    let runs = c.args.runs.now in
    let sites = c.args.sites.now in
    let i = c.loop-site.site-index in
    let lt : i < length sites = omega (arith, c.loop-site-test.true) in
    let p = get_or sites i (leg_site 0 0 0) in
    subst (λ (all : List (List ℕ)). AreCounts all c.count_leg.new.counts)
    (asked_more runs lists sites i p lt (sym (site_read sites i (leg_site 0 0 0) p lt refl)))
    (c.in_ok-count_leg.ensures (lists ++ asked_at runs (take i sites)) (c.loop-site.invariant lists are))

pub returns : goal.returns
returns c = λ lists are.
    let sites = c.args.sites.now in
    let past : length sites ≤ c.loop-site.site-index = omega (arith, c.loop-site-test.false) in
    subst (λ (ps : List LegSite). AreCounts (lists ++ asked_at c.args.runs.now ps) c.loop-site.counts)
    (take_all c.loop-site.site-index sites past) (c.loop-site.invariant lists are)
