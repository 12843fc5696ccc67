use Rattle.std.proofs.Common.{◌<◌, length, refl, arith}
use Rattle.table_model.specs.Runs.{leg_site}
use Rattle.table_views.specs.HolderPages.{row_of_holder}
use Rattle.table_views.proofs.Claimed.{leg_row_more, site_read}
use Rattle.table_views.proofs.group_holders.push_legs.Goals as goal

pub loop-site-preserved : goal.loop-site-preserved
loop-site-preserved c =
    let sites = c.args.sites.now in
    let i = c.loop-site.site-index in
    let lt : i < length sites = omega (arith, c.loop-site-test.true) in
    leg_row_more (row_of_holder c.args.filter.now c.args.runs.now) sites i _ c.args.rows.now.items _ _ lt
    (site_read sites i (leg_site 0 0 0) _ lt refl) c.loop-site.invariant c.in_ok-push_holder.ensures.rows
