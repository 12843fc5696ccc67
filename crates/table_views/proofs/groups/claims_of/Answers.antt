use Rattle.std.specs.Prelude.{refl}
use Rattle.std.proofs.Common.{ℕ, ◌<◌, length, map, arith}
use Rattle.table_model.specs.Runs.{placed, RunState, leg_site}
use Rattle.table_views.proofs.Claimed.{leg_claimed, site_read, run_claimed}
use Rattle.table_views.proofs.groups.claims_of.Goals as goal
use Rattle.table_model.specs.declared.holder.Holder.TheVariants.{Run}

pub loop-r-preserved : goal.loop-r-preserved
loop-r-preserved c =
    run_claimed c.args.runs.now c.loop-r.r _ _ (omega (arith, c.loop-r-test.true, c.len-r-end.ensures.len)) c.loop-r.invariant
    c.in_ok-push_claim.ensures.added

pub loop-site-preserved : goal.loop-site-preserved
loop-site-preserved c =
    let sites = c.args.sites.now in
    let i = c.loop-site.site-index in
    let lt : i < length sites = omega (arith, c.loop-site-test.true) in
    leg_claimed c.args.runs.now (map (λ (x : ℕ × RunState). Run x.0) (placed c.args.runs.now)) sites i _ _ _ lt
    (site_read sites i (leg_site 0 0 0) _ lt refl) c.loop-site.invariant c.in_ok-push_claim-2.ensures.added
