use Rattle.std.proofs.Common.{◌∙◌, ◌++◌, ◌<◌, length, ap, sym, arith}
use Rattle.table_model.specs.Runs.{leg_sites_of_run}
use Rattle.table_views.proofs.Placing.{one_more}
use Rattle.table_views.proofs.sites.leg_sites.Goals as goal

pub loop-r-preserved : goal.loop-r-preserved
loop-r-preserved c =
    let runs = c.as_slice-all.result.now in
    let r = c.loop-r.r in
    let run = c.index-all-r.result in
    let lt : r < length runs = omega (arith, c.loop-r-test.true) in
    record {
      added =
          c.in_ok-push_legs_of_run.ensures.sites ∙ ap (λ zs. zs ++ leg_sites_of_run (r, run)) c.loop-r.invariant.added
          ∙ sym (one_more leg_sites_of_run r runs run lt (sym c.index-all-r.is));
      within = c.in_ok-push_legs_of_run.ensures.within;
    }
