use Rattle.std.proofs.Common.{◌≡◌, ◌∙◌, ◌++◌, ◌<◌, length, take, get_or, ap, sym, arith}
use Rattle.std.proofs.lemmas.List.{get_or-map, length-map}
use Rattle.std.specs.List.{flat_map}
use Rattle.table_model.specs.inner.Cells.{JobCells, states}
use Rattle.table_model.specs.Runs.{placed, leg_sites_of_job}
use Rattle.table_views.proofs.Placing.{added_more, one_more}
use Rattle.table_views.proofs.sites.push_legs_of_run.Goals as goal

pub loop-j-preserved : goal.loop-j-preserved
loop-j-preserved c =
    let jobs = c.jobs-jobs.result.now in
    let j = c.loop-j.j in
    let job = c.index-jobs-j.result in
    let within : j < length jobs = omega (arith, c.loop-j-test.true) in
    let lt : j < length (states jobs) = omega (arith, within, length-map jobs (λ (x : JobCells). x.state)) in
    let is : get_or (states jobs) j job.state ≡ job.state =
    get_or-map (λ (x : JobCells). x.state) jobs j job job.state within ∙ ap (λ (x : JobCells). x.state) (sym c.index-jobs-j.is) in
    record {
      added =
          added_more c.args.sites.now.items (flat_map (leg_sites_of_job c.args.r) (placed (take j (states jobs))))
          (leg_sites_of_job c.args.r (j, job.state)) c.loop-j.sites.items c.push_legs_of_job.new.sites.items c.loop-j.invariant.added c.in_ok-push_legs_of_job.ensures.sites
          ∙ ap (λ zs. c.args.sites.now.items ++ zs) (sym (one_more (leg_sites_of_job c.args.r) j (states jobs) job.state lt is));
      within = c.in_ok-push_legs_of_job.ensures.within;
    }
