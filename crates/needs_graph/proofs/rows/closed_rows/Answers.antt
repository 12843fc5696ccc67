use Rattle.std.proofs.Common.{◌≡◌, ◌∙◌, ◌+◌, ◌++◌, ◌<◌, [], take, suc, length, map, ap, arith}
use Rattle.std.specs.List.{slice_index_or}
use Rattle.std.proofs.lemmas.List.{append-nil, drop_all, get_or_default, length-map, take_all}
use Rattle.needs_graph.specs.inner.JobBitmap.{through, closed}
use Rattle.needs_graph.proofs.Closure.{length-closed}
use Rattle.needs_graph.proofs.MarkSteps.{through_same}
use Rattle.needs_graph.proofs.rows.closed_rows.Goals as goal

pub loop-job-preserved : goal.loop-job-preserved
loop-job-preserved c =
    let job = c.loop-job.job in
    let before = c.loop-job.reached.items in
    let after = c.lead_all_through.new.rows in
    let others = c.index.result.now in
    let wide : length before ≡ length c.args.rows.items = ap length c.loop-job.invariant ∙ length-closed job c.args.rows.items in
    let below : job < length before = omega (arith, wide) in
    let at_job = c.index.ensures ∙ get_or_default before job others [] below in
    let led : after ≡ map (through job others) before = c.lead_all_through.ensures
    ∙ (through_same job others c.in_ok-others.others _ c.in_ok-others.ensures
    ∙ ap (map (through job others)) c.as_mut_slice.ensures.value) in
    let kept : length after ≡ length before = ap length led ∙ length-map before (through job others) in
    let whole = ap (λ l. take c.loop-job.reached.len (after ++ l)) (drop_all (length after) before (omega (arith, kept)))
    ∙ (ap (take c.loop-job.reached.len) (append-nil after)
    ∙ take_all c.loop-job.reached.len after (omega (arith, kept, c.as_mut_slice.ensures.len))) in
    let next : suc job ≡ job + 1 = omega arith in
    whole ∙ (led
    ∙ (ap (λ o. map (through job o) before) at_job
    ∙ (ap (λ b. map (through job (slice_index_or b job [])) b) c.loop-job.invariant ∙ ap (λ n. closed n c.args.rows.items) next)))
