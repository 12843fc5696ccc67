use Rattle.std.proofs.Common.{◌<◌, ◌∙◌, length, get_or, ap, set, arith}
use Rattle.std.proofs.lemmas.List.Edits.{map_over_more}
use Rattle.service_metrics.specs.CommitTimes.{with_commit}
use Rattle.service_metrics.specs.declared.commit_times.Bucket.{Bucket}
use Rattle.service_metrics.proofs.OneMore.{read_again}
use Rattle.service_metrics.proofs.commit_times.add_commit.Goals as goal

pub loop-bucket-preserved : goal.loop-bucket-preserved
loop-bucket-preserved c =
    let at = c.loop-bucket.bucket-index in
    let before = c.args.buckets.now in
    let now = c.loop-bucket.buckets in
    let none : Bucket = record { nanos = 0; count = 0 } in
    let below : at < length before = omega (arith, c.loop-bucket-test.true) in
    let within : at < length now = omega (arith, below, c.loop-bucket.auto.buckets) in
    ap (λ (one : Bucket). set now at one) c.add.ensures
    ∙ map_over_more (with_commit c.args.nanos) before now at (get_or now at none) below c.loop-bucket.invariant (read_again now at none within)
