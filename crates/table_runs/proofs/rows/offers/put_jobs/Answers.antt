use Rattle.std.specs.Prelude.{◌≡◌, ℕ, Some, length, slice_get, refl}
use Rattle.std.proofs.Common.{arith, subst}
use Rattle.std.proofs.lemmas.Option.{slice_get_read}
use Rattle.label_lists.specs.Lists.{HasPlace}
use Rattle.table_bindings.proofs.LabelNumbers.{of_job, one_more_job, puts_more}
use Rattle.table_runs.proofs.rows.offers.put_jobs.Goals as goal

pub put_job-requires : goal.put_job-requires
put_job-requires c = λ l.
    let numbers = c.args.numbers.now in
    let j = c.loop-j.j in
    let job = c.index-numbers-j.result in
    let at : slice_get numbers j ≡ Some job = slice_get_read numbers (length numbers) j job refl (omega arith) c.index-numbers-j.is in
    subst (λ (k : ℕ). HasPlace c.loop-j.lists k c.args.r) (of_job numbers j l job at)
    (c.loop-j.invariant.1.places _ c.args.r (c.requires j l))

pub loop-j-preserved : goal.loop-j-preserved
loop-j-preserved c =
    let numbers = c.args.numbers.now in
    let j = c.loop-j.j in
    let job = c.index-numbers-j.result in
    let r = c.args.r in
    let to = c.args.to in
    let old = c.loop-j.lists in
    let new = c.put_job.new.lists in
    let at : slice_get numbers j ≡ Some job = slice_get_read numbers (length numbers) j job refl (omega arith) c.index-numbers-j.is in (
      one_more_job r to old new c.put_job.ensures.others numbers j job at c.put_job.ensures.all c.loop-j.invariant.0,
      puts_more r to c.args.lists.now old new c.loop-j.invariant.1 c.put_job.ensures.others,
    )
