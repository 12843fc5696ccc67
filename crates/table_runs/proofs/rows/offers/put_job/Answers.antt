use Rattle.std.specs.Prelude.{◌≡◌, ℕ, List, Option, Some, None, length, slice_get, refl}
use Rattle.std.proofs.Common.{ap, subst, sym, ◌∙◌}
use Rattle.label_lists.specs.Lists.{HasPlace, may_offer}
use Rattle.table_bindings.specs.LabelNumbers.{number_in}
use Rattle.table_bindings.proofs.LabelNumbers.{own_number, past_number, puts_more, whole_number}
use Rattle.table_runs.proofs.rows.offers.put_job.Goals as goal

pub put_each-requires : goal.put_each-requires
put_each-requires c = λ l n at.
    let job = c.args.job.now in
    subst (λ (k : ℕ). HasPlace c.args.lists.now k c.args.r)
    (own_number job l n (ap (λ (ns : List ℕ). slice_get ns l) (sym c.as_slice.ensures) ∙ at)) (c.requires l)

pub put-requires : goal.put-requires
put-requires c =
    let job = c.args.job.now in
    c.put_each.ensures.others.places job.whole c.args.r
    (subst (λ (k : ℕ). HasPlace c.args.lists.now k c.args.r) (past_number job) (c.requires (length job.legs)))

pub returns-clause-all : goal.returns-clause-all
returns-clause-all c = λ l.
    let job = c.args.job.now in
    let new = c.put.new.lists in
    let by : (o : Option ℕ) → slice_get job.legs l ≡ o → may_offer new (number_in job l) c.args.r ≡ c.args.to = λ o at.
    (elim (o) as (λ p. slice_get job.legs l ≡ p → may_offer new (number_in job l) c.args.r ≡ c.args.to) [
      | None ↦ λ none. ap (λ (k : ℕ). may_offer new k c.args.r) (whole_number job l none) ∙ c.put.ensures.itself
      | Some n ↦ λ own.
          ap (λ (k : ℕ). may_offer new k c.args.r) (own_number job l n own)
          ∙ c.put.ensures.others.stays n
          (c.put_each.ensures.all l n (ap (λ (ns : List ℕ). slice_get ns l) c.as_slice.ensures ∙ own))
    ] at) in
    by (slice_get job.legs l) refl

pub returns-clause-others : goal.returns-clause-others
returns-clause-others c =
    puts_more c.args.r c.args.to c.args.lists.now c.put_each.new.lists c.put.new.lists c.put_each.ensures.others c.put.ensures.others
