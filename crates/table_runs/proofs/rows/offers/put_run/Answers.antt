use Rattle.std.specs.Prelude.{ℕ, length}
use Rattle.std.proofs.Common.{arith, ap, subst, ◌∙◌, inl, inr}
use Rattle.std.proofs.lemmas.Bool.{cases_lt}
use Rattle.label_lists.specs.Lists.{HasPlace, may_offer}
use Rattle.table_bindings.specs.LabelNumbers.{list_number}
use Rattle.table_bindings.proofs.LabelNumbers.{of_none, puts_more}
use Rattle.table_runs.proofs.rows.offers.put_run.Goals as goal

pub put-requires : goal.put-requires
put-requires c =
    let numbers = c.args.numbers.now in
    c.put_jobs.ensures.others.places 0 c.args.r
    (subst (λ (k : ℕ). HasPlace c.args.lists.now k c.args.r) (of_none numbers (length numbers) 0 (omega arith)) (c.requires (length numbers) 0))

pub returns-clause-all : goal.returns-clause-all
returns-clause-all c = λ j l.
    let numbers = c.args.numbers.now in
    elim (cases_lt j (length numbers)) [
      | inl within ↦ c.put.ensures.others.stays (list_number numbers j l) (c.put_jobs.ensures.all j l within)
      | inr past ↦ ap (λ (k : ℕ). may_offer c.put.new.lists k c.args.r) (of_none numbers j l past) ∙ c.put.ensures.itself
    ]

pub returns-clause-others : goal.returns-clause-others
returns-clause-others c =
    puts_more c.args.r c.args.to c.args.lists.now c.put_jobs.new.lists c.put.new.lists c.put_jobs.ensures.others c.put.ensures.others
