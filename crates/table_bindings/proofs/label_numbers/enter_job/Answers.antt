use Rattle.std.specs.Prelude.{ℕ, List, Option, length, option_and_then, slice_get}
use Rattle.std.proofs.Common.{ap, subst, sym, ◌∙◌}
use Rattle.table_bindings.specs.LabelNumbers.{IsListOf, kept_texts}
use Rattle.table_bindings.proofs.LabelNumbers.{grown_list, job_numbers}
use Rattle.table_bindings.proofs.label_numbers.enter_job.Goals as goal

pub enter_legs-requires : goal.enter_legs-requires
enter_legs-requires c = c.enter_list.ensures.grows.places 0 c.args.r c.requires

pub returns-clause-numbers : goal.returns-clause-numbers
returns-clause-numbers c =
    let lists = c.enter_legs.new.lists in
    let job = c.args.job.now in
    let legs = c.in_ok-legs.legs.items in
    let is = c.new.ensures in
    job_numbers lists c.args.r job _
    (ap length is ∙ c.in_ok-legs.ensures.many ∙ ap length c.as_slice.ensures)
    (grown_list c.enter_list.new.lists lists c.enter_legs.ensures.grows c.args.r job.plain c.in_ok-whole.whole
    (subst (λ (o : Option (List (List ℕ))). IsListOf c.enter_list.new.lists c.args.r o c.in_ok-whole.whole) c.as_ref.ensures.value
    c.in_ok-whole.ensures.number))
    (λ l n at.
    subst (λ ls. IsListOf lists c.args.r (option_and_then kept_texts (slice_get ls l)) n) c.as_slice.ensures
    (c.in_ok-legs.ensures.numbers l n (ap (λ (ns : List ℕ). slice_get ns l) (sym is) ∙ at)))
