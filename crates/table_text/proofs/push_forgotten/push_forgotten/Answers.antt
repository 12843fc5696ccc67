use Rattle.std.proofs.Common.{List, ℕ, ap, arith, length, subst}
use Rattle.std.specs.List.{AllByRecursion}
use Rattle.command_encodings.specs.Commands.{small_text}
use Rattle.definitions.specs.SmallText.{is_delivery_byte}
use Rattle.table_model.proofs.Found.{all_of}
use Rattle.table_model.specs.Forgotten.{WorkflowCount}
use Rattle.table_text.specs.Tables.{count}
use Rattle.table_text.proofs.ForgottenKnown.{few_counts, forgotten_takes, on_ok_then}
use Rattle.table_text.proofs.push_forgotten.push_forgotten.Goals as goal

pub overflow_cast-counts : goal.overflow_cast-counts
overflow_cast-counts c =
    let few = few_counts c.args.value.now (omega (arith, c.through.ensures.through, c.through.ensures.most)) c.through.ensures.fit in
    omega (arith, few, ap (λ (l : List WorkflowCount). length l) c.counts-counts.ensures)

pub push_list-requires : goal.push_list-requires
push_list-requires c = all_of (λ _. Unit {0}) (λ _. tt) c.counts-counts.result.now

pub push_list-requires-2 : goal.push_list-requires-2
push_list-requires-2 c = all_of (λ _. Unit {0}) (λ _. tt) c.deliveries.result.now

pub returns-clause-takes : goal.returns-clause-takes
returns-clause-takes c =
    on_ok_then c.push_list-2.result c.push_list-2.ensures.takes (λ deliveries.
    forgotten_takes c.args.value.now (omega (arith, c.through.ensures.through, c.through.ensures.most)) c.through.ensures.fit
    (subst (λ (l : List WorkflowCount). AllByRecursion count.Takes l) c.counts-counts.ensures c.in_ok-push_list.ensures.takes)
    (subst (λ (l : List (List ℕ)). AllByRecursion (small_text is_delivery_byte).Takes l) c.deliveries.ensures deliveries))
