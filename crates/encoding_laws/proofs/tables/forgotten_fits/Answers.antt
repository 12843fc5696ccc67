use Rattle.std.proofs.Common.{ℕ, ◌≤◌, subst}
use Rattle.std.specs.List.{AllByRecursion}
use Rattle.definitions.specs.SmallText.{is_delivery_byte}
use Rattle.table_model.proofs.Found.{all_of}
use Rattle.command_encodings.specs.Commands.{small_text}
use Rattle.table_text.specs.Tables.{count}
use Rattle.table_text.proofs.ForgottenKnown.{forgotten_takes}
use Rattle.encoding_laws.proofs.tables.forgotten_fits.Goals as goal

pub all_fit-requires : goal.all_fit-requires
all_fit-requires c = all_of (λ _. Unit {0}) (λ _. tt) c.counts.result.now

pub all_fit-requires-2 : goal.all_fit-requires-2
all_fit-requires-2 c = all_of (λ _. Unit {0}) (λ _. tt) c.deliveries.result.now

pub returns : goal.returns
returns c =
    forgotten_takes c.args.value.now
    (subst (λ (n : ℕ). n ≤ 999999999) c.through-through.ensures.through c.through-through.ensures.most)
    c.through-through.ensures.fit (subst (AllByRecursion count.Takes) c.counts.ensures c.all_fit.ensures)
    (subst (AllByRecursion (small_text is_delivery_byte).Takes) c.deliveries.ensures c.all_fit-2.ensures)
