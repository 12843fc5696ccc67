use Rattle.std.proofs.Common.{◌≡◌, sym, ◌∙◌, ap}
use Rattle.std.specs.Prelude.{false}
use Rattle.std.specs.List.{list_all}
use Rattle.table_text.specs.SecondLayout.{is_in_second_layout}
use Rattle.table_text.proofs.WholeSecondTables.{none_of_second_batch}
use Rattle.table_text.proofs.second.read_second_batch.Goals as goal

pub returns-clause-prefix : goal.returns-clause-prefix
returns-clause-prefix c =
    let not : list_all is_in_second_layout c.in-Some.commands.items ≡ false =
    ap (λ commands. list_all is_in_second_layout commands) (sym c.deref.ensures.value) ∙ sym c.are_in_second_layout.ensures
    ∙ c.if-are_in_second_layout.false in
    none_of_second_batch c.args.bytes.now c.in-Some.rest.now c.in-Some.commands.items (rw c.in-Some.is at c.in_ok-commands.ensures.prefix) not
