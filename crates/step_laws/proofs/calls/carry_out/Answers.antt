use Rattle.std.proofs.Common.{sym, subst}
use Rattle.table_laws.specs.GroupHistories.{all_moves}
use Rattle.table_laws.specs.GroupHolders.{SayWhoHolds}
use Rattle.table_laws.proofs.HistoryLaw.{group_keeps_law}
use Rattle.table_laws.proofs.HoldersSaid.{moves_say_who_holds}
use Rattle.table_model.specs.TableState.{TableState}
use Rattle.step_laws.proofs.calls.carry_out.Goals as goal

pub returns-clause-law : goal.returns-clause-law
returns-clause-law c = λ names g. group_keeps_law names c.args.table.now c.args.commands.now g c.last_lease.ensures.sound

pub returns-clause-holders : goal.returns-clause-holders
returns-clause-holders c = λ names g.
    let moves = all_moves names g c.args.table.now c.args.commands.now in
    subst (λ (t : TableState). SayWhoHolds names t g moves) (sym c.in_ok-take_steps.ensures.after)
    (moves_say_who_holds names c.args.table.now c.args.commands.now g c.last_lease.ensures.sound)
