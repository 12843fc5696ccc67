use Rattle.run_table.proofs.KeepsSound.{pair_stays_sound}
use Rattle.run_table.proofs.table.Table.step_with_copy.Goals as goal

pub invariant_of-self : goal.invariant_of-self
invariant_of-self c =
    pair_stays_sound c.self.inside.table_data c.step_with_copy.new.self c.args.command.now c.step_with_copy.result c.step_with_copy.ensures.step
    c.step_with_copy.ensures.err c.self.invariant
