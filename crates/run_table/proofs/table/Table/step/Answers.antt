use Rattle.run_table.proofs.KeepsSound.{stays_sound}
use Rattle.run_table.proofs.table.Table.step.Goals as goal

pub invariant_of-self : goal.invariant_of-self
invariant_of-self c =
    stays_sound c.self.inside.table_data c.step.new.self c.args.command.now c.step.result c.step.ensures.step c.step.ensures.err c.self.invariant
