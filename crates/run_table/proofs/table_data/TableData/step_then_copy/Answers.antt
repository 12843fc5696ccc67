use Rattle.run_table.proofs.Copied.{copied_free, copy_refused}
use Rattle.run_table.proofs.table_data.TableData.step_then_copy.Goals as goal

pub returns-clause-err : goal.returns-clause-err
returns-clause-err c =
    copy_refused c.args.self.now c.step.new.self c.in_ok-reply.reply c.args.command.now c.with_copy.result c.requires.other
    c.in_ok-reply.ensures.step
    c.with_copy.ensures.answers

pub returns-clause-answers : goal.returns-clause-answers
returns-clause-answers c =
    copied_free c.args.self.now c.step.new.self c.in_ok-reply.reply c.args.command.now c.with_copy.result c.in_ok-reply.ensures.step
    c.with_copy.ensures.answers
