use Rattle.std.proofs.Common.{Result, Ok, sym, subst}
use Rattle.wf_value.specs.declared.refusal.Refusal.{Refusal}
use Rattle.act_store.specs.declared.step.Step.{Step}
use Rattle.program_commands.specs.Answers.{played_text}
use Rattle.program_commands.specs.PlainStore.{without_disk}
use Rattle.program_commands.specs.Play.{IsAnswerOf}
use Rattle.program_commands.proofs.Answering.{answers_as, refused_line}
use Rattle.program_commands.proofs.answer.answer_to.Goals as goal

pub returns-in-Ok : goal.returns-in-Ok
returns-in-Ok g c =
    let old = c.args.store.now in
    let new = c.take.new.store in
    let faults = g.D.Disk.fault_count old.disk in
    let more = g.D.Disk.fault_count new.disk in
    let played = c.take.result in
    subst (λ (r : Result Step Refusal). IsAnswerOf (without_disk old) faults r (played_text c.counted_as.result.now played) (without_disk new) more)
    (sym c.in-Ok.ensures.step)
    (subst (λ word. IsAnswerOf (without_disk old) faults (Ok c.in-Ok.step) (played_text word played) (without_disk new) more)
    (sym c.counted_as.ensures) (answers_as old new faults more c.in-Ok.step played c.take.ensures.takes c.take.ensures.survives.faults))

pub returns-in-Err : goal.returns-in-Err
returns-in-Err g c =
    refused_line (without_disk c.args.store.now) (g.D.Disk.fault_count c.args.store.now.disk) _ c.in-Err.refusal c.in-Err.ensures.step c.in-Err.ensures.refused
