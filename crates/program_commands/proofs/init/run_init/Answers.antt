use Rattle.std.proofs.Common.{◌≡◌}
use Rattle.act_store.specs.Plain.{disk_not_empty}
use Rattle.program_commands.proofs.Making.{made_of, was_empty}
use Rattle.program_commands.proofs.init.run_init.Goals as goal

pub returns-in-Ok-clause-written : goal.returns-in-Ok-clause-written
returns-in-Ok-clause-written g c =
    let size = g.D.Disk.size c.args.disk in
    let empty : size ≡ 0 =
    was_empty size c.init.result c.in-Ok.store (c.args.disk, disk_not_empty) c.init.ensures.occupied c.in-Ok.is in
    made_of size _ _ c.write_made-ended.result empty c.write_made-ended.ensures.all c.write_made-ended.ensures.prefix c.write_made-ended.ensures.err
