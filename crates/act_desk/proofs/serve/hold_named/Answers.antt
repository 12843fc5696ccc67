use denote.Param.Send.{sendable}
use Rattle.std.proofs.alloc.Global.TheSendSync as heap
use Rattle.act_desk.proofs.Crossing.{desk_sync}
use Rattle.act_desk.proofs.serve.hold_named.Goals as goal

pub hold_all-transcripts-requires-sync-H : goal.hold_all-transcripts-requires-sync-H
hold_all-transcripts-requires-sync-H g c κs =
    let disk = c.type_bounds.send-D in
    let gate = c.type_bounds.sync-G in
    let runtime = c.type_bounds.sync-R in
    search (sendable, desk_sync, heap.the_field_sync) depth 12
