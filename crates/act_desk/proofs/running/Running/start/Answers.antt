use denote.Param.Send.{sendable}
use Rattle.act_desk.proofs.Crossing.{ended_send}
use Rattle.act_desk.proofs.running.Running.start.Goals as goal

pub spawn_with-requires-send-T : goal.spawn_with-requires-send-T
spawn_with-requires-send-T g c κs within = search (sendable, ended_send)
