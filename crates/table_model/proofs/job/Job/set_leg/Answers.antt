use Rattle.std.proofs.Common.{◌≡◌, ◌≤◌, length, true, rules}
use Rattle.table_model.proofs.Doors.{leg_written, no_leg_written}
use Rattle.table_model.proofs.job.Job.set_leg.Goals.{else-self-via-then-self+else-l-len, else-self-via-else-self}
use Rattle.table_model.proofs.job.Job.set_leg.Goals as goal

pub returns-then-l-len : goal.returns-then-l-len
returns-then-l-len c =
    leg_written c.self.inside.phase c.self.inside.has_legs c.self.inside.room.items c.self.inside.needs_left c.args.l
    c.args.leg c.args.self.now c.if-self.true (search rules) c.self.view_is

pub returns-else-self : goal.returns-else-self
returns-else-self c =
    let past : c.self.inside.has_legs ≡ true → length c.self.inside.room.items ≤ c.args.l =
    elim c.else-self.branch [
      | else-self-via-then-self+else-l-len w ↦ λ _. search rules
      | else-self-via-else-self w ↦ λ yes. cc
    ] in
    no_leg_written c.self.inside.phase c.self.inside.has_legs c.self.inside.room.items c.self.inside.needs_left c.args.l
    c.args.leg c.args.self.now past c.self.view_is
