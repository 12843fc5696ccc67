-- Which parts of a desk may move to another thread or be shared. The value behind its lock may move, so the desk may be shared.
use denote.RattleType.{RattleType}
use denote.Param.Send.{IsSend, IsSync, sendable, view_send}
use denote.Param.SendFields.{declared_send, declared_sync}
use Rattle.std.proofs.sync.ledger.Book.TheSendSync as book
use Rattle.std.proofs.sync.Condvar.TheSendSync as condvar
use Rattle.std.proofs.sync.Mutex.TheSendSync as mutex
use Rattle.std.specs.declared.sync.ledger.Ledger.{Ghosts as Counts}
use Rattle.act_disk.specs.declared.disk.Disk.{Ghosts}
use Rattle.act_desk.specs.declared.named.Named.{Ghosts as Names}
use Rattle.act_desk.proofs.prefix.HistoryWriter.TheSendSync as history
use Rattle.act_desk.proofs.linger.Linger.TheSendSync as linger
use Rattle.act_desk.proofs.seats.Seats.TheSendSync as seats
use Rattle.act_desk.specs.contracts.desk.Desk.{the_row as desk, the_type as desk_type}
use Rattle.act_desk.specs.contracts.locked.LockedStore.{the_row as locked}
use Rattle.act_desk.specs.contracts.locked.LockedStore.TheInside.{the_row as locked_inside, the_type as locked_type}
use Rattle.act_desk.specs.contracts.ended.Ended.{the_row as ended, the_type as ended_type}
use Rattle.act_desk.specs.contracts.desk_state.DeskState.{the_row as desk_state, the_type as desk_state_type}
use Rattle.act_desk.proofs.Sending.{store_send, transcript_send}

pub ended_send : IsSend ended
ended_send = declared_send ended_type (search (sendable, transcript_send) depth 6, tt)

module _ (D E T : RattleType) (d : Ghosts D.Denot) (n : Names E.Denot) (e : Counts E.Denot) (t : Counts T.Denot) (disk : IsSend D) where
  locked_send : IsSend (locked D E T d n e t)
  locked_send =
      view_send (locked_inside D E T d n e t) _ _ _ _
      (declared_send (locked_type D E T d n e t) (
        search (sendable, store_send, disk) depth 8,
        (search sendable depth 6, (search (sendable, book.the_send) depth 6, (search (sendable, book.the_send) depth 6, (search (sendable, history.the_send) depth 6, (search sendable depth 6, tt))))),
      ))

  desk_state_send : IsSend (desk_state D E T d n e t)
  desk_state_send =
      declared_send (desk_state_type D E T d n e t)
      (search (sendable, locked_send) depth 6, (search (sendable, seats.the_send) depth 6, (search sendable depth 6, (search sendable depth 6, (search sendable depth 6, (search sendable depth 6, (search (sendable, linger.the_send) depth 6, tt)))))))

  pub desk_sync : IsSync (desk D E T d n e t)
  desk_sync =
      declared_sync (desk_type D E T d n e t) (
        search (sendable, mutex.the_sync, desk_state_send) depth 6,
        (search (sendable, condvar.the_sync) depth 6, (search (sendable, condvar.the_sync) depth 6, (search (sendable, mutex.the_sync) depth 6, (search (sendable, condvar.the_sync) depth 6, tt)))),
      )
