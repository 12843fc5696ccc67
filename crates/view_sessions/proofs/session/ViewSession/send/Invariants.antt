use Rattle.std.proofs.Common.{◌≡◌, ℕ}
use Rattle.std.specs.Prelude.{nat_lt}
use Rattle.view_sessions.specs.Sessions.{Sends}
use Rattle.view_sessions.proofs.session.ViewSession.send.Given as goal

-- so many bytes were written
abbrev pub invariant-loop-write : goal.invariant-loop-write
invariant-loop-write g l = record {
  count : ℕ;
  sends : Sends count (g.W.Write.contents l.fn.writer) (g.W.Write.contents l.writer) l.fn.self l.self;
  moved : l.moved ≡ nat_lt 0 count;
}
