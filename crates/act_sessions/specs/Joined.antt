-- Two parts of one session, each with its own answerer and list.
use Rattle.std.specs.Prelude.{◌≡◌, List, ◌++◌, length, drop}
use Rattle.act_sessions.specs.Session.{Moment}
use Rattle.act_sessions.specs.Exchange.{Exchange}

-- what was appended to a list
abbrev pub added : List Exchange → List Exchange → List Exchange
added old new = drop (length old) new

-- The whole consists of one part, up to `mid`, and another one, from `begin` to `new`. Both have the same writer. The commands submitted
-- and listed in the second part follow those of the first.
pub record IsJoined (mid begin new whole : Moment) : Type 0 where
  pub output : whole.output ≡ new.output
  pub asked : whole.asked ≡ mid.asked ++ added begin.asked new.asked
  pub listed : whole.listed ≡ mid.listed ++ added begin.listed new.listed
