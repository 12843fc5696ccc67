-- A store that only one session uses, and the commands submitted to it.
use Rattle.std.specs.Prelude.{List}
use Rattle.act_sessions.specs.Exchange.{Exchange}
use Rattle.act_store.specs.StoreState.{StoreState}

pub record Lone (D : Type 0) : Type 0 where
  pub store : StoreState D
  -- the commands submitted so far, each with its answer
  pub asked : List Exchange
