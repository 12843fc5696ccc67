-- Why a checkpoint that upgrades a store is refused with 47 or 48: it has no room in an area, or there is no generation for it. That shows
-- when it begins.
use Rattle.std.proofs.Common.{◌≡◌, ◌+◌, false, length}
use Rattle.std.specs.Prelude.{nat_lt}
use Rattle.act_store.specs.Checkpoints.{first_gate}
use Rattle.act_store.specs.StoreState.{Checkpoint, StoreState}

-- The checkpoint in progress is of the whole store, and had room when it began.
pub record IsOfWhole {D : Type 0} (s : StoreState D) (checkpoint : Checkpoint) : Type 0 where
  pub place : checkpoint.place ≡ length s.history
  pub room : nat_lt s.area (first_gate checkpoint.text + 1) ≡ false
