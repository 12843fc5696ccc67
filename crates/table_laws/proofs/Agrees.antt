-- Two lists of moves that agree about some holders, under other names.
use Rattle.std.specs.Prelude.{◌≡◌, List, [], ◌∷◌, ◌++◌, true, Some}
use Rattle.table_model.specs.GroupLaw.{has_arrived, has_ended, has_started, is_pending, is_in_progress, latest, next_displaced, was_stopped}
use Rattle.table_model.specs.GroupLaw.{Move}
use Rattle.table_model.specs.declared.holder.Holder.{Holder}

-- no two holders have the same name
abbrev pub IsInjective : (Holder → Holder) → Type 0
IsInjective name = (h k : Holder) → name h ≡ name k → h ≡ k

-- What the first list says about a holder, the second says about its name. A name that belongs to no holder is neither in progress nor
-- pending.
pub record Agrees (name : Holder → Holder) (now whole : List Move) : Type 0 where
  pub arrived : (h : Holder) → has_arrived (name h) whole ≡ has_arrived h now
  pub started : (h : Holder) → has_started (name h) whole ≡ has_started h now
  pub stopped : (h : Holder) → was_stopped (name h) whole ≡ was_stopped h now
  pub ended : (h : Holder) → has_ended (name h) whole ≡ has_ended h now
  pub who_runs : (n : Holder) → is_in_progress n whole ≡ true → (h : Holder) × (n ≡ name h)
  pub who_waits : (n : Holder) → is_pending n whole ≡ true → (h : Holder) × (n ≡ name h)
  pub latest_named : (h : Holder) → latest whole ≡ Some (name h) → latest now ≡ Some h
  pub named_latest : (h : Holder) → is_pending h now ≡ true → latest now ≡ Some h → latest whole ≡ Some (name h)
  pub just : (before : List Move) (k h : Holder) → now ≡ before ++ Move.arrive k ∷ [] → next_displaced before ≡ Some h
      → (earlier : List Move) × (whole ≡ earlier ++ Move.arrive (name k) ∷ []) × (next_displaced earlier ≡ Some (name h))
