-- Which holder a change of a run makes begin or end. A change concerns at most one.
use Rattle.std.specs.Prelude.{◌≡◌, ℕ, List, true, false}
use Rattle.table_model.specs.Groups.{cancels_in_progress, group_at, holds, may_start, waits}
use Rattle.table_model.specs.inner.Resuming.{is_new_at}
use Rattle.table_model.specs.Runs.{RunState}
use Rattle.table_model.specs.declared.holder.Holder.{Holder}
use Rattle.table_model.specs.declared.sites.LegSite.{LegSite}
use Rattle.table_runs.specs.inner.GroupsKept.{is_blocked_at, is_there}

-- no run or leg comes, and each keeps its group; nothing becomes new or blocked
pub record SameHolders (old new : List RunState) : Type 0 where
  pub there : (h : Holder) → is_there new h ≡ true → is_there old h ≡ true
  pub group : (h : Holder) → is_there old h ≡ true → group_at new h ≡ group_at old h
  pub cancels : (h : Holder) → is_there old h ≡ true → cancels_in_progress new h ≡ cancels_in_progress old h
  pub new_legs : (p : LegSite) → is_new_at new p ≡ true → is_new_at old p ≡ true
  pub blocked : (r j : ℕ) → is_blocked_at new r j ≡ true → is_blocked_at old r j ≡ true

-- a holder waits or is in progress as before
pub record StaysAs (old new : List RunState) (h : Holder) : Type 0 where
  pub waits : waits new h ≡ waits old h
  pub holds : holds new h ≡ holds old h

pub record ChangesNobody (old new : List RunState) : Type 0 where
  pub same : SameHolders old new
  pub stay : (h : Holder) → StaysAs old new h

pub record StartsOnly (one : Holder) (old new : List RunState) : Type 0 where
  pub same : SameHolders old new
  pub waited : waits old one ≡ true
  pub may : may_start old one ≡ true
  pub waits_not : waits new one ≡ false
  pub holds_now : holds new one ≡ true
  pub others : (h : Holder) → (h ≡ one → ⊥) → StaysAs old new h

pub record EndsOnly (one : Holder) (old new : List RunState) : Type 0 where
  pub same : SameHolders old new
  pub there : is_there old one ≡ true
  pub waits_not : waits new one ≡ false
  pub holds_not : holds new one ≡ false
  pub others : (h : Holder) → (h ≡ one → ⊥) → StaysAs old new h
