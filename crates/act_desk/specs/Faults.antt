-- How the service of sessions ends.
use Rattle.std.specs.Prelude.{◌≡◌, List, take}
use Rattle.wf_value.specs.declared.code.Code.{Code}
use Rattle.wf_value.specs.declared.code.Code.TheVariants as code
use Rattle.act_sessions.specs.declared.transcript.Transcript.{Transcript}
use Rattle.act_store.specs.StoreState.{StoreState}
use Rattle.act_desk.specs.Settled.{AreCovered, HaveEnded, IsSettled, NoneBroken}
use Rattle.act_desk.specs.declared.settled.Fault.{Fault}
use Rattle.act_desk.specs.declared.settled.Fault.TheVariants.{Broken, Memory, Unsettled}
use Rattle.act_desk.specs.declared.settled.Settled.{Settled}

abbrev pub code_of_fault : {D W : Type 0} → Fault D W → Code
code_of_fault (Memory store works) = code.NoMemory
code_of_fault (Unsettled settled) = code.Unsettled
code_of_fault (Broken settled) = code.StreamFailed

-- All sessions have ended, none by its reader or writer. The history begins at the table of the given store, and is what they submitted.
-- Each answered command is among the covered entries.
pub record IsServed {D W : Type 0} (ends : W → Transcript → Type 0) (given : StoreState D) (works : List W) (outcome : Settled D) : Type 0 where
  pub ended : HaveEnded ends works outcome.transcripts.items
  pub base : outcome.store.base ≡ given.base
  pub settled : IsSettled outcome.transcripts.items outcome.store.history
  pub covered : AreCovered outcome.transcripts.items (take outcome.store.covered outcome.store.history)
  pub none_broken : NoneBroken outcome.transcripts.items

-- The history is what the sessions submitted, and each answered command is among the covered entries.
abbrev pub IsReconciled : {D : Type 0} → Settled D → Type 0
IsReconciled s = IsSettled s.transcripts.items s.store.history × AreCovered s.transcripts.items (take s.store.covered s.store.history)

-- What each fault says about its arguments. Either they are returned unchanged. Or all sessions have ended, and the history is not what they
-- submitted, or an answered command is not covered. Or it is, each answered command is covered, and a reader or writer has failed.
abbrev pub IsUnsettledOrBroken : {D W : Type 0} → Settled D → Fault D W → Type 0
IsUnsettledOrBroken given (Memory store works) = ⊥
IsUnsettledOrBroken given (Unsettled settled) = (settled ≡ given) × (IsReconciled settled → ⊥)
IsUnsettledOrBroken given (Broken settled) =
    (settled ≡ given) × IsReconciled settled × (NoneBroken settled.transcripts.items → ⊥)

abbrev pub IsCause : {D W : Type 0} → (W → Transcript → Type 0) → StoreState D → List W → Fault D W → Type 0
IsCause ends given works (Memory store left) = (store ≡ given) × (left.items ≡ works)
IsCause ends given works (Unsettled settled) =
    HaveEnded ends works settled.transcripts.items × (IsReconciled settled → ⊥) × (settled.store.base ≡ given.base)
IsCause ends given works (Broken settled) =
    HaveEnded ends works settled.transcripts.items × IsReconciled settled × (NoneBroken settled.transcripts.items → ⊥)
    × (settled.store.base ≡ given.base)
