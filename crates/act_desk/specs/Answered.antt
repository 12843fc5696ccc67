-- What an answer implies about the store that gave it.
use Rattle.std.specs.Prelude.{◌≡◌, ◌⊎◌, ℕ, ◌≤◌, [], ◌∷◌, ◌++◌, length, Some}
use Rattle.wf_value.specs.Gives.{no_memory}
use Rattle.wf_value.specs.declared.code.Code.TheVariants.{Unsettled}
use Rattle.wf_value.specs.declared.refusal.Refusal.{Refusal}
use Rattle.wf_value.specs.declared.refusal.Refusal.TheVariants.{Numbered}
use Rattle.act_disk.specs.Failed.{device_failed}
use Rattle.run_plan.specs.declared.command.Command.{Command}
use Rattle.run_plan.specs.declared.reply.Reply.{Reply}
use Rattle.table_model.specs.Step.{stepped}
use Rattle.act_store.specs.StoreState.{StoreState, table_of}
use Rattle.act_store.specs.Plain.{broken, committed, entered, entry_of, refusal_of_apply}

-- The command was entered for the seat after all other entries, the reply is the one of its step, and every entry is covered.
pub record IsAnswered {D : Type 0} (old new : StoreState D) (seat : ℕ) (command : Command) (reply : Reply) : Type 0 where
  pub base : new.base ≡ old.base
  pub entered : new.history ≡ old.history ++ entry_of old seat command ∷ []
  pub reply_is : reply ≡ (stepped (table_of old) command).reply
  pub covers : new.covered ≡ length new.history

-- The history is unchanged, or has the command's entry appended. Covered entries stay covered.
pub record MayHaveEntered {D : Type 0} (old new : StoreState D) (seat : ℕ) (command : Command) : Type 0 where
  pub base : new.base ≡ old.base
  pub history : (new.history ≡ old.history) ⊎ (new.history ≡ old.history ++ entry_of old seat command ∷ [])
  pub covers : old.covered ≤ new.covered

-- The command was not carried out, or not made durable. Either the store refused it or ran out of memory, and nothing was entered; or the
-- device failed while its entry was being made durable.
abbrev pub IsNotDone : {D : Type 0} → StoreState D → StoreState D → ℕ → Command → Refusal → Type 0
IsNotDone old new seat command e =
    (((e ≡ no_memory) ⊎ (refusal_of_apply old command ≡ Some e)) × (new ≡ old))
    ⊎ ((e ≡ device_failed) × (new ≡ broken (entered old seat command) new.disk))

-- Why a command got no reply, and the state of the store. It was not done; or it was done, and there was no memory for a copy of its
-- reply.
abbrev pub IsUnanswered : {D : Type 0} → StoreState D → StoreState D → ℕ → Command → Refusal → Type 0
IsUnanswered old new seat command e =
    IsNotDone old new seat command e ⊎ ((e ≡ no_memory) × (new ≡ committed (entered old seat command) new.disk))

-- the answer if a reply may not be released although nothing failed
abbrev pub unsettled : Refusal
unsettled = Numbered Unsettled
