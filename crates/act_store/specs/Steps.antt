-- A list of steps of a store, in order, and the answer to each.
use Rattle.std.specs.Prelude.{◌≡◌, ◌⊎◌, ◌↔◌, ℕ, ◌+◌, ◌<◌, ◌≤◌, List, [], ◌∷◌, ◌++◌, length, true, false, Bool, if◌then◌else◌, Option, Some, None, ⊤}
use Rattle.std.specs.Prelude.{Result, IfErr, IfOk, IsOk, OnErr}
use Rattle.wf_value.specs.Gives.{no_memory}
use Rattle.wf_value.specs.declared.code.Code.TheVariants.{AreaFull}
use Rattle.wf_value.specs.declared.refusal.Refusal.{Refusal}
use Rattle.wf_value.specs.declared.refusal.Refusal.TheVariants.{Numbered}
use Rattle.act_disk.specs.Failed.{device_failed}
use Rattle.definitions.specs.Disk.{EachSince}
use Rattle.run_plan.specs.declared.reply.Reply.{Reply}
use Rattle.table_model.specs.Step.{stepped}
use Rattle.act_store.specs.Checkpoints.{IsFinished, begun_at, dropped, left_of, sliced, checkpoint_length}
use Rattle.act_store.specs.Checkpoints.{refusal_of_begin, refusal_of_finish, refusal_of_slice}
use Rattle.act_store.specs.StoreState.{StoreState, RecoversToEither, table_of}
use Rattle.act_store.specs.Plain.{broken, committed, entered, refusal_of_apply, refusal_of_commit}
use Rattle.act_store.specs.FaultCauses.{IsCause}
use Rattle.act_store.specs.declared.entry.Entry.{Entry}
use Rattle.act_store.specs.declared.step.Step.{Step}
use Rattle.act_store.specs.declared.step.Step.TheVariants as requested
use Rattle.act_store.specs.declared.step.Played.{Played}
use Rattle.act_store.specs.declared.step.Played.TheVariants as told

-- ---- a refused step

-- the cause of a refusal, whether or not memory is available
abbrev pub refusal_of : {D : Type 0} → StoreState D → Step → Option Refusal
refusal_of s (requested.Apply command) = refusal_of_apply s command
refusal_of s requested.Commit = refusal_of_commit s
refusal_of s requested.Begin = refusal_of_begin s
refusal_of s requested.Slice = refusal_of_slice s
refusal_of s requested.Finish = refusal_of_finish s

abbrev pub is_area_full : Refusal → Bool
is_area_full (Numbered AreaFull) = true
is_area_full _ = false

-- The effect of a refused step: none, except that a finish without space for its record drops the checkpoint.
abbrev pub left_by : {D : Type 0} → StoreState D → Step → Refusal → StoreState D
left_by s (requested.Apply command) e = s
left_by s requested.Commit e = s
left_by s requested.Begin e = s
left_by s requested.Slice e = s
left_by s requested.Finish e = if is_area_full e then dropped s else s

abbrev pub MayTakeMemory : Step → Type 0
MayTakeMemory (requested.Apply command) = ⊤
MayTakeMemory requested.Commit = ⊥
MayTakeMemory requested.Begin = ⊤
MayTakeMemory requested.Slice = ⊥
MayTakeMemory requested.Finish = ⊥

abbrev pub MayCallDevice : {D : Type 0} → StoreState D → Step → Type 0
MayCallDevice s (requested.Apply command) = ⊥
MayCallDevice s requested.Commit = s.covered < length s.history
MayCallDevice s requested.Begin = ⊤
MayCallDevice s requested.Slice = ⊤
MayCallDevice s requested.Finish = ⊤

-- The step was refused for its cause. Without a cause, either it ran out of memory and nothing changed, or the device failed and the store
-- with it.
abbrev pub IsRefused : {D : Type 0} → StoreState D → Step → Refusal → StoreState D → Type 0
IsRefused old step e new =
    ((refusal_of old step ≡ Some e) × (new ≡ left_by old step e))
    ⊎ ((refusal_of old step ≡ None) × MayTakeMemory step × (e ≡ no_memory) × (new ≡ old))
    ⊎ ((refusal_of old step ≡ None) × MayCallDevice old step × (e ≡ device_failed) × (new ≡ broken old new.disk))

-- ---- a step that is taken

-- a completed commit: all entries are covered, and `count` is their number
pub record Covers {D : Type 0} (old : StoreState D) (count : ℕ) (new : StoreState D) : Type 0 where
  pub live : old.failed ≡ false
  pub count_is : count ≡ length old.history
  pub none : length old.history ≤ old.covered → new ≡ old
  pub some : old.covered < length old.history → new ≡ committed old new.disk

-- a command is applied for seat 0
abbrev pub Replies : {D : Type 0} → StoreState D → Step → Reply → StoreState D → Type 0
Replies old (requested.Apply command) reply new = (new ≡ entered old 0 command) × (reply ≡ (stepped (table_of old) command).reply)
Replies old requested.Commit reply new = ⊥
Replies old requested.Begin reply new = ⊥
Replies old requested.Slice reply new = ⊥
Replies old requested.Finish reply new = ⊥

-- the number of covered entries, or of bytes left to write
abbrev pub Counts : {D : Type 0} → StoreState D → Step → ℕ → StoreState D → Type 0
Counts old (requested.Apply command) count new = ⊥
Counts old requested.Commit count new = Covers old count new
Counts old requested.Begin count new = (new ≡ begun_at old new.disk) × (count ≡ checkpoint_length old)
Counts old requested.Slice count new = (new ≡ sliced old new.disk) × (count ≡ left_of new.begun)
Counts old requested.Finish count new = IsFinished old new × (count ≡ length old.history)

-- One step leads from one store to another, with this answer.
abbrev pub Takes : {D : Type 0} → StoreState D → Step → Played → StoreState D → Type 0
Takes old step (told.Replied reply) new = (refusal_of old step ≡ None) × Replies old step reply new
Takes old step (told.Count count) new = (refusal_of old step ≡ None) × Counts old step count new
Takes old step (told.Refused e) new = IsRefused old step e new

-- the answer is 51 exactly if the device failed in the step
abbrev pub TellsStep : Played → ℕ → ℕ → Type 0
TellsStep (told.Refused e) old new = IsCause e old new
TellsStep (told.Replied reply) old new = new ≡ old
TellsStep (told.Count count) old new = new ≡ old

-- What a crash may leave during a step: at every moment, the image recovers to the entries covered when the step began, or to all entries
-- of that time.
pub record Survives {D : Type 0} (honest : D → Type 0) (moment fault_count : D → ℕ) (images_since : D → ℕ → List ℕ → Type 0) (old : StoreState D)
    (answer : Played) (new : StoreState D) : Type 0 where
  pub any_moment : honest old.disk → EachSince moment images_since old.disk new.disk (RecoversToEither old)
  pub stays_honest : honest new.disk ↔ honest old.disk
  pub faults : TellsStep answer (fault_count old.disk) (fault_count new.disk)

-- All the steps, in order, with `during` true of each.
abbrev pub Plays : {D : Type 0} → (StoreState D → Played → StoreState D → Type 0) → StoreState D → List Step → List Played → StoreState D → Type 0
Plays during old [] [] new = new ≡ old
Plays during old [] (p ∷ ps) new = ⊥
Plays during old (s ∷ ss) [] new = ⊥
Plays {D} during old (s ∷ ss) (p ∷ ps) new = (mid : StoreState D) × Takes old s p mid × during old p mid × Plays during mid ss ps new

-- Some number of the first steps, and no others.
pub record PlaysSome {D : Type 0} (during : StoreState D → Played → StoreState D → Type 0) (old : StoreState D) (steps : List Step)
    (new : StoreState D) : Type 0 where
  pub first : List Step
  pub others : List Step
  pub split : steps ≡ first ++ others
  pub answers : List Played
  pub plays : Plays during old first answers new

-- How a play of steps ends. Either each step was answered. Or only some first steps were, and then the play ran out of memory for an
-- answer or for a copy of a command. A play of no steps takes no memory.
pub record PlayEnds {D V : Type 0} (during : StoreState D → Played → StoreState D → Type 0) (items : V → List Played) (old : StoreState D) (steps : List Step)
    (result : Result V Refusal) (new : StoreState D) : Type 0 where
  pub played : IfOk result (λ answers. Plays during old steps (items answers) new)
  pub part : OnErr result (PlaysSome during old steps new)
  pub refused : IfErr result (λ e. e ≡ no_memory)
  pub empty : length steps ≡ 0 → IsOk result

-- The base does not change, entries are appended to the history, and covered entries stay covered.
pub record Grows {D : Type 0} (old new : StoreState D) : Type 0 where
  pub base : new.base ≡ old.base
  pub more : List Entry
  pub history : new.history ≡ old.history ++ more
  pub covers : old.covered ≤ new.covered
  pub within : new.covered ≤ length new.history
