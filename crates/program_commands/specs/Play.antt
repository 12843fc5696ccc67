-- What playing a script may write when memory runs out or streams fail, and how many disk calls have failed before it
-- and by its end.
use Rattle.std.specs.Prelude.{◌≡◌, ◌≢◌, ◌⊎◌, ℕ, ◌+◌, ◌≤◌, ◌<◌, List, [], ◌∷◌, ◌++◌, length, Result, Ok, Err, None, ⊤}
use Rattle.std.specs.List.{All}
use Rattle.definitions.specs.Limits.{max_input}
use Rattle.wf_value.specs.Gives.{no_memory}
use Rattle.wf_value.specs.RefusalText.{refusal_text}
use Rattle.wf_value.specs.declared.code.Code.TheVariants.{InputTooLong}
use Rattle.wf_value.specs.declared.refusal.Refusal.{Refusal}
use Rattle.wf_value.specs.declared.refusal.Refusal.TheVariants.{Numbered}
use Rattle.act_disk.specs.Failed.{device_failed, stream_failed}
use Rattle.act_store.specs.Plain.{broken}
use Rattle.act_store.specs.Steps.{MayCallDevice, refusal_of}
use Rattle.act_store.specs.declared.step.Step.{Step}
use Rattle.act_store.specs.declared.step.Step.TheVariants as requested
use Rattle.program_commands.specs.Answers.{carried_out, output_from, printed, script_lines, step_of}
use Rattle.program_commands.specs.PlainStore.{PlainStore, start}

-- `refused 50`
abbrev pub memory_refused : List ℕ
memory_refused = refusal_text no_memory

-- `refused 51`
abbrev pub device_refused : List ℕ
device_refused = refusal_text device_failed

-- the line is a command, or no step at all
abbrev pub IsOfCommand : Result Step Refusal → Type 0
IsOfCommand (Err e) = ⊤
IsOfCommand (Ok (requested.Apply command)) = ⊤
IsOfCommand (Ok requested.Commit) = ⊥
IsOfCommand (Ok requested.Begin) = ⊥
IsOfCommand (Ok requested.Slice) = ⊥
IsOfCommand (Ok requested.Finish) = ⊥

-- A line may run out of memory: for the command that is read from it, or for the begin of a checkpoint that is not refused.
abbrev pub WantsMemory : PlainStore → Result Step Refusal → Type 0
WantsMemory s (Err e) = ⊤
WantsMemory s (Ok (requested.Apply command)) = ⊤
WantsMemory s (Ok requested.Commit) = ⊥
WantsMemory s (Ok requested.Begin) = refusal_of s requested.Begin ≡ None
WantsMemory s (Ok requested.Slice) = ⊥
WantsMemory s (Ok requested.Finish) = ⊥

-- The disk may fail in a step that is not refused, if the step may call it.
abbrev pub CallsDisk : PlainStore → Result Step Refusal → Type 0
CallsDisk s (Err e) = ⊥
CallsDisk s (Ok step) = (refusal_of s step ≡ None) × MayCallDevice s step

-- memory ran out, the store is unchanged, and no disk call failed
abbrev pub IsWithoutMemory : PlainStore → ℕ → Result Step Refusal → List ℕ → PlainStore → ℕ → Type 0
IsWithoutMemory s faults wanted a after more = WantsMemory s wanted × (a ≡ memory_refused) × (after ≡ s) × (more ≡ faults)

-- a disk call failed, and the store with it: each later step is answered 52
abbrev pub IsBreak : PlainStore → ℕ → Result Step Refusal → List ℕ → PlainStore → ℕ → Type 0
IsBreak s faults wanted a after more = CallsDisk s wanted × (a ≡ device_refused) × (after ≡ broken s tt) × (more ≡ faults + 1)

-- A line is answered as defined and no disk call failed; or it failed because of memory or the disk.
abbrev pub IsAnswerOf : PlainStore → ℕ → Result Step Refusal → List ℕ → PlainStore → ℕ → Type 0
IsAnswerOf s faults wanted a after more =
    ((a ≡ (carried_out s wanted).1) × (after ≡ (carried_out s wanted).0) × (more ≡ faults))
    ⊎ (IsWithoutMemory s faults wanted a after more ⊎ IsBreak s faults wanted a after more)

abbrev pub IsAnswer : PlainStore → ℕ → List ℕ → List ℕ → PlainStore → ℕ → Type 0
IsAnswer s faults line a after more = IsAnswerOf s faults (step_of line) a after more

-- one answer for each line, each from the store that the line before it left
abbrev pub Answers : PlainStore → ℕ → List (List ℕ) → List (List ℕ) → ℕ → Type 0
Answers s faults [] [] end = end ≡ faults
Answers s faults [] (a ∷ others) end = ⊥
Answers s faults (line ∷ lines) [] end = ⊥
Answers s faults (line ∷ lines) (a ∷ others) end =
    (after : PlainStore) × (more : ℕ) × IsAnswer s faults line a after more × Answers after more lines others end

-- what a script may have written; if neither memory nor the disk failed a line, it is the output of the script
abbrev pub PlaysFrom : PlainStore → ℕ → List ℕ → List ℕ → ℕ → Type 0
PlaysFrom s faults script out end =
    (answers : List (List ℕ)) × Answers s faults (script_lines script) answers end × (out ≡ printed answers)
    × (All (λ a. (a ≢ memory_refused) × (a ≢ device_refused)) answers → out ≡ output_from s script)

abbrev pub Plays : ℕ → List ℕ → List ℕ → ℕ → Type 0
Plays faults script out end = PlaysFrom start faults script out end

-- all of what a script may write, or a prefix of it
abbrev pub PlaysTo : ℕ → List ℕ → List ℕ → ℕ → Type 0
PlaysTo faults script out end = (length script ≤ max_input) × (rest : List ℕ) × Plays faults script (out ++ rest) end

-- nothing was written, and no disk call failed
abbrev pub IsUnplayed : ℕ → List ℕ → ℕ → Type 0
IsUnplayed faults out end = (out ≡ []) × (end ≡ faults)

-- How a call on a script ends, and what it has written by then. If the disk fails while the store is made, or the
-- script is too long, nothing is written. After a failed stream, or out of memory outside a line, a prefix has been
-- written.
abbrev pub Ends : {U : Type 0} → ℕ → List ℕ → List ℕ → ℕ → Result U Refusal → Type 0
Ends faults script out end (Ok u) = (length script ≤ max_input) × Plays faults script out end
Ends faults script out end (Err e) =
    ((e ≡ Numbered InputTooLong) × (max_input < length script) × IsUnplayed faults out end)
    ⊎ (((e ≡ device_failed) × (out ≡ []) × (end ≡ faults + 1))
    ⊎ (((e ≡ stream_failed) ⊎ (e ≡ no_memory)) × (IsUnplayed faults out end ⊎ PlaysTo faults script out end)))
