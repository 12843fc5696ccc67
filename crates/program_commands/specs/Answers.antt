-- The answers of a script: one for each line that is not empty, given by the plain store that the lines before it left.
use Rattle.std.specs.Prelude.{ℕ, List, [], ◌∷◌, ◌++◌, length, Bool, not, nat_eq, codes, filter, flat_map, Result, Ok, Err, if◌then◌else◌}
use Rattle.std.specs.Fmt.{decimal}
use Rattle.std.specs.Str.{bytes_eq}
use Rattle.std.specs.Str.Lines.{lines}
use Rattle.wf_value.specs.RefusalText.{refusal_text}
use Rattle.wf_value.specs.declared.refusal.Refusal.{Refusal}
use Rattle.run_plan.specs.ReplyText.{reply_text}
use Rattle.act_store.specs.declared.step.Played.{Played}
use Rattle.act_store.specs.declared.step.Played.TheVariants as told
use Rattle.act_store.specs.declared.step.Step.{Step}
use Rattle.act_store.specs.declared.step.Step.TheVariants as requested
use Rattle.command_lines.specs.Commands.{onward}
use Rattle.program_commands.specs.Line.{command_of}
use Rattle.program_commands.specs.PlainStore.{PlainStore, start, taken}

abbrev pub has_bytes : List ℕ → Bool
has_bytes line = not (nat_eq (length line) 0)

-- The lines of a script that are not empty. A line ends at a line feed, and one carriage return before it is dropped.
-- The last line may lack its line feed, and then keeps its carriage return.
abbrev pub script_lines : List ℕ → List (List ℕ)
script_lines script = filter has_bytes (lines script)

-- The step of a line: exactly `commit`, `begin`, `slice` and `finish` are these steps, and the line of a command
-- applies it.
abbrev pub step_of : List ℕ → Result Step Refusal
step_of line =
    if bytes_eq line (codes "commit") then Ok requested.Commit
    else (if bytes_eq line (codes "begin") then Ok requested.Begin
    else (if bytes_eq line (codes "slice") then Ok requested.Slice
    else (if bytes_eq line (codes "finish") then Ok requested.Finish else onward (λ command. requested.Apply command) (command_of line))))

-- how the answer of a step is printed: the word before its count depends on the step
abbrev pub counted_as : Step → List ℕ
counted_as (requested.Apply command) = []
counted_as requested.Commit = codes "committed "
counted_as requested.Begin = codes "begun "
counted_as requested.Slice = codes "left "
counted_as requested.Finish = codes "checked "

abbrev pub played_text : List ℕ → Played → List ℕ
played_text word (told.Replied reply) = reply_text reply
played_text word (told.Count count) = word ++ decimal count
played_text word (told.Refused e) = refusal_text e

-- The store after a line, and the answer to it. A line that is no step is refused and leaves the store unchanged.
abbrev pub carried_out : PlainStore → Result Step Refusal → PlainStore × List ℕ
carried_out s (Ok step) = ((taken s step).0, played_text (counted_as step) (taken s step).1)
carried_out s (Err e) = (s, refusal_text e)

abbrev pub after_line : PlainStore → List ℕ → PlainStore
after_line s line = (carried_out s (step_of line)).0

abbrev pub answer_of : PlainStore → List ℕ → List ℕ
answer_of s line = (carried_out s (step_of line)).1

-- the answers of lines, one after another from a store
abbrev pub answers_from : PlainStore → List (List ℕ) → List (List ℕ)
answers_from s [] = []
answers_from s (line ∷ lines) = answer_of s line ∷ answers_from (after_line s line) lines

-- each answer and a line feed
abbrev pub printed : List (List ℕ) → List ℕ
printed answers = flat_map (λ answer. answer ++ 10 ∷ []) answers

-- the output of a script
abbrev pub output_from : PlainStore → List ℕ → List ℕ
output_from s script = printed (answers_from s (script_lines script))

abbrev pub output_of : List ℕ → List ℕ
output_of script = output_from start script
