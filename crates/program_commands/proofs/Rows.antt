-- Examples of the definitions, by computation.
use Rattle.std.proofs.Common.{◌≡◌, [], ◌∷◌, ◌++◌, codes, Ok, Err, refl}
use Rattle.wf_value.specs.RefusalText.{refusal_text}
use Rattle.wf_value.specs.declared.code.Code.TheVariants.{NoRun}
use Rattle.wf_value.specs.declared.refusal.Refusal.TheVariants.{Numbered, Turn}
use Rattle.run_plan.specs.declared.command.Command.{Command}
use Rattle.run_plan.specs.declared.command.Command.TheVariants as command
use Rattle.run_plan.specs.declared.reply.Reply.TheVariants as reply
use Rattle.act_store.specs.Plain.{checkpoint_order}
use Rattle.act_store.specs.declared.step.Played.TheVariants as told
use Rattle.act_store.specs.declared.step.Step.TheVariants as requested
use Rattle.command_lines.specs.Commands.{not_a_line}
use Rattle.program_commands.specs.Line.{command_of}
use Rattle.program_commands.specs.Answers.{script_lines, answer_of, output_of, played_text}
use Rattle.program_commands.specs.PlainStore.{done, start, taken}

empty_script : output_of [] ≡ []
empty_script = refl

-- one carriage return before a line feed is dropped, and a line that is empty then is skipped
cut : script_lines (codes "look 1" ++ (13 ∷ 10 ∷ 13 ∷ 10 ∷ codes "look 2")) ≡ codes "look 1" ∷ codes "look 2" ∷ []
cut = refl

-- the last line keeps its carriage return
last : script_lines (codes "look 1" ++ (13 ∷ [])) ≡ (codes "look 1" ++ (13 ∷ [])) ∷ []
last = refl

look : command_of (codes "look 1") ≡ Ok (command.Look 1)
look = refl

claim : command_of (codes "claim r1 2 X64,linux")
    ≡ Ok (command.Claim (record { runner = codes "r1"; number = 2; labels = codes "X64" ∷ codes "linux" ∷ [] }))
claim = refl

delivery : command_of (codes "admit d_1 push {}") ≡ Err not_a_line
delivery = refl

two_spaces : command_of (codes "admit d1 push") ≡ Err not_a_line
two_spaces = refl

requested_first : Command
requested_first = command.Claim (record { runner = codes "r1"; number = 1; labels = codes "linux" ∷ [] })

requested_second : Command
requested_second = command.Claim (record { runner = codes "r1"; number = 2; labels = codes "linux" ∷ [] })

-- the replies to a first command
out_of_order : (done start (requested.Apply requested_second)).1 ≡ told.Replied (reply.Refused (Turn 0))
unfolding requested_second
out_of_order = refl

nothing : (done start (requested.Apply requested_first)).1 ≡ told.Replied reply.Nothing
unfolding requested_first
nothing = refl

no_run : (done start (requested.Apply (command.Look 1))).1 ≡ told.Replied (reply.Refused (Numbered NoRun))
no_run = refl

-- a commit counts the entries, also those of refused commands, and each once
none_covered : answer_of start (codes "commit") ≡ played_text (codes "committed ") (told.Count 0)
none_covered = refl

one_covered : (taken (done start (requested.Apply (command.Look 1))).0 requested.Commit).1 ≡ told.Count 1
one_covered = refl

-- no other line is a commit
commit_with_a_space : answer_of start (codes "commit ") ≡ refusal_text not_a_line
commit_with_a_space = refl

-- a slice and a finish without a checkpoint
none_begun : answer_of start (codes "slice") ≡ refusal_text checkpoint_order
none_begun = refl

nothing_to_finish : answer_of start (codes "finish") ≡ refusal_text checkpoint_order
nothing_to_finish = refl
