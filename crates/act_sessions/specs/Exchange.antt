-- The exchanges of a session, and which of them is the last.
use Rattle.std.specs.Prelude.{◌≡◌, ◌⊎◌, Bool, false, ◌==◌, List, [], ◌∷◌, ◌++◌, map, Result, Ok, Err, ⊤}
use Rattle.std.specs.List.{list_any}
use Rattle.wf_value.specs.Gives.{no_memory}
use Rattle.wf_value.specs.RefusalText.{code_number, refusal_number}
use Rattle.wf_value.specs.declared.code.Code.{Code}
use Rattle.wf_value.specs.declared.code.Code.TheVariants.{NoMemory, DeviceFailed, FailedEarlier, Unsettled, HistoryFull, AreaFull}
use Rattle.wf_value.specs.declared.code.Code.TheVariants.{LastCounter, OldLayout}
use Rattle.wf_value.specs.declared.refusal.Refusal.{Refusal}
use Rattle.run_plan.specs.declared.command.Command.{Command}
use Rattle.run_plan.specs.declared.reply.Reply.{Reply}
use Rattle.act_sessions.specs.declared.transcript.LoggedExchange.{LoggedExchange}
use Rattle.act_sessions.specs.declared.transcript.Transcript.{Transcript}
use Rattle.run_plan.specs.declared.reply.Reply.TheVariants as reply

-- ---- what a session submits, and the answers it gets.

-- a reply, or why the command was refused
abbrev pub Response : Type 0
Response = Result Reply Refusal

-- a command and its answer
abbrev pub Exchange : Type 0
Exchange = Command × Response

-- One command was submitted: it is listed with its answer. A command answered out of memory may be missing.
abbrev pub Submits : List Exchange → List Exchange → Command → Response → Type 0
Submits old new c r = (new ≡ old ++ (c, r) ∷ []) ⊎ ((r ≡ Err no_memory) × (new ≡ old))

-- These commands were submitted in order, each once, and are listed. The last one may be missing if it was answered out of memory.
abbrev pub AreAsked : List Exchange → List Exchange → List Exchange → Type 0
AreAsked old new exchanges =
    (new ≡ old ++ exchanges)
    ⊎ ((prefix : List Exchange) × (c : Command) × (exchanges ≡ prefix ++ (c, Err no_memory) ∷ []) × (new ≡ old ++ prefix))

-- whether a refusal has one of these codes
abbrev pub is_one_of : List Code → Refusal → Bool
is_one_of those refusal = list_any (λ c. code_number c == refusal_number refusal) those

-- these answers do not say whether the command was entered
abbrev pub open_codes : List Code
open_codes = NoMemory ∷ DeviceFailed ∷ FailedEarlier ∷ Unsettled ∷ []

abbrev pub leaves_open : Response → Bool
leaves_open (Ok reply) = false
leaves_open (Err refusal) = is_one_of open_codes refusal

-- Each answer but the last settles whether its command was entered.
abbrev pub OnlyLastOpen : List Exchange → Type 0
OnlyLastOpen [] = ⊤
OnlyLastOpen (t ∷ []) = ⊤
OnlyLastOpen (t ∷ u ∷ exchanges) = (leaves_open t.1 ≡ false) × OnlyLastOpen (u ∷ exchanges)

abbrev pub exchanges_in : List LoggedExchange → List Exchange
exchanges_in asked = map (λ a. (a.command, a.answer)) asked

-- the commands of a transcript, with their answers
abbrev pub exchanges_by : Transcript → List Exchange
exchanges_by t = exchanges_in t.asked.items

-- ---- which answers end a session, whatever requests follow. This is defined by this project.

-- a full history, a full area, a counter at its limit, a command that the area's layout lacks, and what leaves it open whether the command was
-- entered: out of memory, a failed device, and a history that contradicts earlier replies
abbrev pub ending_codes : List Code
ending_codes = HistoryFull ∷ AreaFull ∷ LastCounter ∷ OldLayout ∷ open_codes

abbrev pub ends_by : Refusal → Bool
ends_by e = is_one_of ending_codes e

-- an answer with such a refusal, from the table or from before it
abbrev pub ends_session : Response → Bool
ends_session (Ok (reply.Refused e)) = ends_by e
ends_session (Ok r) = false
ends_session (Err e) = ends_by e
