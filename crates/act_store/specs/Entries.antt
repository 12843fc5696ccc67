-- The history of a store: the commands in order, each with its reply. Refused commands and look-ups are entries too, so a client sees
-- nothing that the history does not contain.
use Rattle.std.specs.Prelude.{◌≡◌, List, map}
use Rattle.run_plan.specs.declared.command.Command.{Command}
use Rattle.run_plan.specs.declared.reply.Reply.{Reply}
use Rattle.table_model.specs.Step.{after, replies}
use Rattle.table_model.specs.TableState.{TableState}
use Rattle.act_store.specs.declared.entry.Entry.{Entry}

abbrev pub commands_of : List Entry → List Command
commands_of history = map (λ (e : Entry). e.command) history

abbrev pub replies_of : List Entry → List Reply
replies_of history = map (λ (e : Entry). e.reply) history

-- the table that the entries lead to
abbrev pub table_after : TableState → List Entry → TableState
table_after base history = after base (commands_of history)

-- Each reply is the one of its command's step, from the table after the earlier entries.
abbrev pub IsLegal : TableState → List Entry → Type 0
IsLegal base history = replies_of history ≡ replies base (commands_of history)
