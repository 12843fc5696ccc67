-- Which answers of a table need memory. No code computes this: an answer is a copy of what the table has, and only a text is copied into
-- memory of its own. The texts are a lease, which names a job and a combination, the view of a run, and a body.
use Rattle.std.specs.Prelude.{◌≡◌, ◌⊎◌, ℕ, List, true}
use Rattle.run_plan.specs.declared.command.Command.{Command}
use Rattle.run_plan.specs.declared.reply.Lease.{Lease}
use Rattle.run_plan.specs.declared.reply.Reply.{Reply}
use Rattle.run_plan.specs.declared.reply.Reply.TheVariants as reply
use Rattle.table_model.specs.Step.{is_allocation_free, read_only_reply}
use Rattle.table_model.specs.TableState.{TableState}

abbrev pub CarriesText : Reply → Type 0
CarriesText r = ((l : Lease) × (r ≡ reply.Lease l)) ⊎ ((view : List ℕ) × (r ≡ reply.Run view)) ⊎ ((body : List ℕ) × (r ≡ reply.Body body))

-- the command is answered memory or not: the premise of the clause `answers` of `Table::step`
abbrev pub IsAnsweredAnyway : TableState → Command → Type 0
IsAnsweredAnyway t c = is_allocation_free (read_only_reply t c) ≡ true
