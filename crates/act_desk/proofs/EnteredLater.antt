-- The entry of a reply is in every later view of the history.
use Rattle.std.proofs.Common.{◌≡◌, ℕ, ◌-◌, ◌<◌, ◌≤◌, List, Some, Result, Ok, Err, length, slice_get, arith}
use Rattle.std.specs.Prelude.{IfOk}
use mathlib.Core.List.{IsPrefix}
use Rattle.wf_value.specs.declared.refusal.Refusal.{Refusal}
use Rattle.run_plan.specs.declared.command.Command.{Command}
use Rattle.run_plan.specs.declared.reply.Reply.{Reply}
use Rattle.act_store.specs.declared.entry.Entry.{Entry}
use Rattle.act_desk.specs.Begins.{IsCoveredAfter}
use Rattle.act_desk.specs.Events.{covered_in, entries_in}
use Rattle.act_desk.specs.Shown.{Awaited, IsReplyTo, IsAnsweredBy}
use Rattle.act_desk.specs.declared.event.Event.{Event}
use Rattle.act_desk.proofs.Eventful.{entries_prefix}
use Rattle.act_desk.proofs.Prefixes.{prefix_get}

pub is_covered_later : (p : Awaited) (seat : ℕ) (command : Command) (before later : List Event) (r : Result Reply Refusal)
    → p.seat ≡ seat → p.command ≡ command → length (entries_in before) < p.place
    → IfOk r (λ reply. IsReplyTo p.command reply × IsAnsweredBy (entries_in p.seen) p reply)
    → IfOk r (λ reply. p.place ≤ covered_in later) → IfOk r (λ reply. IsPrefix p.seen later)
    → IfOk r (λ reply. IsCoveredAfter before later (record { seat = seat; command = command; reply = reply }))
is_covered_later p seat command before later (Err e) by is after told covers grown = tt
is_covered_later p seat command before later (Ok reply) by is after told covers grown =
    let entry : Entry = record { seat = p.seat; command = p.command; reply = reply } in
    let at : slice_get (entries_in later) (p.place - 1) ≡ Some entry =
    prefix_get (entries_in p.seen) (entries_in later) (p.place - 1) entry (entries_prefix p.seen later grown) told.1 in
    record { place = p.place - 1; at = cc (at, by, is); later = omega (arith, after); covers = omega (arith, after, covers) }
