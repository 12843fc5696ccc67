use Rattle.std.proofs.Common.{◌≡◌, ℕ}
use Rattle.std.specs.Prelude.{Some, length, slice_get}
use Rattle.wf_reader.specs.Event.{event_of}
use Rattle.table_model.specs.LegContext.{context_of}
use Rattle.table_bindings.specs.BoundGroups.{Says, facts_by}
use Rattle.table_bindings.specs.declared.groups.GroupRequest.{GroupRequest}
use Rattle.table_bindings.proofs.groups.bind_each.Given as goal

-- each element so far gives what its leg asks
abbrev pub invariant-loop-leg : goal.invariant-loop-leg
invariant-loop-leg l =
    (length l.legs.items ≡ l.leg)
    × ((k : ℕ) (kept : GroupRequest) → slice_get l.legs.items k ≡ Some kept
    → Says (event_of l.identity.event.body).repo (λ results. context_of (facts_by l.identity l.j l.job k results)) l.requested kept)
