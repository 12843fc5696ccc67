use Rattle.std.specs.Prelude.{◌≡◌, ◌&&◌, true, false, is_some}
use Rattle.std.proofs.Common.{ap, sym, ◌∙◌}
use Rattle.group_book.specs.Books.{slot_in}
use Rattle.table_model.specs.Groups.{waits}
use Rattle.table_model.specs.inner.Resuming.{makes_room}
use Rattle.table_runs.specs.inner.GroupsKept.{is_there}
use Rattle.table_runs.proofs.KnownGroups.{room_by_flag, room_by_pending}
use Rattle.table_runs.proofs.runs.Runs.makes_room.Goals as goal

pub returns-then-is_some : goal.returns-then-is_some
returns-then-is_some c =
    let h = c.args.newcomer.now in
    let there : is_there c.self.inside.rows.runs h ≡ true = ap (λ rs. is_there rs h) c.self.view_is ∙ c.requires.there in
    let not_yet : waits c.self.inside.rows.runs h ≡ false = ap (λ rs. waits rs h) c.self.view_is ∙ c.requires.waits_not in
    c.if-is_some.true
    ∙ room_by_pending c.self.inside.rows.runs c.self.inside.rows.bindings c.self.inside.book c.self.invariant.0 h there not_yet c.in-Some.group.now
    c.in-Some.ensures (sym (ap is_some c.pending.ensures.slot) ∙ sym c.is_some.ensures ∙ c.if-is_some.true)
    ∙ ap (λ rs. makes_room rs h) c.self.view_is

pub returns-then-cancels : goal.returns-then-cancels
returns-then-cancels c =
    let h = c.args.newcomer.now in
    let there : is_there c.self.inside.rows.runs h ≡ true = ap (λ rs. is_there rs h) c.self.view_is ∙ c.requires.there in
    let not_yet : waits c.self.inside.rows.runs h ≡ false = ap (λ rs. waits rs h) c.self.view_is ∙ c.requires.waits_not in
    let here = is_some (slot_in c.self.inside.book.entries c.in-Some.group.now).in_progress in
    c.is_some-then-cancels.ensures ∙ ap is_some c.running.ensures.slot ∙ ap (λ b. b && here) (sym c.if-cancels.true)
    ∙ room_by_flag c.self.inside.rows.runs c.self.inside.rows.bindings c.self.inside.book c.self.invariant.0 h there not_yet c.in-Some.group.now
    c.in-Some.ensures c.cancels.result (sym (ap is_some c.pending.ensures.slot) ∙ sym c.is_some.ensures ∙ c.if-is_some.false) c.cancels.ensures
    ∙ ap (λ rs. makes_room rs h) c.self.view_is

pub returns-else-cancels : goal.returns-else-cancels
returns-else-cancels c =
    let h = c.args.newcomer.now in
    let there : is_there c.self.inside.rows.runs h ≡ true = ap (λ rs. is_there rs h) c.self.view_is ∙ c.requires.there in
    let not_yet : waits c.self.inside.rows.runs h ≡ false = ap (λ rs. waits rs h) c.self.view_is ∙ c.requires.waits_not in
    let here = is_some (slot_in c.self.inside.book.entries c.in-Some.group.now).in_progress in
    c.if-cancels.false ∙ ap (λ b. b && here) (sym c.if-cancels.false)
    ∙ room_by_flag c.self.inside.rows.runs c.self.inside.rows.bindings c.self.inside.book c.self.invariant.0 h there not_yet c.in-Some.group.now
    c.in-Some.ensures c.cancels.result (sym (ap is_some c.pending.ensures.slot) ∙ sym c.is_some.ensures ∙ c.if-is_some.false) c.cancels.ensures
    ∙ ap (λ rs. makes_room rs h) c.self.view_is
