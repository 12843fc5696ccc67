use Rattle.std.proofs.Common.{◌∷◌, ◌++◌, ap, sym, subst, ◌∙◌}
use Rattle.std.specs.List.{IsDistinct}
use Rattle.std.specs.Map.{keys_of}
use Rattle.group_name.specs.Group.{same_group}
use Rattle.group_book.specs.Books.{BookState}
use Rattle.wf_value.proofs.PassedOn.{same_Ok}
use Rattle.group_book.proofs.Slots.{one_more_copied}
use Rattle.group_book.proofs.book.Book.copy.Goals as goal

pub loop-group-preserved : goal.loop-group-preserved
loop-group-preserved g c =
    let whole = c.args.self.now.entries in
    let old = c.loop-group.slots in
    let rest = c.next.new.self in
    let group = c.in_ok-copy.field-0 in
    let slot = c.in-Some.slot.now in
    let same = same_Ok c.in-Some.group.now group c.in_ok-copy.ensures in
    let left = c.in-Some.ensures.steps ∙ ap (λ k. (k, slot) ∷ rest) same in
    let distinct = subst (λ (b : BookState _). IsDistinct same_group (keys_of b.entries)) c.self.view_is c.self.invariant.0 in
    ap (λ es. es ++ rest) c.in_ok-insert.ensures.entries
    ∙ one_more_copied old group slot rest whole distinct (ap (λ es. old.entries ++ es) (sym left) ∙ c.loop-group.invariant)
