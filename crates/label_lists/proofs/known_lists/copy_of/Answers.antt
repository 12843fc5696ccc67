use Rattle.std.proofs.Common.{◌∷◌, ◌++◌, ap, sym, ◌∙◌}
use Rattle.wf_value.proofs.PassedOn.{same_Ok}
use Rattle.label_lists.proofs.Entering.{one_more_copied}
use Rattle.label_lists.proofs.known_lists.copy_of.Goals as goal

pub loop-list-preserved : goal.loop-list-preserved
loop-list-preserved c =
    let whole = c.args.lists.now.keys in
    let old = c.loop-list.copy.keys in
    let rest = c.next.new.self in
    let labels = c.in_ok-copy-2.field-0 in
    let same = same_Ok c.in-Some.list.now labels c.in_ok-copy-2.ensures in
    let left = c.in-Some.ensures.steps ∙ ap (λ l. l ∷ rest) same in
    ap (λ ls. ls ++ rest) c.in_ok-insert.ensures.keys
    ∙ one_more_copied old labels rest whole c.len.ensures.unique (ap (λ ls. old ++ ls) (sym left) ∙ c.loop-list.invariant)
