use Rattle.std.proofs.Common.{◌≡◌, ◌≤◌, ◌<◌, false, length, IfSome, subst, ap, ◌∙◌}
use Rattle.label_lists.specs.inner.Known.{KnownState}
use Rattle.label_lists.specs.Known.{offers_at}
use Rattle.label_lists.proofs.Marked.{next_passed, next_some}
use Rattle.label_lists.proofs.known_lists.KnownLists.next_offering.Goals as goal

pub returns-clause-some : goal.returns-clause-some
returns-clause-some c =
    subst (λ m. IfSome c.first_from.result (λ n. (c.args.number ≤ n) × (n < m))) (c.self.invariant.1 ∙ ap (λ (s : KnownState). length s.lists) c.self.view_is)
    (next_some c.self.inside.requesting.items c.self.inside.offering c.self.invariant.2 c.args.number c.first_from.result c.first_from.ensures)

pub returns-clause-passed : goal.returns-clause-passed
returns-clause-passed c = λ n r le before.
    subst (λ (s : KnownState). offers_at s.requesting n r ≡ false) c.self.view_is
    (next_passed c.self.inside.requesting.items c.self.inside.offering c.self.invariant.2 c.args.number c.first_from.result c.first_from.ensures n r le before)
