use Rattle.group_name.proofs.Folding.{same_groups}
use Rattle.group_name.proofs.group_key.GroupKeySame.same.Goals as goal

pub returns-then-same : goal.returns-then-same
returns-then-same c =
    let both = same_groups c.self.view_is c.other.view_is c.self.invariant c.other.invariant in (
      (λ equal. both.0 (c.same.ensures.equal.0 c.if-same.true) (c.same-then-same.ensures.equal.0 equal)),
      λ equal. c.same-then-same.ensures.equal.1 (both.1 equal).1,
    )
