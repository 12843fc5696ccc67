use Rattle.std.proofs.Common.{rules}
use Rattle.group_name.proofs.BoundFolding.{same-at}
use Rattle.group_name.proofs.bound_group.BoundGroup.same.Goals as goal

pub returns-then-same : goal.returns-then-same
returns-then-same g c =
    let both = same-at (g.R.NeedResults.result_of c.args.results.now) (g.S.NeedResults.result_of c.args.other_results.now) c.self.view_is
    c.other.view_is c.self.invariant c.other.invariant (search rules) (search rules) in
    (λ t. both.0 (c.is_same_text.ensures.0 t), λ b. c.is_same_text.ensures.1 (both.1 b))
