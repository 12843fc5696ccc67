use Rattle.std.proofs.Common.{subst}
use Rattle.serde_json.specs.View.{view}
use Rattle.wf_value.specs.Gives.{Gives}
use Rattle.wf_reader.proofs.MatrixParts.{patterns_here}
use Rattle.wf_reader.proofs.patterns.read_list.Goals as goal

pub returns-in-Some : goal.returns-in-Some
returns-in-Some c =
    let given = rw c.as_slice.ensures.value at c.read_each.ensures in
    subst (Gives (λ v. v.items) c.read_each.result) (patterns_here (view c.args.value.now) _ c.in-Some.ensures) given
