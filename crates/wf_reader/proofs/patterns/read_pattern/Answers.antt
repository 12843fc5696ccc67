use Rattle.std.proofs.Common.{◌<◌, length, subst, arith}
use Rattle.std.proofs.lemmas.Grind.{common_steps}
use Rattle.serde_json.specs.View.{view}
use Rattle.wf_value.specs.Gives.{Gives}
use Rattle.wf_reader.proofs.MatrixParts.{pattern_here}
use Rattle.wf_reader.proofs.patterns.read_pattern.Goals as goal

pub returns : goal.returns
returns c =
    let filled : 0 < length c.in-Some.members.now.entries = grind (arith, common_steps) in
    subst (Gives (λ p. p) c.read_pairs.result)
    (pattern_here (view c.args.value.now) c.in-Some.members.now.entries c.in-Some.ensures filled) c.read_pairs.ensures
