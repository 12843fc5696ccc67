use Rattle.std.proofs.Common.{◌<◌, length, subst, arith}
use Rattle.std.proofs.lemmas.Bool.Decides.{nat_tests}
use Rattle.serde_json.specs.View.{view}
use Rattle.wf_value.specs.Gives.{Gives}
use Rattle.wf_reader.proofs.RunsOn.{list_gives}
use Rattle.wf_reader.proofs.labels.labels_in.Goals as goal

pub returns-in-Some : goal.returns-in-Some
returns-in-Some c =
    let filled : 0 < length c.as_slice.result.now = grind (arith, nat_tests) in
    subst (Gives (λ v. v.items) c.read_labels.result)
    (list_gives (view c.args.value.now) _ _ c.in-Some.ensures c.as_slice.ensures.value filled) c.read_labels.ensures
