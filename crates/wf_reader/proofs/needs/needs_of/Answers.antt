use Rattle.std.proofs.Common.{subst}
use Rattle.serde_json.specs.View.{view}
use Rattle.wf_value.specs.Gives.{Gives}
use Rattle.wf_reader.proofs.NeedsListed.{list_gives}
use Rattle.wf_reader.proofs.needs.needs_of.Goals as goal

pub returns-in-Some : goal.returns-in-Some
returns-in-Some c =
    let given = rw c.as_slice.ensures.value at c.read_list.ensures in
    subst (Gives (λ v. v.items) c.read_list.result) (list_gives (view c.args.value.now) _ c.in-Some.ensures) given
