use Rattle.std.specs.Prelude.{◌≡◌, is_some, not, true}
use Rattle.std.proofs.Common.{ap, ◌∙◌}
use Rattle.table_model.specs.Groups.{may_start}
use Rattle.table_runs.specs.inner.GroupsKept.{is_there}
use Rattle.table_runs.proofs.KnownGroups.{may_start_in, the_other}
use Rattle.table_runs.proofs.runs.Runs.may_start.Goals as goal

pub returns-in-Some : goal.returns-in-Some
returns-in-Some c =
    let h = c.args.holder.now in
    let there : is_there c.self.inside.rows.runs h ≡ true = ap (λ rs. is_there rs h) c.self.view_is ∙ c.requires in
    the_other (is_some c.running.result) c.is_none.result c.is_none.ensures ∙ ap (λ o. not (is_some o)) c.running.ensures.slot
    ∙ may_start_in c.self.inside.rows.runs c.self.inside.rows.bindings c.self.inside.book c.self.invariant.0 h there c.in-Some.group.now
    c.in-Some.ensures ∙ ap (λ rs. may_start rs h) c.self.view_is
