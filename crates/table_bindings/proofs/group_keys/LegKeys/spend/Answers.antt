use Rattle.std.specs.Prelude.{◌≤◌, length, option_and_then}
use Rattle.std.proofs.Common.{ap, rules, sym, ◌∙◌}
use Rattle.std.proofs.lemmas.Option.{slice_get_past}
use Rattle.table_model.specs.Runs.{changed_at}
use Rattle.table_model.proofs.Doors.{changed_past, changed_within}
use Rattle.table_bindings.specs.GroupKeys.{spent, ticket_in}
use Rattle.table_bindings.proofs.group_keys.LegKeys.spend.Goals as goal

pub returns-then-l-len-clause-spent : goal.returns-then-l-len-clause-spent
returns-then-l-len-clause-spent c =
    changed_within spent c.self.inside.legs.items c.args.l c.index_mut-key.result.now c.spend.new.self (search rules)
    c.index_mut-key.ensures.value c.spend.ensures.spent
    ∙ ap (changed_at c.args.l spent) c.self.view_is

pub returns-else-l-len-clause-ticket : goal.returns-else-l-len-clause-ticket
returns-else-l-len-clause-ticket c =
    let past : length c.args.self.now ≤ c.args.l = search rules in
    ap (option_and_then ticket_in) (sym (slice_get_past c.args.self.now c.args.l past))

pub returns-else-l-len-clause-spent : goal.returns-else-l-len-clause-spent
returns-else-l-len-clause-spent c =
    let past : length c.args.self.now ≤ c.args.l = search rules in changed_past spent c.args.self.now c.args.l past
