use Rattle.std.proofs.Common.{ap, sym, ◌∙◌}
use Rattle.group_name.specs.Group.{group_of}
use Rattle.table_bindings.proofs.groups.GroupRequest.bind.Goals as goal

pub returns-clause-says : goal.returns-clause-says
returns-clause-says g c = λ values has. record {
  group = λ results.
      c.in_ok-group.ensures.group results
      ∙ ap (group_of c.args.repository.now) (sym (c.in_ok-name.ensures.text results (values results) (has results)));
  cancels = λ results. c.in_ok-cancels.ensures.says results (values results) (has results);
}
