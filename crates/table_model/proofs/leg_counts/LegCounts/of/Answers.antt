use Rattle.std.proofs.Common.{rules}
use Rattle.table_model.proofs.leg_counts.LegCounts.of.Goals as goal

pub returns : goal.returns
returns c = record {
  newcomers = search rules;
  waiting = search rules;
  ready = search rules;
  at_work = search rules;
}
