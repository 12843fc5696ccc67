use Rattle.std.proofs.Common.{refl}
use Rattle.table_model.proofs.LegCounts.{all_new_counted}
use Rattle.table_model.proofs.leg_counts.LegCounts.all_new.Goals as goal

pub returns : goal.returns
returns c = all_new_counted c.args.legs _ refl refl refl refl
