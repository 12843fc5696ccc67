use Rattle.std.proofs.Common.{length}
use Rattle.wf_expr.proofs.properties.Properties.+of_path.Given as goal

abbrev pub decreases-of_path : goal.decreases-of_path
decreases-of_path l = length l.path.now
