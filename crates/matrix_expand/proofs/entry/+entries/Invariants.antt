use Rattle.std.proofs.Common.{length}
use Rattle.matrix_expand.proofs.entry.+entries.Given as goal

abbrev pub decreases-entries : goal.decreases-entries
decreases-entries l = length l.objects.now
