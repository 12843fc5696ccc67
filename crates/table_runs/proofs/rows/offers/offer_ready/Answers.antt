use Rattle.std.specs.Prelude.{ℕ}
use Rattle.std.proofs.Common.{subst}
use Rattle.label_lists.specs.Lists.{HasPlace}
use Rattle.table_runs.proofs.rows.offers.offer_ready.Goals as goal

pub put-requires : goal.put-requires
put-requires c = subst (λ (k : ℕ). HasPlace c.args.lists.now k c.args.r) (c.in-Some.ensures 0) (c.requires 0)
