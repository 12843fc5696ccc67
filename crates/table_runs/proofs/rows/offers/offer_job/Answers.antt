use Rattle.std.proofs.Common.{rules}
use Rattle.table_runs.proofs.OffersList.{none_to_offer}
use Rattle.table_runs.proofs.rows.offers.offer_job.Goals as goal

pub returns-else-has_ready_leg-clause-all : goal.returns-else-has_ready_leg-clause-all
returns-else-has_ready_leg-clause-all c =
    none_to_offer c.args.lists.now c.args.numbers.now c.args.r c.args.j c.args.job.now.state (search rules)
