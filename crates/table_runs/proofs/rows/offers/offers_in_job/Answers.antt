use Rattle.std.proofs.Common.{sym, rules}
use Rattle.table_runs.proofs.OffersList.{all_offer_alike, no_leg_offers}
use Rattle.table_runs.proofs.rows.offers.offers_in_job.Goals as goal

pub returns-then-not-has_ready_leg : goal.returns-then-not-has_ready_leg
returns-then-not-has_ready_leg c =
    sym (no_leg_offers c.args.numbers.now c.args.number c.args.j c.args.job.now.state (search rules))

pub returns-in-Some : goal.returns-in-Some
returns-in-Some c =
    sym (all_offer_alike c.args.numbers.now c.args.number c.args.j c.in-Some.all c.args.job.now.state c.in-Some.ensures (search rules))
