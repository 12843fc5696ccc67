use Rattle.act_desk.proofs.EnteredLater.{is_covered_later}
use Rattle.act_desk.proofs.desk.Desk.submit.Goals as goal

pub returns-clause-in_history : goal.returns-clause-in_history
returns-clause-in_history g c =
    is_covered_later c.in_ok-pending.pending _ _ _ _ c.cover.result c.in_ok-pending.ensures.pending.0 c.in_ok-pending.ensures.pending.1
    c.in_ok-pending.ensures.after c.cover.ensures.reply c.cover.ensures.covered c.cover.ensures.later
