use Rattle.table_laws.proofs.KeptReplies.{reply_again}
use Rattle.table_laws.proofs.laws.a_kept_reply_is_given_again.Goals as goal

pub returns : goal.returns
returns c = reply_again
