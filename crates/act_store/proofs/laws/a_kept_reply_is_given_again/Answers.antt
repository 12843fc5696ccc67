use Rattle.act_store.proofs.Reopening.{reply_again}
use Rattle.act_store.proofs.laws.a_kept_reply_is_given_again.Goals as goal

pub returns : goal.returns
returns c = λ life lives table before suffix entry number runner leads acknowledged.
    reply_again life before suffix entry acknowledged lives table leads runner number
