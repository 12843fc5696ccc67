use Rattle.act_store.proofs.Reopening.{attempt_again}
use Rattle.act_store.proofs.laws.an_attempt_begins_once.Goals as goal

pub returns : goal.returns
returns c = λ life lives table before suffix entry requested leads acknowledged.
    attempt_again life before suffix entry acknowledged lives table leads requested
