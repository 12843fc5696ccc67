use Rattle.act_store.proofs.Reopening.{delivery_again}
use Rattle.act_store.proofs.laws.a_delivery_makes_one_run.Goals as goal

pub returns : goal.returns
returns c = λ life lives table before suffix entry run event again fit leads acknowledged.
    delivery_again life before suffix entry acknowledged lives table leads run event again fit
