use Rattle.client_loop.proofs.Served.{stays_released}
use Rattle.client_loop.proofs.laws.released_answers_survive.Goals as goal

pub returns : goal.returns
returns c = λ history covered count number before client durable le. stays_released history covered count number before client durable le
