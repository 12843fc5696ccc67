-- What hearing a piece of a client's bytes does.
use Rattle.std.specs.Prelude.{◌≡◌, ◌⊎◌, ◌+◌, ◌≤◌, ℕ, List, ◌++◌, length, true, false}
use Rattle.act_sessions.specs.Exchange.{Exchange}
use Rattle.act_store.specs.StoreState.{StoreState}
use Rattle.client_loop.specs.Conversation.{Conversation}
use Rattle.client_loop.specs.Entering.{Enters}
use Rattle.definitions.specs.Limits.{max_taken, max_withheld}

-- The piece was received. Some commands were entered or refused under the client's number, and their answers are withheld. Nothing was sent.
pub record Hears {D : Type 0} (number : ℕ) (piece : List ℕ) (store : StoreState D) (old : Conversation) (store_new : StoreState D) (new : Conversation) : Type 0 where
  pub received_is : new.received ≡ old.received ++ piece
  pub sent_is : new.sent ≡ old.sent
  pub parted_is : new.parted ≡ old.parted
  pub exchanges : List Exchange
  pub few : length exchanges ≤ max_taken
  -- It says that it has more only after as many requests as are taken at a time, or where many bytes are withheld.
  pub full : new.over ≡ false → new.more ≡ true → (new.requests ≡ old.requests + max_taken) ⊎ (max_withheld ≤ length new.withheld)
  pub exchanges_are : new.exchanges ≡ old.exchanges ++ exchanges
  pub enters : Enters number store exchanges store_new
  pub text : List ℕ
  pub withheld_is : new.withheld ≡ old.withheld ++ text
