-- What submitting a command to a store does.
use Rattle.std.specs.Prelude.{◌≡◌, [], ◌∷◌, ◌++◌, Option, Some, None}
use Rattle.run_plan.specs.declared.command.Command.{Command}
use Rattle.act_sessions.specs.Exchange.{Response}
use Rattle.act_store.specs.StoreState.{StoreState}
use Rattle.client_loop.specs.Entering.{EntersOne}
use Rattle.client_loop.specs.declared.author.Author.{Author}

-- The command was entered or refused under the author's number, and is kept with its answer.
abbrev pub IsEntered : {D : Type 0} → Author → StoreState D → Command → Option Response → Author → StoreState D → Type 0
IsEntered old store c (Some answer) new store_new = EntersOne old.number store (c, answer) store_new × (new.exchanges ≡ old.exchanges ++ (c, answer) ∷ [])
IsEntered old store c None new store_new = ⊥
