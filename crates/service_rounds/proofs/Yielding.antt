-- One more session on each port.
use Rattle.std.proofs.Common.{◌≡◌, ◌∙◌, ℕ, ◌+◌, List, [], ◌∷◌, ◌++◌, ap, arith, Bor, length, length-append, refl, subst, sym}
use Rattle.std.specs.declared.net.tcp.TcpListener.{TcpListener}
use Rattle.service_rounds.specs.Connections.{Alternate}
use Rattle.service_rounds.specs.declared.connection.Connection.{Connection}
use Rattle.service_rounds.specs.declared.connection.Connection.TheVariants.{Hook, Runner}

one_more_turn : (hooks runners : Bor TcpListener) (connections : List Connection) → Alternate hooks.now runners.now connections
    → Alternate hooks.now runners.now ((connections ++ Hook hooks ∷ []) ++ Runner runners ∷ [])
one_more_turn hooks runners [] yielding = (refl, refl, tt)
one_more_turn hooks runners (Hook a ∷ []) yielding = absurd yielding
one_more_turn hooks runners (Hook a ∷ Hook b ∷ connections) yielding = absurd yielding
one_more_turn hooks runners (Hook a ∷ Runner b ∷ connections) yielding = (yielding.0, yielding.1, one_more_turn hooks runners connections yielding.2)
one_more_turn hooks runners (Runner a ∷ connections) yielding = absurd yielding

pub turn_more : (hooks runners : Bor TcpListener) (n : ℕ) (connections mid new : List Connection) → mid ≡ connections ++ Hook hooks ∷ []
    → new ≡ mid ++ Runner runners ∷ [] → (length connections ≡ n + n) × Alternate hooks.now runners.now connections
    → (length new ≡ n + 1 + (n + 1)) × Alternate hooks.now runners.now new
turn_more hooks runners n connections mid new one two so_far =
    let all : new ≡ (connections ++ Hook hooks ∷ []) ++ Runner runners ∷ [] = two ∙ ap (λ vs. vs ++ Runner runners ∷ []) one in (
      omega (arith, ap length all, length-append (connections ++ Hook hooks ∷ []) (Runner runners ∷ []), length-append connections (Hook hooks ∷ []), so_far.0),
      subst (Alternate hooks.now runners.now) (sym all) (one_more_turn hooks runners connections so_far.1),
    )
