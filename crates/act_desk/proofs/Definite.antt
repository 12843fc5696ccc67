-- Answers that settle whether their commands were entered.
use Rattle.std.proofs.Common.{◌≡◌, ℕ, zero, suc, ◌<◌, ◌||◌, true, List, [], ◌∷◌, ◌++◌, length, get_or, arith}
use Rattle.act_sessions.specs.declared.transcript.LoggedExchange.{LoggedExchange}
use Rattle.act_sessions.specs.Exchange.{Exchange, leaves_open, exchanges_in}
use Rattle.act_desk.specs.Settled.{AreDefinite, is_definite}

or_more : (a b : _) → a ≡ true → (a || b) ≡ true
or_more a b h = rw h

one_more : (t : Exchange) (exchanges : List Exchange) → is_definite t.1 ≡ true → AreDefinite exchanges → AreDefinite (t ∷ exchanges)
one_more t [] h are = or_more (is_definite t.1) (leaves_open t.1) h
one_more t (u ∷ exchanges) h are = (h, are)

-- the last answer, after others that settle it
pub definite_with : (prefix : List LoggedExchange) (last : LoggedExchange) → ((k : ℕ) (one : LoggedExchange) → k < length prefix → is_definite (get_or prefix k one).answer ≡ true)
    → (is_definite last.answer || leaves_open last.answer) ≡ true → AreDefinite (exchanges_in (prefix ++ last ∷ []))
definite_with [] last each may = may
definite_with (a ∷ prefix) last each may =
    one_more (a.command, a.answer) (exchanges_in (prefix ++ last ∷ [])) (each 0 a (omega arith))
    (definite_with prefix last (λ k one less. each (suc k) one (omega arith)) may)

-- the last answer of a list in which each other one settles it
pub definite_last : (prefix : List LoggedExchange) (last : LoggedExchange) → AreDefinite (exchanges_in (prefix ++ last ∷ []))
    → (is_definite last.answer || leaves_open last.answer) ≡ true
definite_last [] last are = are
definite_last (a ∷ []) last are = are.1
definite_last (a ∷ b ∷ prefix) last are = definite_last (b ∷ prefix) last are.1

pub definite_before : (prefix : List LoggedExchange) (last : LoggedExchange) → AreDefinite (exchanges_in (prefix ++ last ∷ []))
    → (k : ℕ) (one : LoggedExchange) → k < length prefix → is_definite (get_or prefix k one).answer ≡ true
definite_before [] last are k one less = absurd (omega arith)
definite_before (a ∷ []) last are zero one less = are.0
definite_before (a ∷ []) last are (suc k) one less = absurd (omega arith)
definite_before (a ∷ b ∷ prefix) last are zero one less = are.0
definite_before (a ∷ b ∷ prefix) last are (suc k) one less = definite_before (b ∷ prefix) last are.1 k one (omega arith)
