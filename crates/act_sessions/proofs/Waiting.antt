-- Bytes that wait.
use Rattle.std.proofs.Common.{ℕ, ◌+◌, ◌≤◌, List, [], ◌∷◌, length, sym, subst, append-nil, length-append, arith}
use Rattle.act_sessions.specs.Rules.{Rules, WaitUntil}

-- bytes that may be a request with the next byte
pub waits_until_more : {F : Type 0} (p : Rules F) (bytes : List ℕ) (until : ℕ) → p.waits bytes → until ≤ length bytes + 1 → WaitUntil p bytes until
waits_until_more p bytes until waits few [] below = subst p.waits (sym (append-nil bytes)) waits
waits_until_more p bytes until waits few (b ∷ more) below = absurd (let e = length-append bytes (b ∷ more) in omega arith)
