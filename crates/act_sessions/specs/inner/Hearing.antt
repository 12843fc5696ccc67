-- What waiting for a request finds.
use Rattle.std.specs.Prelude.{◌≡◌, ℕ, ◌≤◌, List, ◌++◌, length, Option, Some, None, Result, Ok, Err, ⊤}
use Rattle.std.specs.Io.KnownBytes.{Consumes, IsAtEnd}
use Rattle.act_sessions.specs.declared.request.Request.{Request}
use Rattle.act_sessions.specs.declared.error.SessionError.{SessionError}
use Rattle.act_sessions.specs.declared.error.SessionError.TheVariants.{Memory, Broken}
use Rattle.act_sessions.specs.Rules.{Rules}

-- `left` is what the buffer holds of all the bytes. A read fails only if the bytes read before contain no whole request.
abbrev pub Hears : {F : Type 0} → Rules F → Option (List ℕ) → List ℕ → List ℕ → Result (Option (Request F)) SessionError → Type 0
Hears p input all left (Ok (Some r)) = p.reads all r left × (length left ≤ length all)
Hears p input all left (Ok None) = p.waits left × (all ≡ left) × IsAtEnd input
Hears p input all left (Err Memory) = ⊤
Hears p input all left (Err Broken) = p.waits all

abbrev pub Awaits : {F : Type 0} → Rules F → Option (List ℕ) → Option (List ℕ) → List ℕ → List ℕ → Result (Option (Request F)) SessionError → Type 0
Awaits p input input_new buffer left r =
    (piece : List ℕ) × Consumes input input_new piece × (length (buffer ++ piece) ≤ p.limit) × Hears p input_new (buffer ++ piece) left r
