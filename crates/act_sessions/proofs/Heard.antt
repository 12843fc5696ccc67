-- A failed read.
use Rattle.std.proofs.Common.{◌≡◌, ℕ, ◌≤◌, List, ◌++◌, length, Err, refl}
use Rattle.std.specs.Prelude.{Option}
use Rattle.std.specs.Io.KnownBytes.{Consumes, Keeps}
use Rattle.std.proofs.KnownBytes.{Consumes-kept, Consumes-trans}
use Rattle.act_sessions.specs.declared.error.SessionError.{SessionError}
use Rattle.act_sessions.specs.declared.error.SessionError.TheVariants.{Memory, Broken}
use Rattle.act_sessions.specs.inner.Hearing.{Awaits}
use Rattle.act_sessions.specs.Rules.{Rules}

-- After a failed read, the bytes read before are less than a request, and the read took nothing, unless it was out of memory.
pub read_failed : {F : Type 0} (p : Rules F) (i i1 i2 : Option (List ℕ)) (buffer before more left : List ℕ) (e : SessionError) → Consumes i i1 before
    → Consumes i1 i2 more → length (buffer ++ (before ++ more)) ≤ p.limit → length (buffer ++ before) ≤ p.limit → p.waits (buffer ++ before)
    → (e ≡ Broken → Keeps i1 i2) → Awaits p i i2 buffer left (Err e)
read_failed p i i1 i2 buffer before more left Memory took then all_short short waits kept = (before ++ more, Consumes-trans i i1 i2 before more took then, all_short, tt)
read_failed p i i1 i2 buffer before more left Broken took then all_short short waits kept = (before, Consumes-kept i i1 i2 before took (kept refl), short, waits)
