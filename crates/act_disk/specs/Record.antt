-- An in-memory disk: the effect of its calls on its bytes and on what a crash may leave.
use Rattle.std.specs.Prelude.{◌≡◌, ℕ, ◌+◌, List, [], ◌∷◌, ◌++◌, length, reverse, Result, MatchResult}
use Rattle.definitions.specs.Disk.{Torn}
use Rattle.act_disk.specs.Laid.{laid}
use Rattle.act_disk.specs.Past.{LeftSince}
use Rattle.act_disk.specs.declared.call.Call.{Call}
use Rattle.act_disk.specs.declared.call.Call.TheVariants.{Write, Sync}

-- An in-memory disk: its initial bytes, its completed writes and syncs, oldest first, the number of failed calls, and the number of all
-- calls, including reads and failed ones.
pub record Record : Type 0 where
  pub first : List ℕ
  pub calls : List Call
  pub faults : ℕ
  pub made : ℕ

-- a call on an in-memory disk: either completed and recorded, or failed and counted
abbrev pub Notes : {T E : Type 0} → Result T E → Call → Record → Record → Type 0
Notes result call old new = MatchResult result
    (λ _. new ≡ record old { calls = old.calls ++ call ∷ []; made = old.made + 1 })
    (λ _. new ≡ record old { faults = old.faults + 1; made = old.made + 1 })

-- a disk with these bytes and no calls
abbrev pub fresh : List ℕ → Record
fresh bytes = record { first = bytes; calls = []; faults = 0; made = 0 }

-- In the next two definitions the calls come newest first.

-- what a read returns after these calls
abbrev pub seen_after : List ℕ → List Call → List ℕ
seen_after first [] = first
seen_after first (Write at bytes ∷ earlier) = laid at bytes (seen_after first earlier)
seen_after first (Sync ∷ earlier) = seen_after first earlier

-- a crash after these calls may leave this image
abbrev pub LeftAfter : List ℕ → List Call → List ℕ → Type 0
LeftAfter first [] c = c ≡ first
LeftAfter first (Write at bytes ∷ earlier) c = (d : List ℕ) × LeftAfter first earlier d × Torn at (length bytes) d c
LeftAfter first (Sync ∷ earlier) c = c ≡ seen_after first earlier

-- what a read returns
abbrev pub bytes_of : Record → List ℕ
bytes_of m = seen_after m.first (reverse m.calls)

-- a crash at this moment may leave this image
abbrev pub MayLeave : Record → List ℕ → Type 0
MayLeave m c = LeftAfter m.first (reverse m.calls) c

abbrev pub MayHaveLeft : Record → ℕ → List ℕ → Type 0
MayHaveLeft m t c = LeftSince (LeftAfter m.first) (reverse m.calls) t c
