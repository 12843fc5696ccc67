-- The images that an in-memory disk produces for a crash inside one of its calls.
use Rattle.std.specs.Prelude.{ℕ, ◌/◌, List, [], ◌∷◌, ◌++◌, length, take, drop, replicate, reverse}
use Rattle.act_disk.specs.Laid.{laid}
use Rattle.act_disk.specs.Record.{Record, fresh, seen_after, LeftAfter}
use Rattle.act_disk.specs.declared.call.Call.{Call}
use Rattle.act_disk.specs.declared.call.Call.TheVariants.{Write, Sync}
use Rattle.act_disk.specs.declared.call.Fill.{Fill}
use Rattle.act_disk.specs.declared.call.Fill.TheVariants.{Old, New, Half, Gates}

-- what remains of a write that no sync made durable
abbrev pub filled : Fill → ℕ → List ℕ → List ℕ → List ℕ
filled Old at bytes file = file
filled New at bytes file = laid at bytes file
filled Half at bytes file = laid at (take (length bytes / 2) bytes) file
filled Gates at bytes file = laid at (replicate (length bytes) 0xA5) file

-- The result of these calls, newest first: what the last sync made durable, then each later write as the fill says.
abbrev pub filled_after : Fill → List ℕ → List Call → List ℕ
filled_after fill first [] = first
filled_after fill first (Write at bytes ∷ earlier) = filled fill at bytes (filled_after fill first earlier)
filled_after fill first (Sync ∷ earlier) = seen_after first earlier

-- the first call, if it is a write
abbrev pub own_write : List Call → List Call
own_write (Write at bytes ∷ calls) = Write at bytes ∷ []
own_write calls = []

-- Inside a call: the calls before it, and the call itself if it is a write.
abbrev pub begun : List Call → ℕ → List Call
begun calls call = take call calls ++ own_write (drop call calls)

-- a crash inside that call may leave this image
abbrev pub LeftInside : Record → ℕ → List ℕ → Type 0
LeftInside m call c = LeftAfter m.first (reverse (begun m.calls call)) c

-- the disk that a crash inside that call leaves with this fill
abbrev pub image_of : Record → ℕ → Fill → Record
image_of m call fill = fresh (filled_after fill m.first (reverse (begun m.calls call)))

-- The file after each of these writes as the fill says. The calls come oldest first.
abbrev pub laid_by : Fill → List Call → List ℕ → List ℕ
laid_by fill [] file = file
laid_by fill (Write at bytes ∷ calls) file = laid_by fill calls (filled fill at bytes file)
laid_by fill (Sync ∷ calls) file = laid_by fill calls file
