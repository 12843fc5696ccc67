-- An in-memory disk satisfies the laws of a disk.
use Rattle.std.specs.Prelude.{ℕ, ◌≤◌, List, [], ◌∷◌, length, reverse}
use Rattle.std.proofs.Common.{refl, arith}
use Rattle.std.proofs.lemmas.List.{length-reverse}
use Rattle.act_disk.specs.inner.Laid.{torn_laid}
use Rattle.act_disk.specs.inner.Past as past
use Rattle.act_disk.specs.Record.{Record, seen_after, LeftAfter, bytes_of, MayLeave, MayHaveLeft}
use Rattle.act_disk.specs.declared.call.Call.{Call}
use Rattle.act_disk.specs.declared.call.Call.TheVariants.{Write, Sync}

seen_left : (first : List ℕ) (calls : List Call) → LeftAfter first calls (seen_after first calls)
seen_left first [] = refl
seen_left first (Write at bytes ∷ earlier) =
    (seen_after first earlier, seen_left first earlier, torn_laid at bytes (seen_after first earlier) (length bytes) (omega arith))
seen_left first (Sync ∷ earlier) = refl

pub seen_may_stay : (m : Record) → MayLeave m (bytes_of m)
seen_may_stay m = seen_left m.first (reverse m.calls)

pub left_now : (m : Record) (t : ℕ) (c : List ℕ) → t ≤ length m.calls → MayLeave m c → MayHaveLeft m t c
left_now m t c le left = past.left_now (LeftAfter m.first) (reverse m.calls) t c (omega (arith, le, length-reverse m.calls)) left

pub left_last : (m : Record) (c : List ℕ) → MayHaveLeft m (length m.calls) c → MayLeave m c
left_last m c left =
    past.left_last (LeftAfter m.first) (reverse m.calls) c (left.0, left.1, left.2, omega (arith, length-reverse m.calls, left.3), left.4)
