-- The effect of one disk call on a file, in terms of system calls, newest first. `old` are the calls before it, `new` those after it.
use Rattle.std.specs.Prelude.{◌≡◌, ◌⊎◌, ◌↔◌, ℕ, zero, suc, ◌+◌, ◌^◌, ◌<◌, ◌≤◌, max, List, ◌∷◌, length, take, IsTrue, Bool, false}
use Rattle.definitions.specs.Disk.{Torn, Follows, LeavesAny, SameImages, Elapses}
use Rattle.act_disk.specs.Laid.{laid}
use Rattle.act_disk.specs.SystemCalls.{FileCall, is_sound, contents, MayLeave, MayHaveLeft, IsHonest}

-- either this call was made and failed, or no call was made
abbrev pub MayHaveFailed : FileCall → List FileCall → List FileCall → Type 0
MayHaveFailed call old new = (new ≡ old) ⊎ (new ≡ call ∷ old)

-- the images since an earlier moment, extended by those after these calls
abbrev pub Passed : (List ℕ → Type 0) → List ℕ → List FileCall → List FileCall → Type 0
Passed left held old new =
    Elapses (length old) (length new) (MayHaveLeft left held old) (MayHaveLeft left held new) (MayLeave left held new)

-- the file with the first `count` bytes written at `at`; the unchanged file where `count` is 0
abbrev pub partly : ℕ → List ℕ → ℕ → List ℕ → List ℕ
partly at bytes zero file = file
partly at bytes (suc count) file = laid at (take (suc count) bytes) file

-- the length of such a file
abbrev pub length_after : ℕ → ℕ → ℕ → ℕ
length_after at zero len = len
length_after at (suc count) len = max len (at + suc count)

-- The first `count` bytes were written at `at`.
pub record Puts (left : List ℕ → Type 0) (held : List ℕ) (at : ℕ) (bytes : List ℕ) (count : ℕ) (old new : List FileCall) : Type 0 where
  pub put : contents held new ≡ laid at (take count bytes) (contents held old)
  pub follows : Follows (Torn at (length bytes)) (MayLeave left held old) (MayLeave left held new)
  pub any : LeavesAny (Torn at (length bytes)) (MayLeave left held old) (MayLeave left held new)
  pub passed : Passed left held old new
  pub honest : IsHonest held new ↔ IsHonest held old
  pub sound : is_sound new ≡ is_sound old

-- A call failed after the first `count` bytes were written at `at`.
pub record Breaks (left : List ℕ → Type 0) (held : List ℕ) (at : ℕ) (bytes : List ℕ) (count : ℕ) (old new : List FileCall) : Type 0 where
  pub within : count ≤ length bytes
  pub fits : 0 < count → at + count < 2 ^ 64
  pub put : contents held new ≡ partly at bytes count (contents held old)
  pub follows : Follows (Torn at (length bytes)) (MayLeave left held old) (MayLeave left held new)
  pub passed : Passed left held old new
  pub honest : IsHonest held new ↔ IsHonest held old

-- The calls only read.
pub record Reads (left : List ℕ → Type 0) (held : List ℕ) (old new : List FileCall) : Type 0 where
  pub same : contents held new ≡ contents held old
  pub images : SameImages (MayLeave left held old) (MayLeave left held new)
  pub passed : Passed left held old new
  pub honest : IsHonest held new → IsHonest held old
  pub sound : is_sound new ≡ is_sound old

-- What a disk knows about its file: its length, and that no write, extension or sync has failed unless `failed` is set.
abbrev pub IsLong : List ℕ → List FileCall → ℕ → Type 0
IsLong held calls len = IsHonest held calls → len ≡ length (contents held calls)

abbrev pub IsSoundUntil : Bool → List FileCall → Type 0
IsSoundUntil failed calls = failed ≡ false → IsTrue (is_sound calls)
