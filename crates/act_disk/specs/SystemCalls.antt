-- The system calls made on one file, with their answers, and their effect on the file. Lists are newest first. A call that a signal
-- interrupted had no effect, and neither did a failed read: no list contains them.
use Rattle.std.specs.Prelude.{◌≡◌, ℕ, List, [], ◌∷◌, length, take, drop, Bool, true, false, IsTrue, Result, Ok, Err}
use Rattle.definitions.specs.Disk.{Torn, From}
use Rattle.act_disk.specs.Laid.{laid}
use Rattle.act_disk.specs.Past.{LeftSince}
use Rattle.act_disk.specs.declared.system_file.CallError.{CallError}
use Rattle.act_disk.specs.declared.system_file.CallError.TheVariants.{Interrupted, Failed}

pub data FileCall : Type 0 where
  -- the file had this length
  Measured : (len : ℕ) → FileCall
  -- a read from this offset returned these bytes
  Gave : (at : ℕ) → (bytes : List ℕ) → FileCall
  -- a write of these bytes at this offset wrote the first `count` of them
  Wrote : (at : ℕ) → (bytes : List ℕ) → (count : ℕ) → FileCall
  WriteFailed : (at : ℕ) → (bytes : List ℕ) → FileCall
  -- the file was extended to this length, which was not below its old length
  Grew : (len : ℕ) → FileCall
  GrowthFailed : (len : ℕ) → FileCall
  Synced : FileCall
  SyncFailed : FileCall

-- What each system call adds to the list, given its answer.

abbrev pub measured : Result ℕ CallError → List FileCall → List FileCall
measured (Ok len) earlier = Measured len ∷ earlier
measured (Err e) earlier = earlier

-- the buffer holds `buf` after the call
abbrev pub gave : ℕ → List ℕ → Result ℕ CallError → List FileCall → List FileCall
gave at buf (Ok count) earlier = Gave at (take count buf) ∷ earlier
gave at buf (Err e) earlier = earlier

abbrev pub wrote : ℕ → List ℕ → Result ℕ CallError → List FileCall → List FileCall
wrote at bytes (Ok count) earlier = Wrote at bytes count ∷ earlier
wrote at bytes (Err Interrupted) earlier = earlier
wrote at bytes (Err Failed) earlier = WriteFailed at bytes ∷ earlier

abbrev pub grew : {T : Type 0} → ℕ → Result T CallError → List FileCall → List FileCall
grew len (Ok x) earlier = Grew len ∷ earlier
grew len (Err Interrupted) earlier = earlier
grew len (Err Failed) earlier = GrowthFailed len ∷ earlier

abbrev pub synced : {T : Type 0} → Result T CallError → List FileCall → List FileCall
synced (Ok x) earlier = Synced ∷ earlier
synced (Err Interrupted) earlier = earlier
synced (Err Failed) earlier = SyncFailed ∷ earlier

-- No write, extension or sync has failed. After such a failure the system may have dropped written bytes, and later reads and syncs prove
-- nothing.
abbrev pub is_sound : List FileCall → Bool
is_sound [] = true
is_sound (Measured len ∷ earlier) = is_sound earlier
is_sound (Gave at bytes ∷ earlier) = is_sound earlier
is_sound (Wrote at bytes count ∷ earlier) = is_sound earlier
is_sound (WriteFailed at bytes ∷ earlier) = false
is_sound (Grew len ∷ earlier) = is_sound earlier
is_sound (GrowthFailed len ∷ earlier) = false
is_sound (Synced ∷ earlier) = is_sound earlier
is_sound (SyncFailed ∷ earlier) = false

-- The bytes of a file that initially held `held`.
abbrev pub contents : List ℕ → List FileCall → List ℕ
contents held [] = held
contents held (Measured len ∷ earlier) = contents held earlier
contents held (Gave at bytes ∷ earlier) = contents held earlier
contents held (Wrote at bytes count ∷ earlier) = laid at (take count bytes) (contents held earlier)
contents held (WriteFailed at bytes ∷ earlier) = contents held earlier
contents held (Grew len ∷ earlier) = laid len [] (contents held earlier)
contents held (GrowthFailed len ∷ earlier) = contents held earlier
contents held (Synced ∷ earlier) = contents held earlier
contents held (SyncFailed ∷ earlier) = contents held earlier

-- A crash after these calls may leave this image, if a crash before the first of them might leave an image with `left`. A write or an
-- extension, complete, short or failed, may leave any bytes in its range and past the old end. A sync adds no image. A successful sync
-- with no failure before it leaves only the contents.
abbrev pub MayLeave : (List ℕ → Type 0) → List ℕ → List FileCall → List ℕ → Type 0
MayLeave left held [] c = left c
MayLeave left held (Measured len ∷ earlier) c = MayLeave left held earlier c
MayLeave left held (Gave at bytes ∷ earlier) c = MayLeave left held earlier c
MayLeave left held (Wrote at bytes count ∷ earlier) c = From (Torn at (length bytes)) (MayLeave left held earlier) c
MayLeave left held (WriteFailed at bytes ∷ earlier) c = From (Torn at (length bytes)) (MayLeave left held earlier) c
MayLeave left held (Grew len ∷ earlier) c = From (Torn len 0) (MayLeave left held earlier) c
MayLeave left held (GrowthFailed len ∷ earlier) c = From (Torn len 0) (MayLeave left held earlier) c
MayLeave left held (Synced ∷ earlier) c = MayLeave left held earlier c × (IsTrue (is_sound earlier) → c ≡ contents held earlier)
MayLeave left held (SyncFailed ∷ earlier) c = MayLeave left held earlier c

-- a crash after t or more of these calls might have left this image
abbrev pub MayHaveLeft : (List ℕ → Type 0) → List ℕ → List FileCall → ℕ → List ℕ → Type 0
MayHaveLeft left held calls t c = LeftSince (MayLeave left held) calls t c

-- The answers are those of a file that initially held these bytes and that nobody else writes. This covers each length and each read until
-- a write, an extension or a sync fails.
abbrev pub IsHonest : List ℕ → List FileCall → Type 0
IsHonest held [] = Unit {0}
IsHonest held (Measured len ∷ earlier) = IsHonest held earlier × (IsTrue (is_sound earlier) → len ≡ length (contents held earlier))
IsHonest held (Gave at bytes ∷ earlier) =
    IsHonest held earlier × (IsTrue (is_sound earlier) → bytes ≡ take (length bytes) (drop at (contents held earlier)))
IsHonest held (Wrote at bytes count ∷ earlier) = IsHonest held earlier
IsHonest held (WriteFailed at bytes ∷ earlier) = IsHonest held earlier
IsHonest held (Grew len ∷ earlier) = IsHonest held earlier
IsHonest held (GrowthFailed len ∷ earlier) = IsHonest held earlier
IsHonest held (Synced ∷ earlier) = IsHonest held earlier
IsHonest held (SyncFailed ∷ earlier) = IsHonest held earlier
