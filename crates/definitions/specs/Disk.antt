-- The disk model: the effect of each disk call on what a read returns and on the images that a crash may leave. An image is the list of
-- the disk's bytes.
use Rattle.std.specs.Prelude.{◌≡◌, ◌⊎◌, ◌↔◌, ℕ, ◌+◌, ◌≤◌, min, max, List, length, take, drop, Result, MatchResult}

-- A write of n bytes at `at`, whatever became of it: any bytes in the range and past the old end, the same bytes elsewhere.
pub record Torn (at n : ℕ) (old new : List ℕ) : Type 0 where
  pub no_shorter : length old ≤ length new
  pub no_longer : length new ≤ max (length old) (at + n)
  pub before : take (min at (length old)) new ≡ take (min at (length old)) old
  pub after : drop (at + n) new ≡ drop (at + n) old

-- the file has these bytes at `at`
abbrev pub Holds : List ℕ → ℕ → List ℕ → Type 0
Holds file at bytes = take (length bytes) (drop at file) ≡ bytes

-- A completed write of these bytes at `at`. Any bytes may lie between the old end and `at`.
pub record IsWritten (at : ℕ) (bytes old new : List ℕ) : Type 0 where
  pub len : length new ≡ max (length old) (at + length bytes)
  pub torn : Torn at (length bytes) old new
  pub held : Holds new at bytes

-- the step may turn one of these images into this one
abbrev pub From : (List ℕ → List ℕ → Type 0) → (List ℕ → Type 0) → List ℕ → Type 0
From step images c = (d : List ℕ) × images d × step d c

-- each image after the step comes from one before it, and the images before it remain possible
pub record Follows (step : List ℕ → List ℕ → Type 0) (old new : List ℕ → Type 0) : Type 0 where
  pub each : (c : List ℕ) → new c → From step old c
  pub keeps : (c : List ℕ) → old c → new c

-- every image that the step may produce from an earlier one is possible after it
abbrev pub LeavesAny : (List ℕ → List ℕ → Type 0) → (List ℕ → Type 0) → (List ℕ → Type 0) → Type 0
LeavesAny step old new = (d c : List ℕ) → old d → step d c → new c

abbrev pub SameImages : (List ℕ → Type 0) → (List ℕ → Type 0) → Type 0
SameImages old new = (c : List ℕ) → new c ↔ old c

-- this image and no other
abbrev pub Only : List ℕ → (List ℕ → Type 0) → Type 0
Only file images = (c : List ℕ) → images c ↔ (c ≡ file)

-- Time passes: the images since an earlier moment are those counted before, and the current ones.
pub record Elapses (before now : ℕ) (past since : ℕ → List ℕ → Type 0) (images : List ℕ → Type 0) : Type 0 where
  pub later : before ≤ now
  pub nothing_else : (t : ℕ) (c : List ℕ) → t ≤ before → since t c → past t c ⊎ images c
  pub keeps : (t : ℕ) (c : List ℕ) → t ≤ before → past t c → since t c

-- Every image since `old` has P: a crash at any moment from `old` to `new` leaves a disk with P.
pub record EachSince {D : Type 0} (moment : D → ℕ) (images_since : D → ℕ → List ℕ → Type 0) (old new : D)
    (P : List ℕ → Type 0) : Type 0 where
  pub later : moment old ≤ moment new
  pub each : (c : List ℕ) → images_since new (moment old) c → P c
  -- for a run that began before `old`: each image was counted at `old` or has P
  pub before : (t : ℕ) (c : List ℕ) → t ≤ moment old → images_since new t c → images_since old t c ⊎ P c

-- the fault count is unchanged at `Ok` and one higher at `Err`
abbrev pub CountsFault : {T E : Type 0} → Result T E → ℕ → ℕ → Type 0
CountsFault result old new = MatchResult result (λ _. new ≡ old) (λ _. new ≡ old + 1)
