-- An area of a disk.
use Rattle.std.specs.Prelude.{◌≡◌, ◌⊎◌, ℕ, ◌+◌, ◌<◌, ◌≤◌, ◌^◌, List, [], ◌∷◌, ◌++◌, length}
use Rattle.definitions.specs.Area.{Head, opened, IsClosed, Reads, WouldRead}
use Rattle.gated_journal.specs.Choice.{part}
use Rattle.gated_journal.specs.Appends.{record_of}

-- the area of length `len` at `start` lies within the disk and reads as this head and these bodies
pub record ReadsAt (start len : ℕ) (disk : List ℕ) (head : Head) (bodies : List (List ℕ)) : Type 0 where
  pub within : start + len ≤ length disk
  pub reads : Reads (part start len disk) head bodies

-- it lies within the disk and would read so if its gate were open
pub record WouldReadAt (start len : ℕ) (disk : List ℕ) (head : Head) (bodies : List (List ℕ)) : Type 0 where
  pub within : start + len ≤ length disk
  pub would : WouldRead (part start len disk) head bodies

-- it would read so, and its gate is closed
pub record ShutAt (start len : ℕ) (disk : List ℕ) (head : Head) (bodies : List (List ℕ)) : Type 0 where
  pub would : WouldReadAt start len disk head bodies
  pub closed : IsClosed (part start len disk)

-- it reads so, or would read so and its gate is closed
abbrev pub OpenOrShut : ℕ → ℕ → Head → List (List ℕ) → List ℕ → Type 0
OpenOrShut start len head bodies disk = ReadsAt start len disk head bodies ⊎ ShutAt start len disk head bodies

-- it reads so, or with this body appended
abbrev pub MayHaveGrown : ℕ → ℕ → Head → List (List ℕ) → List ℕ → List ℕ → Type 0
MayHaveGrown start len head bodies body disk = ReadsAt start len disk head bodies ⊎ ReadsAt start len disk head (bodies ++ body ∷ [])

-- In each of these images the area reads so, its first closed gate is at `at`, and the bytes are a record of that body.
pub record Awaits (start len at : ℕ) (bytes : List ℕ) (images : List ℕ → Type 0)
    (head : Head) (bodies : List (List ℕ)) (body : List ℕ) : Type 0 where
  pub each : (c : List ℕ) → images c → ReadsAt start len c head bodies
  pub gate : length (opened head bodies) ≡ at
  pub framed : bytes ≡ record_of body
  pub short : length body < 2 ^ 32
