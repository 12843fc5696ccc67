-- The effect of a call that only reads a disk.
use Rattle.std.specs.Prelude.{◌≡◌, ℕ, List}
use Rattle.definitions.specs.Disk.{EachSince}

-- The bytes and the length do not change, and a crash leaves no image that it might not have left before. A read may end a disk's honesty:
-- the clauses on bytes and images hold if the disk is honest after it.
pub record OnlyRead {D : Type 0} (honest : D → Type 0) (seen : D → List ℕ) (size moment : D → ℕ) (images : D → List ℕ → Type 0)
    (images_since : D → ℕ → List ℕ → Type 0) (old new : D) : Type 0 where
  pub any_moment : honest new → EachSince moment images_since old new (images old)
  pub same_seen : honest new → seen new ≡ seen old
  pub same_size : size new ≡ size old
  pub was_honest : honest new → honest old
