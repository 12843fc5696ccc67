-- A disk that fails some calls.
use Rattle.std.specs.Prelude.{◌≡◌, ℕ, ◌-◌, ◌==◌, Bool, false, if◌then◌else◌, IsTrue, IsFalse, Result, IsErr}
use Rattle.act_disk.specs.declared.failing.Failing.{Failing}
use Rattle.act_disk.specs.declared.failing.Failing.TheVariants.{Once, From, Never}

-- the inner disk, which calls fail, how many calls the fuse failed, and how many were made
pub record Fused (D : Type 0) : Type 0 where
  pub disk : D
  pub failing : Failing
  pub refused : ℕ
  pub made : ℕ

-- whether the next call fails
abbrev pub fails_now : Failing → Bool
fails_now (Once n) = n == 0
fails_now (From n) = n == 0
fails_now Never = false

-- which calls fail after the next one
abbrev pub after_call : Failing → Failing
after_call (Once n) = if n == 0 then Never else Once (n - 1)
after_call (From n) = From (n - 1)
after_call Never = Never

-- A call goes through the fuse. It fails where the fuse says so; otherwise the fuse adds no fault.
pub record Passes {D T E : Type 0} (result : Result T E) (old new : Fused D) : Type 0 where
  pub after : new.failing ≡ after_call old.failing
  pub fails : IsTrue (fails_now old.failing) → IsErr result
  pub passes : IsFalse (fails_now old.failing) → new.refused ≡ old.refused
