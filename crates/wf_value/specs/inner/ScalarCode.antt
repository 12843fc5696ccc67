-- Encodings of scalars and combinations, with which proofs decide equality.
use Rattle.std.specs.Prelude.{◌≡◌, ◌⊎◌, ℕ, ℤ, List, Bool, Option, Some, None, refl}
use Rattle.std.proofs.Common.{inl, inr}
use Rattle.std.specs.Coded.{Coded, code_by, coded_ℕ, coded_ℤ, coded_bool, coded_list, coded×, coded⊎, coded_option}
use Rattle.wf_value.specs.declared.scalar.Scalar.{Scalar}
use Rattle.wf_value.specs.declared.scalar.Scalar.TheVariants.{Null, Truth, Whole, Text}

-- the value that a scalar holds; None for null
abbrev pub Held : Type 0
Held = Option (Bool ⊎ (ℤ ⊎ List ℕ))

abbrev pub held_by : Scalar → Held
held_by Null = None
held_by (Truth b) = Some (inl b)
held_by (Whole n) = Some (inr (inl n))
held_by (Text t) = Some (inr (inr t))

abbrev pub scalar_of : Held → Scalar
scalar_of None = Null
scalar_of (Some (inl b)) = Truth b
scalar_of (Some (inr (inl n))) = Whole n
scalar_of (Some (inr (inr t))) = Text t

pub scalar_of-held_by : (s : Scalar) → scalar_of (held_by s) ≡ s
scalar_of-held_by Null = refl
scalar_of-held_by (Truth b) = refl
scalar_of-held_by (Whole n) = refl
scalar_of-held_by (Text t) = refl

abbrev pub coded_scalar : Coded Scalar
coded_scalar = code_by Held (coded_option (coded⊎ coded_bool (coded⊎ coded_ℤ (coded_list coded_ℕ)))) held_by scalar_of scalar_of-held_by

abbrev pub coded_pairs : Coded (List (List ℕ × Scalar))
coded_pairs = coded_list (coded× (coded_list coded_ℕ) coded_scalar)
