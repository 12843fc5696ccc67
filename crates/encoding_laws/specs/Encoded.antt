-- A value that has an encoding, and no other one.
use Rattle.std.specs.Prelude.{◌≡◌, ℕ, List}
use Rattle.definitions.specs.Format.{Encodes, Format}

abbrev pub IsEncodedOnce : {A : Type 0} → Format A → A → Type 0
IsEncodedOnce format x = (bytes : List ℕ) × Encodes format bytes x × ((other : List ℕ) → Encodes format other x → other ≡ bytes)
