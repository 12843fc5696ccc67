-- Names that rise, and the needs of a job.
use Rattle.std.specs.Prelude.{ℕ, List, Bool, true, ◌&&◌, [], ◌∷◌}
use Rattle.std.specs.Ordering.{nat_cmp, is_lt}
use Rattle.std.specs.Cmp.Lexicographic.{slice_cmp}

-- ---- the byte order of names.

-- whether the names strictly increase
abbrev pub rises_by : {X : Type 0} → (X → List ℕ) → List X → Bool
rises_by name [] = true
rises_by name (x ∷ []) = true
rises_by name (x ∷ y ∷ ys) = is_lt (slice_cmp nat_cmp (name x) (name y)) && rises_by name (y ∷ ys)

-- the same for pairs of a name and a value
abbrev pub names_rise : {X : Type 0} → List (List ℕ × X) → Bool
names_rise ps = rises_by (λ p. p.0) ps

-- ---- a job's id and the ids that it lists in `needs`.

pub record JobNeeds : Type 0 where
  pub id : List ℕ
  pub needs : List (List ℕ)
