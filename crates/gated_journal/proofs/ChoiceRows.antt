-- Which of two areas is active, by computation.
use Rattle.std.specs.Prelude.{◌≡◌, ℕ, List, [], ◌∷◌, Some, None, refl}
use Rattle.gated_journal.specs.Choice.{chosen}
use Rattle.gated_journal.specs.declared.side.Side.TheVariants.{First, Second}

-- an area with this gate, version 1, this generation and the empty text
abbrev area : ℕ → ℕ → List ℕ
area gate generation = gate ∷ 1 ∷ 0 ∷ 0 ∷ 0 ∷ 0 ∷ 0 ∷ 0 ∷ 0 ∷ generation ∷ 0 ∷ 0 ∷ 0 ∷ 0 ∷ 0 ∷ 0 ∷ 0 ∷ 0 ∷ 0 ∷ []

-- of two equal generations the first area wins
first_of_equal : chosen (area 0xA5 7) (area 0xA5 7) ≡ Some First
first_of_equal = refl

-- otherwise the greater generation wins
greater_first : chosen (area 0xA5 8) (area 0xA5 7) ≡ Some First
greater_first = refl

greater_second : chosen (area 0xA5 7) (area 0xA5 8) ≡ Some Second
greater_second = refl

-- an area with a closed gate never wins
closed_first : chosen (area 0 8) (area 0xA5 7) ≡ Some Second
closed_first = refl

both_closed : chosen (area 0 8) (area 0 7) ≡ None
both_closed = refl
