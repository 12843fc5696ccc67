-- Bytes that encode a value with nothing after it, from what they begin with.
use Rattle.std.proofs.Common.{◌≡◌, ℕ, ◌<◌, ◌≤◌, List, [], ◌∷◌, ◌++◌, length, refl, sym, ◌∙◌, ap, arith}
use Rattle.std.specs.Prelude.{None}
use Rattle.std.proofs.lemmas.List.{append-nil}
use Rattle.definitions.specs.Format.{Format, NoneBeginsAnother, OpensWith, Encodes, ReadsPrefix}

no_element : (l : List ℕ) → length l ≤ 0 → l ≡ []
no_element [] none = refl
no_element (x ∷ l) none = absurd (omega (arith, none))

nothing_after : (a rest : List ℕ) → a ++ rest ≡ a → rest ≡ []
nothing_after [] rest same = same
nothing_after (x ∷ a) rest same = nothing_after a rest (cc same)

-- an encoding with nothing after it is the whole of the bytes
pub whole : {A : Type 0} (format : Format A) (bytes rest : List ℕ) (x : A) → OpensWith format bytes x rest → length rest ≤ 0
    → Encodes format bytes x
whole format bytes rest x opens none =
    let empty : rest ≡ [] = no_element rest none in
    (opens.0, opens.1 ∙ ap (λ (l : List ℕ). format.encoding x ++ l) empty ∙ append-nil (format.encoding x))

-- bytes that begin with no encoding encode nothing
pub none_whole : {A : Type 0} (format : Format A) (bytes : List ℕ) → ReadsPrefix format bytes None → (x : A) → Encodes format bytes x → ⊥
none_whole format bytes none x encodes = none x [] (encodes.0, encodes.1 ∙ sym (append-nil (format.encoding x)))

module _ {A : Type 0} (format : Format A) (begins_none : NoneBeginsAnother format) where
  nothing_left : (bytes rest : List ℕ) (found x : A) → OpensWith format bytes found rest → Encodes format bytes x → rest ≡ []
  nothing_left bytes rest found x opens encodes =
      let same : format.encoding x ++ [] ≡ format.encoding found ++ rest = append-nil (format.encoding x) ∙ sym encodes.1 ∙ opens.1 in
      let one = begins_none (format.encoding x) (format.encoding found) [] rest x found (encodes.0, refl) (opens.0, refl) same in
      nothing_after (format.encoding found) rest (sym opens.1 ∙ encodes.1 ∙ one.0)

  -- bytes with an encoding and more after it encode nothing
  pub none_longer : (bytes rest : List ℕ) (found : A) → OpensWith format bytes found rest → 0 < length rest → (x : A)
      → Encodes format bytes x → ⊥
  none_longer bytes rest found opens some x encodes =
      omega (arith, some, ap (λ (l : List ℕ). length l) (nothing_left bytes rest found x opens encodes))

  -- bytes encode at most one value
  pub one_value : (bytes : List ℕ) (x y : A) → Encodes format bytes x → Encodes format bytes y → x ≡ y
  one_value bytes x y first second = (begins_none bytes bytes [] [] x y first second refl).1
