-- Only the text `true` sets a flag, since no integer prints as that text.
use Rattle.std.proofs.Common.{◌≡◌, ◌↔◌, ℕ, ◌%◌, ◌/◌, ◌==◌, ◌<◌, true, false, cond, List, [], ◌∷◌, refl, ap, subst}
use Rattle.std.proofs.Common.{arith, inl, inr, codes, zero, suc}
use Rattle.std.proofs.lemmas.Nat.{mod_below}
use Rattle.std.specs.Prelude.{pos, negsuc, ℤ}
use Rattle.std.specs.Fmt.{decimal, digit_glyph, digits, digits_onto, signed_decimal}
use Rattle.std.specs.List.{AllByRecursion}
use Rattle.wf_value.specs.ScalarValue.{scalar_text}
use Rattle.wf_value.specs.declared.scalar.Scalar.{Scalar}
use Rattle.wf_value.specs.declared.scalar.Scalar.TheVariants.{Null, Truth, Whole, Text}
use Rattle.wf_expr.specs.TemplateValue.{SetsFlag}

-- no byte is above that of `9`
abbrev AreLow : List ℕ → Type 0
AreLow = AllByRecursion (λ c. c < 58)

glyph-low : (d : ℕ) → d < 10 → digit_glyph false d < 58
glyph-low d h = grind arith

onto-low : (k n : ℕ) (acc : List ℕ) → AreLow acc → AreLow (digits_onto k 10 false n acc)
onto-low zero n acc low = low
onto-low (suc k) n acc low =
    let more : AreLow (digit_glyph false (n % 10) ∷ acc) = (glyph-low (n % 10) (mod_below n 10 (omega arith)), low) in
    let digit = digit_glyph false (n % 10) in
    elim (n / 10 == 0) as (λ b. AreLow (cond b (digit ∷ acc) (digits_onto k 10 false (n / 10) (digit ∷ acc)))) [
      | true ↦ more
      | false ↦ onto-low k (n / 10) (digit_glyph false (n % 10) ∷ acc) more
    ]

decimal-low : (n : ℕ) → AreLow (decimal n)
unfolding digits
decimal-low n = onto-low 64 n [] tt

whole-low : (n : ℤ) → AreLow (signed_decimal n)
whole-low (pos n) = decimal-low n
whole-low (negsuc n) = (omega arith, decimal-low _)

not-whole : (n : ℤ) → signed_decimal n ≡ codes "true" → ⊥
not-whole n e = let low = subst AreLow e (whole-low n) in omega (arith, low.0)

-- a value sets a flag if and only if its text is `true`
pub flag-text : (value : Scalar) → SetsFlag value ↔ (scalar_text value ≡ codes "true")
flag-text Null = (λ s. elim s [ inl e ↦ cc | inr e ↦ cc ], λ e. cc)
flag-text (Truth true) = (λ s. refl, λ e. inl refl)
flag-text (Truth false) = (λ s. elim s [ inl e ↦ cc | inr e ↦ cc ], λ e. cc)
flag-text (Whole n) = (λ s. elim s [ inl e ↦ cc | inr e ↦ cc ], λ e. absurd (not-whole n e))
flag-text (Text text) = (λ s. elim s [ inl e ↦ cc | inr e ↦ cc ], λ e. inr (ap Text e))
