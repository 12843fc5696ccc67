-- The bits of a word, and of the part of it from an index on.
use Rattle.std.specs.Prelude.{◌≡◌, ℕ, ◌-◌, ◌*◌, ◌%◌, ◌^◌, ◌<◌, ◌≤◌, min, true, false, nat_eq, Some, None}
use Rattle.std.specs.Int.{bit_at, trailing_zeros, w64}
use Rattle.std.specs.Int.Bits.{bit_and}
use Rattle.std.proofs.Common.{arith, ap, sym, ◌∙◌, inl, inr}
use Rattle.std.proofs.lemmas.Bool.{cases_lt}
use Rattle.std.proofs.lemmas.Nat.{and_le_l}
use Rattle.std.proofs.lemmas.Nat.Bits.{bit_at-lt, bit_at-trailing_zeros, bit_at-zero, bit_at_above, bit_at_and, bit_at_mask_below, bit_at_mask_inside, ones_shl}
use Rattle.run_marks.specs.Bits.{word_has}
use Rattle.run_marks.specs.First.{IsFirstFrom}

pub has_if : (word i : ℕ) → bit_at word i ≡ 1 → word_has word i ≡ true
has_if word i e = ap (λ b. nat_eq b 1) e

pub has_not_if : (word i : ℕ) → bit_at word i ≡ 0 → word_has word i ≡ false
has_not_if word i e = ap (λ b. nat_eq b 1) e

pub same_if : (word other i : ℕ) → bit_at word i ≡ bit_at other i → word_has word i ≡ word_has other i
same_if word other i e = ap (λ b. nat_eq b 1) e

-- no bit from 64 on is set
pub none_above : (word i : ℕ) → word < 2 ^ 64 → 64 ≤ i → word_has word i ≡ false
none_above word i small le = has_not_if word i (bit_at_above word 64 i small le)

-- no bit of 0 is set
pub none_of_zero : (i : ℕ) → word_has 0 i ≡ false
none_of_zero i = has_not_if 0 i (bit_at-zero i)

-- the bits from an index on
abbrev rest : ℕ → ℕ → ℕ
rest word k = bit_and word (18446744073709551615 * 2 ^ k % 18446744073709551616)

rest_is : (word k : ℕ) → k < 64 → rest word k ≡ bit_and word (2 ^ 64 - 2 ^ k)
rest_is word k lt = ap (bit_and word) (ones_shl 64 k (omega arith))

in_rest : (word k i : ℕ) → k < 64 → k ≤ i → i < 64 → bit_at (rest word k) i ≡ bit_at word i
in_rest word k i lt from to =
    let small = bit_at-lt word i in
    ap (λ w. bit_at w i) (rest_is word k lt) ∙ bit_at_and word (2 ^ 64 - 2 ^ k) i
    ∙ ap (min (bit_at word i)) (bit_at_mask_inside k 64 i from to) ∙ omega (arith, small)

below_rest : (word k i : ℕ) → k < 64 → i < k → bit_at (rest word k) i ≡ 0
below_rest word k i lt below =
    ap (λ w. bit_at w i) (rest_is word k lt) ∙ bit_at_and word (2 ^ 64 - 2 ^ k) i
    ∙ ap (min (bit_at word i)) (bit_at_mask_below k 64 i below) ∙ omega arith

pub nothing_left : (word k : ℕ) → word < 2 ^ 64 → k < 64 → rest word k ≡ 0 → IsFirstFrom (word_has word) k None
nothing_left word k small lt none i from =
    elim (cases_lt i 64) [
      | inl to ↦ has_not_if word i (sym (in_rest word k i lt from to) ∙ ap (λ w. bit_at w i) none ∙ bit_at-zero i)
      | inr past ↦ none_above word i small past
    ]

not_below : (word k i : ℕ) → k < 64 → bit_at (rest word k) i ≡ 1 → k ≤ i
not_below word k i lt one =
    elim (cases_lt i k) [
      | inl below ↦ absurd (let bad : 1 ≡ 0 = sym one ∙ below_rest word k i lt below in cc)
      | inr le ↦ le
    ]

pub lowest_left : (word k : ℕ) → word < 2 ^ 64 → k < 64 → 0 < rest word k
    → IsFirstFrom (word_has word) k (Some (trailing_zeros w64 (rest word k)))
lowest_left word k small lt some =
    let le = and_le_l word (18446744073709551615 * 2 ^ k % 18446744073709551616) in
    let three = bit_at-trailing_zeros w64 (rest word k) some (omega (arith, le, small)) in
    let i = trailing_zeros w64 (rest word k) in
    let from = not_below word k i lt three.1 in (
      from,
      has_if word i (sym (in_rest word k i lt from three.0) ∙ three.1),
      λ j from_j before. has_not_if word j (sym (in_rest word k j lt from_j (omega (arith, three.0, before))) ∙ three.2 j before),
    )

pub lowest : (word : ℕ) → word < 2 ^ 64 → 0 < word → IsFirstFrom (word_has word) 0 (Some (trailing_zeros w64 word))
lowest word small some =
    let three = bit_at-trailing_zeros w64 word some small in
    (omega arith, has_if word (trailing_zeros w64 word) three.1, λ j from before. has_not_if word j (three.2 j before))

pub lowest_is_small : (word : ℕ) → word < 2 ^ 64 → 0 < word → trailing_zeros w64 word < 64
lowest_is_small word small some = (bit_at-trailing_zeros w64 word some small).0

pub least_left_is_small : (word k : ℕ) → word < 2 ^ 64 → k < 64 → 0 < rest word k → trailing_zeros w64 (rest word k) < 64
least_left_is_small word k small lt some =
    let le = and_le_l word (18446744073709551615 * 2 ^ k % 18446744073709551616) in
    (bit_at-trailing_zeros w64 (rest word k) some (omega (arith, le, small))).0
