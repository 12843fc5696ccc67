-- The value of a text of one to nine digits.
use Rattle.std.specs.Prelude.{◌≡◌, ℕ, ◌<◌, ◌≤◌, ◌+◌, ◌-◌, ◌*◌, ◌^◌, ◌&&◌, ◌==◌, List, [], ◌∷◌, length, take, true, not, nat_le, slice_index}
use Rattle.std.specs.List.{list_all}
use Rattle.std.specs.Char.{is_ascii_digit, digit_value}
use Rattle.std.specs.Str.Parse.{AllDigits, digits_value}
use Rattle.std.proofs.Common.{arith, get_or}
use Rattle.std.proofs.Math.Nat.{pow-le-pow_right}
use Rattle.std.proofs.lemmas.Bool.{and_parts}
use Rattle.std.proofs.lemmas.Grind.{common_steps}
use Rattle.std.specs.Int.{IsInRange}
use Rattle.std.proofs.lemmas.Int.Digits.{digits_value-lt, digits_value_more}
use Rattle.std.proofs.lemmas.Str.Parse.{digit_at, digits_value-take-le}
use Rattle.std.proofs.lemmas.Str.{digit_value_digit}
use Rattle.definitions.specs.Limits.{last_number}
use Rattle.definitions.specs.SmallText.{is_decimal, is_number}

digit_small : (b : ℕ) → is_ascii_digit b ≡ true → digit_value b < 10
digit_small b h = grind (arith, common_steps)

pub digits_of_test : (bs : List ℕ) → list_all is_ascii_digit bs ≡ true → AllDigits 10 bs
digits_of_test [] h = tt
digits_of_test (b ∷ bs) h =
    let both = and_parts (is_ascii_digit b) (list_all is_ascii_digit bs) h in
    (digit_small b both.0, digits_of_test bs both.1)

pub record NineDigits (bs : List ℕ) : Type 0 where
  pub all : list_all is_ascii_digit bs ≡ true
  pub some : 1 ≤ length bs
  pub few : length bs ≤ 9

pub nine_digits : (bs : List ℕ) → is_decimal bs ≡ true → NineDigits bs
nine_digits bs h =
    let parts = and_parts (nat_le 1 (length bs) && nat_le (length bs) 9) (list_all is_ascii_digit bs) h in
    let lengths = and_parts (nat_le 1 (length bs)) (nat_le (length bs) 9) parts.0 in
    let few : length bs ≤ 9 = grind (arith, common_steps) in
    let some : 1 ≤ length bs = grind (arith, common_steps) in
    record { all = parts.1; some = some; few = few }

pub decimal_most : (bs : List ℕ) → is_decimal bs ≡ true → digits_value 10 bs ≤ last_number
decimal_most bs h =
    let nine = nine_digits bs h in
    let below : digits_value 10 bs < 10 ^ length bs = digits_value-lt 10 bs (digits_of_test bs nine.all) in
    let ten : 0 < 10 = omega arith in
    let most : 10 ^ length bs ≤ 10 ^ 9 = pow-le-pow_right ten nine.few in
    omega arith

pub number_least : (bs : List ℕ) → is_number bs ≡ true → 1 ≤ digits_value 10 bs
number_least bs h =
    let both = and_parts (is_decimal bs) (not (slice_index bs 0 == 48)) h in
    let nine = nine_digits bs both.0 in
    let no_zero = both.1 in
    let all = digits_of_test bs nine.all in
    let within : 0 < length bs = omega (arith, nine.some) in
    let range : IsInRange 48 57 (get_or bs 0 0) = digit_at bs 0 all within in
    let first : digits_value 10 (take (0 + 1) bs) ≡ digits_value 10 (take 0 bs) * 10 + digit_value (get_or bs 0 0) =
    digits_value_more 10 bs 0 within in
    let weight : digit_value (get_or bs 0 0) + 48 ≡ get_or bs 0 0 = digit_value_digit (get_or bs 0 0) range in
    let above : 49 ≤ get_or bs 0 0 = grind (arith, common_steps) in
    let one : 1 ≤ 10 = omega arith in
    let below : digits_value 10 (take (0 + 1) bs) ≤ digits_value 10 bs = digits_value-take-le 10 bs (0 + 1) one in
    omega arith

-- one more digit changes the value of the digits so far like this
pub record OneDigitMore (bs : List ℕ) (i : ℕ) : Type 0 where
  pub digit : 48 ≤ get_or bs i 0
  pub last : get_or bs i 0 ≤ 57
  pub value : digits_value 10 (take (i + 1) bs) ≡ digits_value 10 (take i bs) * 10 + (get_or bs i 0 - 48)
  pub most : digits_value 10 (take (i + 1) bs) ≤ last_number

pub one_digit_more : (bs : List ℕ) (i : ℕ) → is_decimal bs ≡ true → i < length bs → OneDigitMore bs i
one_digit_more bs i h lt =
    let all = digits_of_test bs (nine_digits bs h).all in
    let range : IsInRange 48 57 (get_or bs i 0) = digit_at bs i all lt in
    let more = digits_value_more 10 bs i lt in
    let weight : digit_value (get_or bs i 0) + 48 ≡ get_or bs i 0 = digit_value_digit (get_or bs i 0) range in
    let one : 1 ≤ 10 = omega arith in
    let below : digits_value 10 (take (i + 1) bs) ≤ digits_value 10 bs = digits_value-take-le 10 bs (i + 1) one in
    record { digit = range.0; last = range.1; value = omega arith; most = omega (arith, decimal_most bs h) }
