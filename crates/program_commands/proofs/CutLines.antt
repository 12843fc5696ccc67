-- The first line of a text.
use Rattle.std.proofs.Common.{◌≡◌, ◌==◌, ◌∙◌, ℕ, ◌+◌, ◌<◌, ◌≤◌, List, [], ◌∷◌, length, take, drop, Bool, true, false, cond, Some, None}
use Rattle.std.proofs.Common.{refl, ap, arith}
use Rattle.std.proofs.Math.Dec.{ltb}
use Rattle.std.specs.List.{All, position, position_or_len, slice_split, before_first, after_first}
use Rattle.std.specs.Str.Lines.{lines, lines_of_parts, strip_carriage_return}
use Rattle.std.proofs.lemmas.Bool.Decides.{nat_tests}
use Rattle.std.proofs.lemmas.List.Quantifiers.{position-Some}
use Rattle.std.proofs.lemmas.List.Splits.{slice_split_none, slice_split_first, length-slice_split}
use Rattle.std.proofs.lemmas.List.Sums.{position_or_len_is, fails_before_first}

abbrev is_feed : ℕ → Bool
is_feed b = b == 10

before_more : (x : List ℕ) (parts : List (List ℕ)) → 0 < length parts
    → lines_of_parts (x ∷ parts) ≡ strip_carriage_return x ∷ lines_of_parts parts
before_more x [] l = absurd (omega arith)
before_more x (y ∷ more) l = refl

-- a line feed ends the first line
pub lines_at_feed : (w : List ℕ) (i : ℕ) → position is_feed w ≡ Some i → lines w ≡ strip_carriage_return (take i w) ∷ lines (drop (i + 1) w)
lines_at_feed w i e =
    let found = position-Some is_feed w i 0 e in
    let within : i < length w = found.0 in
    let same : position_or_len is_feed w ≡ i = position_or_len_is is_feed w i 0 (omega arith) found.2 (λ _. found.1) in
    let first : position_or_len is_feed w < length w = omega arith in
    ap lines_of_parts (slice_split_first is_feed w 0 first)
    ∙ before_more (before_first is_feed w) (slice_split is_feed (after_first is_feed w))
    (omega (arith, length-slice_split is_feed (after_first is_feed w)))
    ∙ ap (λ n. strip_carriage_return (take n w) ∷ lines (drop (n + 1) w)) same

not_found : (b : Bool) (i : ℕ) → cond b (Some i) None ≡ None → b ≡ false
not_found true i e = cc
not_found false i e = refl

last_line : (n : ℕ) (w : List ℕ) → 0 < n → cond (n == 0) [] (w ∷ []) ≡ w ∷ []
last_line n w h = grind (arith, nat_tests)

-- without a line feed the text is one line
pub lines_without_feed : (w : List ℕ) → 0 < length w → position is_feed w ≡ None → lines w ≡ w ∷ []
lines_without_feed w some e =
    let past : length w ≤ position_or_len is_feed w =
    let t : ltb (position_or_len is_feed w) (length w) ≡ false = not_found _ _ e in grind (arith, nat_tests) in
    let none : All (λ b. is_feed b ≡ false) w = λ k d l. fails_before_first is_feed w k d (omega arith) in
    ap lines_of_parts (slice_split_none is_feed w none) ∙ last_line (length w) w some
