-- A label of a runner is neither empty nor longer than 64 bytes: so the empty text may stand for each that is longer.
use Rattle.std.specs.Prelude.{◌≡◌, ℕ, zero, suc, ◌+◌, ◌<◌, ◌≤◌, ◌&&◌, ◌||◌, List, [], ◌∷◌, ◌++◌, length, map, nat_le, Bool, true, false}
use Rattle.std.specs.Prelude.{if◌then◌else◌, refl}
use Rattle.std.specs.Char.{to_ascii_lowercase}
use Rattle.std.specs.Cmp.Lexicographic.{bytes_decides}
use Rattle.std.specs.List.{list_all, list_any}
use Rattle.std.specs.Str.{str_eq_ignore_ascii_case, str_to_ascii_lowercase}
use Rattle.std.proofs.Common.{arith, ap, get_or, sym, take, ◌∙◌}
use Rattle.std.proofs.lemmas.Bool.{and_parts}
use Rattle.std.proofs.lemmas.Bool.Decides.{nat_tests}
use Rattle.std.proofs.lemmas.Grind.{take_at_read}
use Rattle.std.proofs.lemmas.List.{get_or-map, length-map, take_all}
use Rattle.std.proofs.lemmas.List.Folds.{list_all-append, list_any-append}
use Rattle.definitions.specs.SmallText.{is_of_short_length, is_short}
use Rattle.table_bindings.specs.KnownLabels.{AreAlike, short_text}

-- ---- one label

same_length : (a b : List ℕ) → str_eq_ignore_ascii_case a b ≡ true → length a ≡ length b
same_length a b is =
    sym (length-map a to_ascii_lowercase)
    ∙ ap length ((bytes_decides (str_to_ascii_lowercase a) (str_to_ascii_lowercase b)).0 is)
    ∙ length-map b to_ascii_lowercase

other_length : (a b : List ℕ) → (length a ≡ length b → ⊥) → str_eq_ignore_ascii_case a b ≡ false
other_length a b other = by (str_eq_ignore_ascii_case a b) refl
  where
    by : (t : Bool) → str_eq_ignore_ascii_case a b ≡ t → t ≡ false
    by true is = absurd (other (same_length a b is))
    by false is = refl

record IsShort (label : List ℕ) : Type 0 where
  some : 1 ≤ length label
  few : length label ≤ 64

its_length : (kind : ℕ → Bool) (label : List ℕ) → is_short kind label ≡ true → IsShort label
its_length kind label is =
    let both = and_parts (is_of_short_length label) (list_all kind label) is in
    let two = and_parts (nat_le 1 (length label)) (nat_le (length label) 64) both.0 in
    let first = two.0 in
    let second = two.1 in
    record { some = grind (arith, nat_tests); few = grind (arith, nat_tests) }

by_short : (label : List ℕ) → IsShort label → (text : List ℕ)
    → str_eq_ignore_ascii_case label (short_text text) ≡ str_eq_ignore_ascii_case label text
by_short label short text = by (nat_le (length text) 64) refl
  where
    by : (b : Bool) → nat_le (length text) 64 ≡ b
        → str_eq_ignore_ascii_case label (if b then text else []) ≡ str_eq_ignore_ascii_case label text
    by true is = refl
    by false is =
        let long : 64 < length text = grind (arith, nat_tests) in
        let some = short.some in
        let few = short.few in
        other_length label [] (λ e. omega (arith, e, some)) ∙ sym (other_length label text (λ e. omega (arith, e, few, long)))

-- the label is both texts or neither
pub is_either : (kind : ℕ → Bool) (label whole wanted : List ℕ) → is_short kind label ≡ true → short_text whole ≡ short_text wanted
    → str_eq_ignore_ascii_case label wanted ≡ str_eq_ignore_ascii_case label whole
is_either kind label whole wanted form same =
    let short = its_length kind label form in
    sym (by_short label short wanted) ∙ ap (str_eq_ignore_ascii_case label) (sym same) ∙ by_short label short whole

-- ---- what holds of some or of all of a list, as far as it has been looked at

module _ {X : Type 0} (test : X → Bool) where
  pub none_more : (xs : List X) (i : ℕ) (x : X) → i < length xs → x ≡ get_or xs i x → list_any test (take i xs) ≡ false → test x ≡ false
      → list_any test (take (i + 1) xs) ≡ false
  none_more xs i x within at none here =
      ap (list_any test) ((take_at_read xs i x within).1 ∙ ap (λ y. take i xs ++ y ∷ []) (sym at))
      ∙ list_any-append test (take i xs) (x ∷ [])
      ∙ ap (λ b. b || (test x || false)) none
      ∙ ap (λ b. b || false) here

  or_true : (b : Bool) → b || true ≡ true
  or_true true = refl
  or_true false = refl

  pub one_has : (xs : List X) (i : ℕ) (x : X) → i < length xs → x ≡ get_or xs i x → test x ≡ true → list_any test xs ≡ true
  one_has [] i x within at here = absurd (omega (arith, within))
  one_has (y ∷ ys) zero x within at here = ap (λ b. b || list_any test ys) (ap test (sym at) ∙ here)
  one_has (y ∷ ys) (suc i) x within at here = ap (λ b. test y || b) (one_has ys i x (omega (arith, within)) at here) ∙ or_true (test y)

  pub none_has : (xs : List X) (i : ℕ) → length xs ≤ i → list_any test (take i xs) ≡ false → list_any test xs ≡ false
  none_has xs i ended none = ap (list_any test) (sym (take_all i xs ended)) ∙ none

  all_more : (xs : List X) (i : ℕ) (d : X) → i < length xs → list_all test (take i xs) ≡ true → test (get_or xs i d) ≡ true
      → list_all test (take (i + 1) xs) ≡ true
  all_more xs i d within all here =
      ap (list_all test) (take_at_read xs i d within).1
      ∙ list_all-append test (take i xs) (get_or xs i d ∷ [])
      ∙ ap (λ b. b && (test (get_or xs i d) && true)) all
      ∙ ap (λ b. b && true) here

  and_false : (b : Bool) → b && false ≡ false
  and_false true = refl
  and_false false = refl

  one_fails : (xs : List X) (i : ℕ) (d : X) → i < length xs → test (get_or xs i d) ≡ false → list_all test xs ≡ false
  one_fails [] i d within here = absurd (omega (arith, within))
  one_fails (y ∷ ys) zero d within here = ap (λ b. b && list_all test ys) here
  one_fails (y ∷ ys) (suc i) d within here = ap (λ b. test y && b) (one_fails ys i d (omega (arith, within)) here) ∙ and_false (test y)

-- ---- lists of texts

pub as_many : (whole wanted : List (List ℕ)) → AreAlike whole wanted → length whole ≡ length wanted
as_many whole wanted alike = sym (length-map whole short_text) ∙ ap length alike ∙ length-map wanted short_text

module _ (test : List ℕ → Bool) (whole wanted : List (List ℕ)) (alike : AreAlike whole wanted) (i : ℕ) where
  alike_at : (text : List ℕ) → i < length wanted → text ≡ get_or wanted i text → short_text (get_or whole i []) ≡ short_text text
  alike_at text within at =
      sym (get_or-map short_text whole i [] [] (omega (arith, within, as_many whole wanted alike)))
      ∙ ap (λ xs. get_or xs i []) alike
      ∙ get_or-map short_text wanted i text [] within
      ∙ ap short_text (sym at)

  pub one_more_passes : (text : List ℕ) (b : Bool) → i < length wanted → text ≡ get_or wanted i text
      → ((w : List ℕ) → short_text w ≡ short_text text → b ≡ test w) → b ≡ true → list_all test (take i whole) ≡ true
      → list_all test (take (i + 1) whole) ≡ true
  one_more_passes text b within at tests passes all =
      all_more test whole i [] (omega (arith, within, as_many whole wanted alike)) all
      (sym (tests (get_or whole i []) (alike_at text within at)) ∙ passes)

  pub one_does_not_pass : (text : List ℕ) (b : Bool) → i < length wanted → text ≡ get_or wanted i text
      → ((w : List ℕ) → short_text w ≡ short_text text → b ≡ test w) → b ≡ false → list_all test whole ≡ false
  one_does_not_pass text b within at tests fails =
      one_fails test whole i [] (omega (arith, within, as_many whole wanted alike))
      (sym (tests (get_or whole i []) (alike_at text within at)) ∙ fails)

  pub all_pass : length wanted ≤ i → list_all test (take i whole) ≡ true → list_all test whole ≡ true
  all_pass ended all = ap (list_all test) (sym (take_all i whole (omega (arith, ended, as_many whole wanted alike)))) ∙ all

-- what is short already stays
twice_short : (text : List ℕ) → short_text (short_text text) ≡ short_text text
twice_short text = by (nat_le (length text) 64) refl
  where
    by : (b : Bool) → nat_le (length text) 64 ≡ b → short_text (if b then text else []) ≡ (if b then text else [])
    by true is = ap (λ b. if b then text else []) is
    by false is = refl

all_twice_short : (texts : List (List ℕ)) → map short_text (map short_text texts) ≡ map short_text texts
all_twice_short [] = refl
all_twice_short (text ∷ texts) =
    ap (λ t. t ∷ map short_text (map short_text texts)) (twice_short text) ∙ ap (λ ts. short_text text ∷ ts) (all_twice_short texts)

pub alike_if_kept : (whole texts : List (List ℕ)) → texts ≡ map short_text whole → AreAlike whole texts
alike_if_kept whole texts is = sym (all_twice_short whole) ∙ ap (map short_text) (sym is)
