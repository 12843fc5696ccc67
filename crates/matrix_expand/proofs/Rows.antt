-- The examples of the documentation, computed from the definitions.
use Rattle.std.specs.Prelude.{◌≡◌, ℕ, pos, List, [], ◌∷◌, length, Option, Some, None, Result, Ok, Err, codes, refl, map, true, false}
use Rattle.std.specs.List.{range_with_len, last_or}
use Rattle.wf_value.specs.ScalarValue.{NamedValues, MatrixLists}
use Rattle.wf_value.specs.declared.code.Code.TheVariants.{MatrixTooLarge, LegCount}
use Rattle.wf_value.specs.declared.refusal.Refusal.{Refusal}
use Rattle.wf_value.specs.declared.refusal.Refusal.TheVariants.{Numbered}
use Rattle.wf_value.specs.declared.scalar.Scalar.{Scalar}
use Rattle.wf_value.specs.declared.scalar.Scalar.TheVariants.{Null, Truth, Whole, Text}
use Rattle.matrix_expand.specs.Combinations.{Combination, combinations_or_refusal}

abbrev fruit : List ℕ
fruit = codes "fruit"

abbrev animal : List ℕ
animal = codes "animal"

abbrev color : List ℕ
color = codes "color"

abbrev shape : List ℕ
shape = codes "shape"

-- the matrix of fruits and animals with its five include objects
abbrev documented : MatrixLists
documented = record {
  variables = (animal, Text (codes "cat") ∷ Text (codes "dog") ∷ []) ∷ (fruit, Text (codes "apple") ∷ Text (codes "pear") ∷ []) ∷ [];
  include = ((color, Text (codes "green")) ∷ [])
      ∷ ((animal, Text (codes "cat")) ∷ (color, Text (codes "pink")) ∷ [])
      ∷ ((fruit, Text (codes "apple")) ∷ (shape, Text (codes "circle")) ∷ [])
      ∷ ((fruit, Text (codes "banana")) ∷ [])
      ∷ ((animal, Text (codes "cat")) ∷ (fruit, Text (codes "banana")) ∷ [])
      ∷ [];
  exclude = [];
}

row_documented : combinations_or_refusal documented ≡ Ok (
    ((animal, Text (codes "cat")) ∷ (color, Text (codes "pink")) ∷ (fruit, Text (codes "apple")) ∷ (shape, Text (codes "circle")) ∷ [])
    ∷ ((animal, Text (codes "cat")) ∷ (color, Text (codes "pink")) ∷ (fruit, Text (codes "pear")) ∷ [])
    ∷ ((animal, Text (codes "dog")) ∷ (color, Text (codes "green")) ∷ (fruit, Text (codes "apple")) ∷ (shape, Text (codes "circle")) ∷ [])
    ∷ ((animal, Text (codes "dog")) ∷ (color, Text (codes "green")) ∷ (fruit, Text (codes "pear")) ∷ [])
    ∷ ((fruit, Text (codes "banana")) ∷ [])
    ∷ ((animal, Text (codes "cat")) ∷ (fruit, Text (codes "banana")) ∷ [])
    ∷ [])
row_documented = refl

abbrev a_is : ℕ → Combination
a_is n = (codes "a", Whole (pos n)) ∷ []

row_include_alone : combinations_or_refusal (record { variables = []; include = a_is 1 ∷ a_is 2 ∷ []; exclude = [] }) ≡ Ok
    (a_is 1 ∷ a_is 2 ∷ [])
row_include_alone = refl

row_empty : combinations_or_refusal (record { variables = []; include = []; exclude = [] }) ≡ Err (Numbered LegCount)
row_empty = refl

abbrev sixteen : List Scalar
sixteen = map (λ n. Whole (pos n)) (range_with_len 0 16)

abbrev square : List Combination → List Combination → MatrixLists
square include exclude = record { variables = (codes "x", sixteen) ∷ (codes "y", sixteen) ∷ []; include = include; exclude = exclude }

abbrev x_is_16 : Combination
x_is_16 = (codes "x", Whole (pos 16)) ∷ []

abbrev origin : Combination
origin = (codes "x", Whole (pos 0)) ∷ (codes "y", Whole (pos 0)) ∷ []

-- the number of combinations and the last of them, or the refusal
abbrev count_and_last : Result (List Combination) Refusal → Result (ℕ × Option Combination) Refusal
count_and_last (Ok cs) = Ok (length cs, last_or None cs)
count_and_last (Err e) = Err e

row_square : count_and_last (combinations_or_refusal (square [] [])) ≡ Ok
    (256, Some ((codes "x", Whole (pos 15)) ∷ (codes "y", Whole (pos 15)) ∷ []))
row_square = refl

row_one_more : combinations_or_refusal (square (x_is_16 ∷ []) []) ≡ Err (Numbered LegCount)
row_one_more = refl

-- the limit of 256 applies after exclude
row_excluded : count_and_last (combinations_or_refusal (square (x_is_16 ∷ []) (origin ∷ []))) ≡ Ok (256, Some x_is_16)
row_excluded = refl

abbrev two_valued : List ℕ → List NamedValues
two_valued letters = map (λ letter. (letter ∷ [], Truth true ∷ Truth false ∷ [])) letters

row_too_large : combinations_or_refusal (record { variables = two_valued (codes "abcdefghijklmnopq"); include = []; exclude = [] }) ≡ Err
    (Numbered MatrixTooLarge)
row_too_large = refl

-- the exclude objects leave one combination
row_one_left : combinations_or_refusal (record {
  variables = two_valued (codes "abc");
  include = [];
  exclude = ((codes "a", Truth true) ∷ []) ∷ ((codes "b", Truth true) ∷ []) ∷ ((codes "c", Truth false) ∷ []) ∷ [];
}) ≡ Ok (((codes "a", Truth false) ∷ (codes "b", Truth false) ∷ (codes "c", Truth true) ∷ []) ∷ [])
row_one_left = refl

-- an exclude object with a member that is not a variable removes nothing
row_no_variable : combinations_or_refusal (record {
  variables = (codes "a", Null ∷ []) ∷ [];
  include = [];
  exclude = ((codes "a", Null) ∷ (codes "b", Null) ∷ []) ∷ [];
}) ≡ Ok (((codes "a", Null) ∷ []) ∷ [])
row_no_variable = refl

-- scalars of different kinds differ, even if their texts are equal
row_kinds : combinations_or_refusal (record {
  variables = (codes "a", Whole (pos 1) ∷ Text (codes "1") ∷ Truth true ∷ Null ∷ []) ∷ [];
  include = ((codes "a", Text (codes "1")) ∷ (codes "b", Null) ∷ []) ∷ [];
  exclude = ((codes "a", Text (codes "true")) ∷ []) ∷ ((codes "a", Text []) ∷ []) ∷ [];
}) ≡ Ok (((codes "a", Whole (pos 1)) ∷ []) ∷ ((codes "a", Text (codes "1")) ∷ (codes "b", Null) ∷ []) ∷ ((codes "a", Truth true) ∷ []) ∷
    ((codes "a", Null) ∷ []) ∷ [])
row_kinds = refl

-- equal values in a list are separate choices
row_twice : combinations_or_refusal
    (record { variables = (codes "n", Whole (pos 1) ∷ Whole (pos 1) ∷ []) ∷ []; include = []; exclude = [] })
    ≡ Ok (((codes "n", Whole (pos 1)) ∷ []) ∷ ((codes "n", Whole (pos 1)) ∷ []) ∷ [])
row_twice = refl
