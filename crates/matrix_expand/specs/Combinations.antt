-- The combinations of a matrix. GitHub Docs, "Running variations of jobs in a workflow".
use Rattle.std.specs.Prelude.{ℕ, ◌*◌, nat_lt, ◌||◌, not, Bool, true, false, List, [], ◌∷◌, ◌++◌, map, length, Option, Some, None}
use Rattle.std.specs.Prelude.{Result, Ok, Err, cond}
use Rattle.std.specs.List.{filter, flat_map, filter_map, list_any, list_all}
use Rattle.std.specs.Option.{option_map, option_or}
use Rattle.std.specs.Ordering.{nat_cmp}
use Rattle.std.specs.Cmp.Lexicographic.{slice_cmp}
use Rattle.std.specs.Str.{bytes_eq}
use Rattle.std.specs.FinMap.{find}
use Rattle.std.specs.FinMap.Entries.{by_order}
use Rattle.definitions.specs.Limits.{max_choices, max_legs}
use Rattle.wf_value.specs.ScalarValue.{NamedValues, MatrixLists, same_scalar}
use Rattle.wf_value.specs.declared.code.Code.TheVariants.{MatrixTooLarge, LegCount}
use Rattle.wf_value.specs.declared.refusal.Refusal.{Refusal}
use Rattle.wf_value.specs.declared.refusal.Refusal.TheVariants.{Numbered}
use Rattle.wf_value.specs.declared.scalar.Scalar.{Scalar}

-- a value for each of several names
abbrev pub Combination : Type 0
Combination = List (List ℕ × Scalar)

-- the value of a name, if any
abbrev pub value_at : Combination → List ℕ → Option Scalar
value_at c name = find (slice_cmp nat_cmp) name c

abbrev pub is_value : Option Scalar → Scalar → Bool
is_value None value = false
is_value (Some v) value = same_scalar v value

-- whether a combination has this pair of a name and a value
abbrev pub has_pair : Combination → List ℕ × Scalar → Bool
has_pair c pair = is_value (value_at c pair.0) pair.1

-- the choices of one value per variable; the first variable changes slowest
abbrev pub choices : List NamedValues → List Combination
choices [] = [] ∷ []
choices (v ∷ vs) = flat_map (λ value. map (λ c. (v.0, value) ∷ c) (choices vs)) v.1

-- the number of choices: the product of the lengths of the lists
abbrev pub choice_count : List NamedValues → ℕ
choice_count [] = 1
choice_count (v ∷ vs) = length v.1 * choice_count vs

-- all choices, but none without variables
abbrev pub originals : List NamedValues → List Combination
originals [] = []
originals (v ∷ vs) = choices (v ∷ vs)

-- an exclude object removes an original that has all its pairs
abbrev pub removes : Combination → Combination → Bool
removes object original = list_all (has_pair original) object

-- the originals that no exclude object removes
abbrev pub kept : MatrixLists → List Combination
kept m = filter (λ original. not (list_any (λ object. removes object original) m.exclude)) (originals m.variables)

abbrev pub is_variable : MatrixLists → List ℕ → Bool
is_variable m name = list_any (λ v. bytes_eq name v.0) m.variables

-- an include object agrees with an original if the original has the same value for each of the object's members that is a variable
abbrev pub agrees : MatrixLists → Combination → Combination → Bool
agrees m original object = list_all (λ pair. not (is_variable m pair.0) || has_pair original pair) object

-- the value of a name in the last object that has it
abbrev pub last_value : List Combination → List ℕ → Option Scalar
last_value [] name = None
last_value (c ∷ cs) name = option_or (last_value cs name) (value_at c name)

-- the value of a name in a final combination: the original's, else that of the last include object that agrees with the original
abbrev pub final_value : MatrixLists → Combination → List ℕ → Option Scalar
final_value m original name = option_or (value_at original name) (last_value (filter (agrees m original) m.include) name)

-- the names of several combinations
abbrev pub names_of : List Combination → List (List ℕ)
names_of cs = flat_map (λ c. map (λ pair. pair.0) c) cs

-- inserts a name into sorted names, unless it is there
abbrev pub with_name : List ℕ → List (List ℕ) → List (List ℕ)
with_name name [] = name ∷ []
with_name name (n ∷ ns) = by_order (slice_cmp nat_cmp name n) (name ∷ n ∷ ns) (n ∷ ns) (n ∷ with_name name ns)

-- sorts names in byte order, without repetitions
abbrev pub in_order : List (List ℕ) → List (List ℕ)
in_order [] = []
in_order (n ∷ ns) = with_name n (in_order ns)

-- the names of an original and of the include objects, sorted
abbrev pub all_names : MatrixLists → Combination → List (List ℕ)
all_names m original = in_order (names_of (original ∷ m.include))

-- an original extended by the include objects: each name that has a value, with that value
abbrev pub final_combination : MatrixLists → Combination → Combination
final_combination m original = filter_map (λ name. option_map (λ value. (name, value)) (final_value m original name)) (all_names m original)

-- the include objects that agree with no kept original
abbrev pub new_combinations : MatrixLists → List Combination
new_combinations m = filter (λ object. not (list_any (λ original. agrees m original object) (kept m))) m.include

-- the combinations of the documentation: the final ones in order, then the new ones
abbrev pub combinations : MatrixLists → List Combination
combinations m = map (final_combination m) (kept m) ++ new_combinations m

-- the combinations, if there are 1 to `max_legs`
abbrev pub legs_or_refusal : List Combination → Result (List Combination) Refusal
legs_or_refusal [] = Err (Numbered LegCount)
legs_or_refusal (c ∷ cs) = cond (nat_lt max_legs (length (c ∷ cs))) (Err (Numbered LegCount)) (Ok (c ∷ cs))

-- the combinations, if there are at most 4,096 choices
abbrev pub within_choices : Bool → MatrixLists → Result (List Combination) Refusal
within_choices true m = Err (Numbered MatrixTooLarge)
within_choices false m = legs_or_refusal (combinations m)

-- the combinations, or 21 for more than `max_choices` choices, else 22 for no combination or more than `max_legs`
abbrev pub combinations_or_refusal : MatrixLists → Result (List Combination) Refusal
combinations_or_refusal m = within_choices (nat_lt max_choices (choice_count m.variables)) m
