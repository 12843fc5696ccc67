-- How contracts see the values that the expansion works with.
use Rattle.std.specs.Prelude.{ℕ, Bool, List}
use Rattle.std.specs.Coded.{Coded, coded_ℕ, coded_bool, coded_list, coded×}
use Rattle.wf_value.specs.declared.scalar.Scalar.{Scalar}
use Rattle.wf_value.specs.inner.ScalarCode.{coded_scalar, coded_pairs}

-- the values of a variable, and the number of consecutive originals that share each value
abbrev pub ChoiceValue : Type 0
ChoiceValue = List Scalar × ℕ

abbrev pub coded_choice : Coded ChoiceValue
coded_choice = coded× (coded_list coded_scalar) coded_ℕ

-- a variable's name and its choice
abbrev pub AxisValue : Type 0
AxisValue = List ℕ × ChoiceValue

abbrev pub coded_axis : Coded AxisValue
coded_axis = coded× (coded_list coded_ℕ) coded_choice

-- a choice, and the value that is required of it
abbrev pub WantedValue : Type 0
WantedValue = ChoiceValue × Scalar

abbrev pub coded_wanted : Coded WantedValue
coded_wanted = coded× coded_choice coded_scalar

-- an object, the values that it requires of an original, and whether it has a member that is not a variable
abbrev pub PatternValue : Type 0
PatternValue = List (List ℕ × Scalar) × (List WantedValue × Bool)

abbrev pub coded_pattern : Coded PatternValue
coded_pattern = coded× coded_pairs (coded× (coded_list coded_wanted) coded_bool)

-- a pair, and the index of its object
abbrev pub EntryValue : Type 0
EntryValue = ℕ × (List ℕ × Scalar)

abbrev pub coded_entry : Coded EntryValue
coded_entry = coded× coded_ℕ (coded× (coded_list coded_ℕ) coded_scalar)
