-- The originals by number, as the code enumerates them.
use Rattle.std.specs.Prelude.{ℕ, zero, suc, ◌/◌, ◌%◌, ◌&&◌, not, nat_lt, is_none, Bool, List, [], ◌∷◌, map, length, Option, cond, Result}
use Rattle.std.specs.Prelude.{Ok, Err}
use Rattle.std.specs.List.{slice_index_or, filter, filter_map, list_any, list_all, range_with_len}
use Rattle.std.specs.Option.{option_map}
use Rattle.std.specs.Ordering.{nat_cmp}
use Rattle.std.specs.Cmp.Lexicographic.{slice_cmp}
use Rattle.std.specs.FinMap.{find}
use Rattle.definitions.specs.Limits.{max_legs}
use Rattle.wf_value.specs.ScalarValue.{NamedValues, MatrixLists, same_scalar}
use Rattle.wf_value.specs.declared.code.Code.TheVariants.{LegCount}
use Rattle.wf_value.specs.declared.refusal.Refusal.{Refusal}
use Rattle.wf_value.specs.declared.refusal.Refusal.TheVariants.{Numbered}
use Rattle.wf_value.specs.declared.scalar.Scalar.{Scalar}
use Rattle.wf_value.specs.declared.scalar.Scalar.TheVariants.{Null}
use Rattle.matrix_expand.specs.Combinations.{Combination, choice_count}
use Rattle.matrix_expand.specs.inner.Values.{ChoiceValue, AxisValue, WantedValue, PatternValue}

-- the value in the original with this number
abbrev pub chosen : ChoiceValue → ℕ → Scalar
chosen c number = slice_index_or c.0 (number / c.1 % length c.0) Null

-- the variables, each with the number of choices of the later variables
abbrev pub axes_of : List NamedValues → List AxisValue
axes_of [] = []
axes_of (v ∷ vs) = (v.0, (v.1, choice_count vs)) ∷ axes_of vs

-- the original with this number
abbrev pub original_at : List AxisValue → ℕ → Combination
original_at axes number = map (λ a. (a.0, chosen a.1 number)) axes

-- the choice of a name, if it is a variable
abbrev pub choice_of : List AxisValue → List ℕ → Option ChoiceValue
choice_of axes name = find (slice_cmp nat_cmp) name axes

abbrev pub wanted_of : List AxisValue → Combination → List WantedValue
wanted_of axes object = filter_map (λ pair. option_map (λ choice. (choice, pair.1)) (choice_of axes pair.0)) object

abbrev pub has_other : List AxisValue → Combination → Bool
has_other axes object = list_any (λ pair. is_none (choice_of axes pair.0)) object

abbrev pub pattern_of : List AxisValue → Combination → PatternValue
pattern_of axes object = (object, (wanted_of axes object, has_other axes object))

abbrev pub wanted_holds : ℕ → WantedValue → Bool
wanted_holds number w = same_scalar (chosen w.0 number) w.1

abbrev pub pattern_agrees : ℕ → PatternValue → Bool
pattern_agrees number p = list_all (wanted_holds number) p.1.0

abbrev pub pattern_removes : ℕ → PatternValue → Bool
pattern_removes number p = not p.1.1 && list_all (wanted_holds number) p.1.0

-- the numbers of the originals that no exclude object removes
abbrev pub kept_from : List PatternValue → ℕ → ℕ → List ℕ
kept_from excludes first count = filter (λ number. not (list_any (pattern_removes number) excludes)) (range_with_len first count)

abbrev pub kept_numbers : List PatternValue → ℕ → List ℕ
kept_numbers excludes count = kept_from excludes 0 count

-- the numbers, if there are at most `max_legs`
abbrev pub kept_or_refusal : List ℕ → Result (List ℕ) Refusal
kept_or_refusal numbers = cond (nat_lt max_legs (length numbers)) (Err (Numbered LegCount)) (Ok numbers)

-- the objects that agree with none of the originals
abbrev pub new_objects : List PatternValue → List ℕ → List Combination
new_objects [] kept = []
new_objects (p ∷ ps) kept = cond (list_any (λ number. pattern_agrees number p) kept) (new_objects ps kept) (p.0 ∷ new_objects ps kept)

-- the number of originals
abbrev pub original_count : List NamedValues → ℕ
original_count [] = 0
original_count (v ∷ vs) = choice_count (v ∷ vs)

-- the numbered variables; none without originals
abbrev pub axes_where : ℕ → List NamedValues → List AxisValue
axes_where zero variables = []
axes_where (suc n) variables = axes_of variables

abbrev pub numbered_axes : List NamedValues → List AxisValue
numbered_axes variables = axes_where (original_count variables) variables

-- the numbers of a matrix's kept originals
abbrev pub kept_of : MatrixLists → List ℕ
kept_of m = kept_numbers (map (pattern_of (numbered_axes m.variables)) m.exclude) (original_count m.variables)

-- the new combinations of a matrix
abbrev pub added_of : MatrixLists → List Combination
added_of m = new_objects (map (pattern_of (numbered_axes m.variables)) m.include) (kept_of m)
