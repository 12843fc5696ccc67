-- The pairs of the include objects in the order of their names, which the code scans once per original.
use Rattle.std.specs.Prelude.{◌≡◌, ℕ, ◌+◌, ◌&&◌, not, Bool, true, false, List, [], ◌∷◌, ◌++◌, map, length, Option, Some, None, cond, IsTrue}
use Rattle.std.specs.List.{slice_index_or, filter, list_all}
use Rattle.std.specs.Option.{option_or}
use Rattle.std.specs.Ordering.{nat_cmp, is_lt, is_gt}
use Rattle.std.specs.Cmp.Lexicographic.{slice_cmp}
use Rattle.std.specs.Str.{bytes_eq}
use Rattle.wf_value.specs.declared.scalar.Scalar.{Scalar}
use Rattle.matrix_expand.specs.Combinations.{Combination, value_at}
use Rattle.matrix_expand.specs.inner.Numbered.{original_at, pattern_agrees}
use Rattle.matrix_expand.specs.inner.Values.{AxisValue, PatternValue, EntryValue}

-- the pairs of an object, each with the object's index
abbrev pub object_entries : ℕ → Combination → List EntryValue
object_entries index object = map (λ pair. (index, pair)) object

abbrev pub comes_before : EntryValue → EntryValue → Bool
comes_before e f = is_lt (slice_cmp nat_cmp e.1.0 f.1.0)

-- inserts an entry into entries and applies rest to the entries after it
abbrev pub placed : EntryValue → (List EntryValue → List EntryValue) → List EntryValue → List EntryValue
placed e rest [] = e ∷ rest []
placed e rest (f ∷ fs) = cond (comes_before e f) (e ∷ rest (f ∷ fs)) (f ∷ placed e rest fs)

-- merges entries by name; of two with the same name, the one from the right comes first
abbrev pub merged : List EntryValue → List EntryValue → List EntryValue
merged [] right = right
merged (e ∷ es) right = placed e (merged es) right

-- the name is not greater than any name of the pairs
abbrev pub is_least : {X : Type 0} → List ℕ → List (List ℕ × X) → Bool
is_least name pairs = list_all (λ p. not (is_gt (slice_cmp nat_cmp name p.0))) pairs

-- no name is greater than a later one
abbrev pub names_ascend : {X : Type 0} → List (List ℕ × X) → Bool
names_ascend [] = true
names_ascend (p ∷ ps) = is_least p.0 ps && names_ascend ps

abbrev pub pairs_of : List EntryValue → Combination
pairs_of entries = map (λ e. e.1) entries

-- the pairs of the flagged objects
abbrev pub flagged : List Bool → List EntryValue → Combination
flagged flags entries = pairs_of (filter (λ e. slice_index_or flags e.0 false) entries)

-- the value of a name in the last flagged object that has it; the first object has the index place
abbrev pub added_value : List Bool → ℕ → List Combination → List ℕ → Option Scalar
added_value flags index [] name = None
added_value flags index (c ∷ cs) name = option_or (added_value flags (index + 1) cs name)
    (cond (slice_index_or flags index false) (value_at c name) None)

-- the entries are those of the objects, in the order of their names, those of later objects first
pub record SortsEntries (first : ℕ) (objects : List Combination) (entries : List EntryValue) : Type 0 where
  pub in_order : IsTrue (names_ascend (pairs_of entries))
  pub values : (flags : List Bool) (name : List ℕ) → value_at (flagged flags entries) name ≡ added_value flags first objects name

abbrev pub is_last : Option (List ℕ) → List ℕ → Bool
is_last None name = false
is_last (Some last) name = bytes_eq last name

-- the first pair of each name other than last; pairs with the same name are adjacent
abbrev pub firsts_after : Option (List ℕ) → Combination → Combination
firsts_after last [] = []
firsts_after last (p ∷ ps) = cond (is_last last p.0) (firsts_after last ps) (p ∷ firsts_after (Some p.0) ps)

-- whether each object agrees with the original with this number, and a set flag for the original
abbrev pub flags_of : List PatternValue → ℕ → List Bool
flags_of patterns number = map (pattern_agrees number) patterns ++ true ∷ []

-- the final combination of the original with this number
abbrev pub final_from : List AxisValue → List PatternValue → List EntryValue → ℕ → Combination
final_from axes patterns entries number = firsts_after None
    (flagged (flags_of patterns number) (merged entries (object_entries (length patterns) (original_at axes number))))
