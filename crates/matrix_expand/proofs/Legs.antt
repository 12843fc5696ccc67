-- The combinations as the code counts and makes them.
use Rattle.std.proofs.Common.{◌≡◌, ℕ, zero, suc, ◌+◌, ◌<◌, ◌≤◌, true, cond, List, [], ◌∷◌, ◌++◌, map, length, Result, Ok, Err, refl}
use Rattle.std.proofs.Common.{sym, ap, ◌∙◌, inl, inr, arith, length-append}
use Rattle.std.specs.Ordering.{is_lt}
use Rattle.std.proofs.lemmas.Bool.{lt-ltb, le-ltb, cases_lt, and_parts, and_from}
use Rattle.std.proofs.lemmas.List.{length-map}
use Rattle.wf_value.specs.ScalarValue.{NamedValues, MatrixLists}
use Rattle.definitions.specs.Rising.{names_rise}
use Rattle.wf_value.specs.declared.code.Code.TheVariants.{LegCount}
use Rattle.wf_value.specs.declared.refusal.Refusal.{Refusal}
use Rattle.wf_value.specs.declared.refusal.Refusal.TheVariants.{Numbered}
use Rattle.matrix_expand.specs.Combinations.{Combination, kept, final_combination, combinations, legs_or_refusal}
use Rattle.matrix_expand.specs.inner.Entries.{SortsEntries, final_from}
use Rattle.matrix_expand.specs.inner.Numbered.{axes_of, axes_where, numbered_axes, original_at, original_count, pattern_of, kept_from}
use Rattle.matrix_expand.specs.inner.Numbered.{kept_of, added_of, new_objects, kept_or_refusal}
use Rattle.matrix_expand.specs.inner.Values.{AxisValue, PatternValue, EntryValue}
use Rattle.matrix_expand.proofs.Agreement.{kept_is, new_is}
use Rattle.matrix_expand.proofs.Finals.{final_is, mapped_twice}
use Rattle.wf_value.proofs.Rising.{name_cmp}
use Rattle.wf_value.proofs.PassedOn.{same_Ok}

pub legs_few : (cs : List Combination) → 0 < length cs → length cs ≤ 256 → legs_or_refusal cs ≡ Ok cs
legs_few [] h l = absurd (omega arith)
legs_few (c ∷ cs) h l = ap (λ b. cond b (Err (Numbered LegCount)) (Ok (c ∷ cs))) (le-ltb 256 (length (c ∷ cs)) l)

pub legs_many : (cs : List Combination) → 256 < length cs → legs_or_refusal cs ≡ Err (Numbered LegCount)
legs_many [] h = refl
legs_many (c ∷ cs) h = ap (λ b. cond b (Err (Numbered LegCount)) (Ok (c ∷ cs))) (lt-ltb 256 (length (c ∷ cs)) h)

pub legs_none : (cs : List Combination) → length cs ≡ 0 → legs_or_refusal cs ≡ Err (Numbered LegCount)
legs_none [] h = refl
legs_none (c ∷ cs) h = absurd (omega arith)

pub combinations_are : (m : MatrixLists) → combinations m ≡ map (final_combination m) (kept m) ++ added_of m
combinations_are m = ap (λ os. map (final_combination m) (kept m) ++ os) (new_is m)

pub length-combinations : (m : MatrixLists) → length (combinations m) ≡ length (kept_of m) + length (added_of m)
length-combinations m =
    ap length (combinations_are m)
    ∙ length-append (map (final_combination m) (kept m)) (added_of m)
    ∙ ap (λ n. n + length (added_of m)) (length-map (kept m) (final_combination m) ∙ ap length (kept_is m)
    ∙ length-map (kept_of m) (original_at (numbered_axes m.variables)))

-- if the counted combinations are 1 to 256, the call gives them
pub legs_counted : (m : MatrixLists) (kept added : ℕ) → kept ≡ length (kept_of m) → added ≡ length (added_of m)
    → (0 < kept + added) × (kept + added ≤ 256) → legs_or_refusal (combinations m) ≡ Ok (combinations m)
legs_counted m kept added p q h =
    let long = length-combinations m in
    legs_few (combinations m) (omega (arith, h.0)) (omega (arith, h.1))

pub legs_miscounted : (m : MatrixLists) (kept added : ℕ) → kept ≡ length (kept_of m) → added ≡ length (added_of m)
    → ¬ ((0 < kept + added) × (kept + added ≤ 256)) → legs_or_refusal (combinations m) ≡ Err (Numbered LegCount)
legs_miscounted m kept added p q h =
    let long = length-combinations m in
    elim (cases_lt 0 (kept + added)) [
      | inl some ↦ elim (cases_lt 256 (kept + added)) [
        | inl many ↦ legs_many (combinations m) (omega arith)
        | inr few ↦ absurd (h (some, few))
      ]
      | inr none ↦ legs_none (combinations m) (omega arith)
    ]

same_Err : {X : Type 0} (x y : Refusal) → ◌≡◌ {A = Result X Refusal} (Err x) (Err y) → x ≡ y
same_Err x y e = cc

not_Err : {X : Type 0} (x : X) (y : Refusal) → ◌≡◌ {A = Result X Refusal} (Ok x) (Err y) → ⊥
not_Err x y e = cc

-- if there are too many kept originals, the call refuses
pub legs_refused : (m : MatrixLists) (numbers : List ℕ) (e : Refusal) → numbers ≡ kept_of m → kept_or_refusal numbers ≡ Err e
    → legs_or_refusal (combinations m) ≡ Err e
legs_refused m numbers e is h = elim (cases_lt 256 (length numbers)) [
  | inl many ↦
      let long = length-combinations m in
      let counted = ap length is in
      let refused : e ≡ Numbered LegCount = same_Err _ _ (sym h
      ∙ ap (λ b. cond b (Err (Numbered LegCount)) (Ok numbers)) (lt-ltb 256 (length numbers) many)) in
      legs_many (combinations m) (omega arith) ∙ ap Err (sym refused)
  | inr few ↦ absurd (not_Err _ _ (sym (ap (λ b. cond b (Err (Numbered LegCount)) (Ok numbers)) (le-ltb 256 (length numbers) few)) ∙ h))
]

-- numbering keeps the names of the variables
pub names_rise-axes : (vs : List NamedValues) → names_rise vs ≡ true → names_rise (axes_of vs) ≡ true
names_rise-axes [] h = refl
names_rise-axes (v ∷ []) h = refl
names_rise-axes (v ∷ w ∷ vs) h =
    let parts = and_parts (is_lt (name_cmp v.0 w.0)) (names_rise (w ∷ vs)) h in
    and_from _ _ parts.0 (names_rise-axes (w ∷ vs) parts.1)

-- the final combinations of the kept numbers are those of the kept originals
finals_where : (m : MatrixLists) (n : ℕ) (entries : List EntryValue) (numbers : List ℕ) → names_rise (axes_where n m.variables) ≡ true
    → SortsEntries 0 m.include entries → (n ≡ 0 → numbers ≡ [])
    → map (final_from (axes_where n m.variables) (map (pattern_of (axes_where n m.variables)) m.include) entries) numbers ≡ map
    (final_combination m) (map (original_at (axes_where n m.variables)) numbers)
finals_where m zero entries numbers rise sorts none =
    ap (map (final_from [] (map (pattern_of []) m.include) entries)) (none refl)
    ∙ ap (λ ns. map (final_combination m) (map (original_at []) ns)) (sym (none refl))
finals_where m (suc n) entries numbers rise sorts none =
    sym (mapped_twice (original_at (axes_of m.variables)) (final_combination m)
    (final_from (axes_of m.variables) (map (pattern_of (axes_of m.variables)) m.include) entries)
    (λ number. sym (final_is m entries number rise sorts)) numbers)

pub finals_are : (m : MatrixLists) (entries : List EntryValue) → names_rise (numbered_axes m.variables) ≡ true
    → SortsEntries 0 m.include entries
    → map (final_from (numbered_axes m.variables) (map (pattern_of (numbered_axes m.variables)) m.include) entries) (kept_of m) ≡ map
    (final_combination m) (kept m)
finals_are m entries rise sorts =
    finals_where m (original_count m.variables) entries (kept_of m) rise sorts
    (λ e. ap (λ n. kept_from (map (pattern_of (numbered_axes m.variables)) m.exclude) 0 n) e)
    ∙ ap (map (final_combination m)) (sym (kept_is m))

-- the new combinations are those that the code finds
pub added_are : (m : MatrixLists) (axes : List AxisValue) (objects : List Combination) (patterns includes : List PatternValue)
    (kept : List ℕ) (added : List Combination) → axes ≡ numbered_axes m.variables → objects ≡ m.include → ◌≡◌
    {A = Result (List PatternValue) Refusal} (Ok (map (pattern_of axes) objects)) (Ok patterns) → includes ≡ patterns → kept ≡ kept_of m →
    ◌≡◌ {A = Result (List Combination) Refusal} (Ok (new_objects includes kept)) (Ok added) → added ≡ added_of m
added_are m axes objects patterns includes kept added a b c d e f =
    sym (same_Ok _ _ f)
    ∙ ap (new_objects includes) e
    ∙ ap (λ ps. new_objects ps (kept_of m)) (d ∙ sym (same_Ok _ _ c) ∙ ap (map (pattern_of axes)) b
    ∙ ap (λ xs. map (pattern_of xs) m.include) a)

-- the combinations are those that the code makes on demand
pub all_are : (m : MatrixLists) (axes : List AxisValue) (includes : List PatternValue) (entries : List EntryValue) (kept : List ℕ)
    (added : List Combination) → axes ≡ numbered_axes m.variables → includes ≡ map (pattern_of axes) m.include → kept ≡ kept_of m
    → added ≡ added_of m → names_rise axes ≡ true → SortsEntries 0 m.include entries
    → combinations m ≡ map (final_from axes includes entries) kept ++ added
all_are m axes includes entries kept added a b c d rise sorts =
    rw (b, a, c, d) (combinations_are m
    ∙ ap (λ os. os ++ added_of m) (sym (finals_are m entries (ap names_rise (sym a) ∙ rise) sorts)))
