-- The final combinations: looking up names in them, and that the code computes them.
use Rattle.std.proofs.Common.{◌≡◌, ℕ, ◌+◌, Bool, true, false, ◌||◌, cond, List, [], ◌∷◌, ◌++◌, map, length, get_or, Option, Some, None}
use Rattle.std.proofs.Common.{refl, sym, ap, ◌∙◌, subst, length-append}
use Rattle.std.specs.Prelude.{T, is_some}
use Rattle.std.specs.Cmp.Lexicographic.{nat_list_cmp_total}
use Rattle.std.specs.FinMap.{find, is_sorted}
use Rattle.std.specs.FinMap.Entries.{by_order, put, below_all, is_sorted-put, find-put}
use Rattle.std.specs.List.{filter, filter_map, list_any, cons_option}
use Rattle.std.specs.Option.{option_map, option_or}
use Rattle.std.specs.Ordering.{is_lt, is_eq}
use Rattle.std.specs.declared.cmp.Ordering.TheVariants.{Less, Equal, Greater}
use Rattle.std.proofs.lemmas.Bool.{and_parts, and_from, or_parts}
use Rattle.std.proofs.lemmas.List.{get_or_at, length-map, append_assoc}
use Rattle.std.proofs.lemmas.Map.Lookups.{exact_bytes}
use Rattle.std.proofs.lemmas.List.Folds.{list_any-append}
use Rattle.wf_value.specs.ScalarValue.{MatrixLists}
use Rattle.definitions.specs.Rising.{names_rise}
use Rattle.wf_value.specs.declared.scalar.Scalar.{Scalar}
use Rattle.matrix_expand.specs.Combinations.{Combination, value_at, agrees, last_value, final_value, names_of, with_name, in_order}
use Rattle.matrix_expand.specs.Combinations.{all_names, final_combination}
use Rattle.matrix_expand.specs.inner.Entries.{names_ascend, pairs_of, flagged, flags_of, added_value, object_entries, merged, SortsEntries}
use Rattle.matrix_expand.specs.inner.Entries.{final_from}
use Rattle.matrix_expand.specs.inner.Numbered.{chosen, axes_of, original_at, pattern_of, pattern_agrees}
use Rattle.matrix_expand.specs.inner.Values.{EntryValue}
use Rattle.matrix_expand.proofs.Agreement.{agrees_numbered}
use Rattle.matrix_expand.proofs.Firsts.{value_at-firsts, names_rise-firsts, names_ascend-flagged, names_ascend-final, names_rise-map}
use Rattle.matrix_expand.proofs.Merging.{value_at-merged, value_at-object, names_ascend-rise, pairs_of-object}
use Rattle.matrix_expand.proofs.Rising.{same_from_find, rise_from}
use Rattle.wf_value.proofs.Rising.{Equal-from_is_eq, name_cmp}
use Rattle.wf_value.proofs.OptionOr.{or_none}

-- names without values
abbrev marks : List (List ℕ) → List (List ℕ × Unit {0})
marks ns = map (λ n. (n, tt)) ns

marks-with_name : (name : List ℕ) (ns : List (List ℕ)) → marks (with_name name ns) ≡ put name_cmp name tt (marks ns)
marks-with_name name [] = refl
marks-with_name name (n ∷ ns) =
    elim (name_cmp name n) as
    (λ o. marks (by_order o (name ∷ n ∷ ns) (n ∷ ns) (n ∷ with_name name ns)) ≡ by_order o ((name, tt) ∷ marks (n ∷ ns))
    ((n, tt) ∷ marks ns) ((n, tt) ∷ put name_cmp name tt (marks ns))) [
      | Less ↦ refl
      | Equal ↦ refl
      | Greater ↦ ap (λ ms. (n, tt) ∷ ms) (marks-with_name name ns)
    ]

in_order_sorted : (ns : List (List ℕ)) → T (is_sorted name_cmp (marks (in_order ns)))
in_order_sorted [] = tt
in_order_sorted (n ∷ ns) = subst (λ ms. T (is_sorted name_cmp ms)) (sym (marks-with_name n (in_order ns)))
    (is_sorted-put name_cmp nat_list_cmp_total n tt (marks (in_order ns)) (in_order_sorted ns))

is_some-cond : {X : Type 0} (b : Bool) (x : X) (o : Option X) → is_some (cond b (Some x) o) ≡ (b || is_some o)
is_some-cond true x o = refl
is_some-cond false x o = refl

-- sorting keeps the set of names
found_in_order : (name : List ℕ) (ns : List (List ℕ))
    → is_some (find name_cmp name (marks (in_order ns))) ≡ list_any (λ n. is_eq (name_cmp name n)) ns
found_in_order name [] = refl
found_in_order name (n ∷ ns) =
    ap (λ ms. is_some (find name_cmp name ms)) (marks-with_name n (in_order ns))
    ∙ ap is_some (find-put name_cmp nat_list_cmp_total name n tt (marks (in_order ns)))
    ∙ is_some-cond (is_eq (name_cmp name n)) tt (find name_cmp name (marks (in_order ns)))
    ∙ ap (λ b. is_eq (name_cmp name n) || b) (found_in_order name ns)

true_from : (b : Bool) → T b → b ≡ true
true_from true h = refl
true_from false h = absurd h

-- the names that have a value, with that value
module _ (value : List ℕ → Option Scalar) where
  abbrev valued : List (List ℕ) → Combination
  valued ns = filter_map (λ name. option_map (λ v. (name, v)) (value name)) ns

  below_valued : (x : List ℕ) (ns : List (List ℕ)) → below_all name_cmp x (marks ns) ≡ true → below_all name_cmp x (valued ns) ≡ true
  below_valued x [] h = refl
  below_valued x (n ∷ ns) h =
      let parts = and_parts (is_lt (name_cmp x n)) (below_all name_cmp x (marks ns)) h in
      let rest = below_valued x ns parts.1 in
      elim (value n) as (λ o. below_all name_cmp x (cons_option (option_map (λ v. (n, v)) o) (valued ns)) ≡ true) [
        | None ↦ rest
        | Some v ↦ and_from _ _ parts.0 rest
      ]

  names_rise-valued : (ns : List (List ℕ)) → is_sorted name_cmp (marks ns) ≡ true → names_rise (valued ns) ≡ true
  names_rise-valued [] h = refl
  names_rise-valued (n ∷ ns) h =
      let parts = and_parts (below_all name_cmp n (marks ns)) (is_sorted name_cmp (marks ns)) h in
      let rest = names_rise-valued ns parts.1 in
      elim (value n) as (λ o. names_rise (cons_option (option_map (λ v. (n, v)) o) (valued ns)) ≡ true) [
        | None ↦ rest
        | Some v ↦ rise_from (n, v) (valued ns) (below_valued n ns parts.0) rest
      ]

  none_either : (b : Bool) → ◌≡◌ {A = Option Scalar} (cond b None None) None
  none_either true = refl
  none_either false = refl

  -- the next name either is the one looked up or is not
  found_here : (name n : List ℕ) (rest : Combination) (seen : Bool) (o : Option Scalar) → value name ≡ o → is_eq (name_cmp name n) ≡ true
      → value_at rest name ≡ cond seen (value name) None → value_at (cons_option (option_map (λ v. (n, v)) o) rest) name ≡ value name
  found_here name n rest seen None e same r = r ∙ ap (λ o. cond seen o None) e ∙ none_either seen ∙ sym e
  found_here name n rest seen (Some v) e same r = ap (λ b. cond b (Some v) (value_at rest name)) same ∙ sym e

  found_past : (name n : List ℕ) (rest : Combination) (o : Option Scalar) → is_eq (name_cmp name n) ≡ false
      → value_at (cons_option (option_map (λ v. (n, v)) o) rest) name ≡ value_at rest name
  found_past name n rest None other = refl
  found_past name n rest (Some v) other = ap (λ b. cond b (Some v) (value_at rest name)) other

  found_valued : (name : List ℕ) (ns : List (List ℕ))
      → value_at (valued ns) name ≡ cond (is_some (find name_cmp name (marks ns))) (value name) None
  found_valued name [] = refl
  found_valued name (n ∷ ns) =
      let rest = found_valued name ns in
      elim (is_eq (name_cmp name n)) as
      (λ b. is_eq (name_cmp name n) ≡ b → value_at (valued (n ∷ ns)) name ≡ cond
      (is_some (cond b (Some tt) (find name_cmp name (marks ns)))) (value name) None) [
        | true ↦ λ same. found_here name n (valued ns) (is_some (find name_cmp name (marks ns))) (value n)
            (ap value (exact_bytes name n (Equal-from_is_eq _ same))) same rest
        | false ↦ λ other. found_past name n (valued ns) (value n) other ∙ rest
      ] refl

-- a lookup of a name that no pair has finds nothing
not_named : (c : Combination) (name : List ℕ) → list_any (λ n. is_eq (name_cmp name n)) (map (λ p. p.0) c) ≡ false → value_at c name ≡ None
not_named [] name h = refl
not_named (p ∷ ps) name h =
    let parts = or_parts (is_eq (name_cmp name p.0)) (list_any (λ n. is_eq (name_cmp name n)) (map (λ p. p.0) ps)) h in
    ap (λ b. cond b (Some p.1) (value_at ps name)) parts.0 ∙ not_named ps name parts.1

unnamed_parts : (c : Combination) (cs : List Combination) (name : List ℕ)
    → list_any (λ n. is_eq (name_cmp name n)) (names_of (c ∷ cs)) ≡ false
    → (value_at c name ≡ None) × (list_any (λ n. is_eq (name_cmp name n)) (names_of cs) ≡ false)
unnamed_parts c cs name h =
    let parts = or_parts _ _ (sym (list_any-append (λ n. is_eq (name_cmp name n)) (map (λ p. p.0) c) (names_of cs)) ∙ h) in
    (not_named c name parts.0, parts.1)

last_unnamed : (test : Combination → Bool) (cs : List Combination) (name : List ℕ)
    → list_any (λ n. is_eq (name_cmp name n)) (names_of cs) ≡ false → last_value (filter test cs) name ≡ None
last_unnamed test [] name h = refl
last_unnamed test (c ∷ cs) name h =
    let parts = unnamed_parts c cs name h in
    let rest = last_unnamed test cs name parts.1 in
    elim (test c) as (λ b. last_value (cond b (c ∷ filter test cs) (filter test cs)) name ≡ None) [
      | true ↦ ap (λ o. option_or o (value_at c name)) rest ∙ parts.0
      | false ↦ rest
    ]

final_unnamed : (m : MatrixLists) (original : Combination) (name : List ℕ)
    → list_any (λ n. is_eq (name_cmp name n)) (names_of (original ∷ m.include)) ≡ false → None ≡ final_value m original name
final_unnamed m original name h =
    let parts = unnamed_parts original m.include name h in
    sym (ap (λ o. option_or o (last_value (filter (agrees m original) m.include) name)) parts.0
    ∙ last_unnamed (agrees m original) m.include name parts.1)

chosen_by : {X : Type 0} (b : Bool) (x y : X) → (b ≡ false → y ≡ x) → cond b x y ≡ x
chosen_by true x y h = refl
chosen_by false x y h = h refl

-- looking up a name in a final combination
pub value_at-final : (m : MatrixLists) (original : Combination) (name : List ℕ)
    → value_at (final_combination m original) name ≡ final_value m original name
value_at-final m original name =
    found_valued (final_value m original) name (all_names m original)
    ∙ ap (λ b. cond b (final_value m original name) None) (found_in_order name (names_of (original ∷ m.include)))
    ∙ chosen_by (list_any (λ n. is_eq (name_cmp name n)) (names_of (original ∷ m.include))) (final_value m original name) None
    (final_unnamed m original name)

pub names_rise-final : (m : MatrixLists) (original : Combination) → names_rise (final_combination m original) ≡ true
names_rise-final m original = names_rise-valued (final_value m original) (all_names m original)
    (true_from _ (in_order_sorted (names_of (original ∷ m.include))))

-- the flagged objects are those that pass the test
added_is : (test : Combination → Bool) (name : List ℕ) (front : List Bool) (cs : List Combination) (suffix : List Bool)
    → added_value (front ++ map test cs ++ suffix) (length front) cs name ≡ last_value (filter test cs) name
added_is test name front [] suffix = refl
added_is test name front (c ∷ cs) suffix =
    let flags = front ++ (test c ∷ map test cs) ++ suffix in
    let next : length (front ++ test c ∷ []) ≡ length front + 1 = length-append front (test c ∷ []) in
    let moved : (front ++ test c ∷ []) ++ map test cs ++ suffix ≡ flags = ap (λ fs. fs ++ suffix)
    (append_assoc front (test c ∷ []) (map test cs)) in
    let rest : added_value flags (length front + 1) cs name ≡ last_value (filter test cs) name =
    ap (λ n. added_value flags n cs name) (sym next) ∙ ap (λ fs. added_value fs (length (front ++ test c ∷ [])) cs name) (sym moved)
    ∙ added_is test name (front ++ test c ∷ []) cs suffix in
    let flag : get_or flags (length front) false ≡ test c = ap (λ fs. get_or fs (length front) false)
    (append_assoc front (test c ∷ map test cs) suffix) ∙ get_or_at front (test c) (map test cs ++ suffix) false (length front) refl in
    ap (λ o. option_or o (cond (get_or flags (length front) false) (value_at c name) None)) rest
    ∙ ap (λ b. option_or (last_value (filter test cs) name) (cond b (value_at c name) None)) flag
    ∙ elim (test c) as
    (λ b. option_or (last_value (filter test cs) name) (cond b (value_at c name) None) ≡ last_value
    (cond b (c ∷ filter test cs) (filter test cs)) name) [
      | true ↦ refl
      | false ↦ or_none (last_value (filter test cs) name)
    ]

-- two maps in sequence are one map
pub mapped_twice : {A B C : Type 0} (f : A → B) (g : B → C) (h : A → C) → ((x : A) → g (f x) ≡ h x) → (xs : List A)
    → map g (map f xs) ≡ map h xs
mapped_twice f g h e [] = refl
mapped_twice f g h e (x ∷ xs) = ap (λ y. y ∷ map g (map f xs)) (e x) ∙ ap (λ ys. h x ∷ ys) (mapped_twice f g h e xs)

-- the code's final combination of a number is that of its original
pub final_is : (m : MatrixLists) (entries : List EntryValue) (number : ℕ) → names_rise (axes_of m.variables) ≡ true
    → SortsEntries 0 m.include entries
    → final_from (axes_of m.variables) (map (pattern_of (axes_of m.variables)) m.include) entries number ≡ final_combination m
    (original_at (axes_of m.variables) number)
final_is m entries number axes_rise sorts =
    let axes = axes_of m.variables in
    let original = original_at axes number in
    let patterns = map (pattern_of axes) m.include in
    let flags = flags_of patterns number in
    let own = object_entries (length patterns) original in
    let original_rises : names_rise original ≡ true = names_rise-map (λ c. chosen c number) axes ∙ axes_rise in
    let own_ascends : names_ascend (pairs_of own) ≡ true = ap names_ascend (pairs_of-object (length patterns) original)
    ∙ names_ascend-rise original original_rises in
    let flag : get_or flags (length patterns) false ≡ true = get_or_at (map (pattern_agrees number) patterns) true [] false
    (length patterns) (length-map patterns (pattern_agrees number)) in
    let flags_are : flags ≡ map (agrees m original) m.include ++ true ∷ [] = ap (λ fs. fs ++ true ∷ [])
    (mapped_twice (pattern_of axes) (pattern_agrees number) (agrees m original) (λ object. sym (agrees_numbered m number object)) m.include)
    in
    same_from_find (final_from axes patterns entries number) (final_combination m original)
    (names_rise-firsts (flagged flags (merged entries own))
    (names_ascend-flagged flags (merged entries own)
    (names_ascend-final axes number (length patterns) entries sorts.in_order axes_rise)))
    (names_rise-final m original)
    (λ name.
    value_at-firsts name (flagged flags (merged entries own))
    ∙ value_at-merged flags name entries own own_ascends
    ∙ ap (λ o. option_or o (value_at (flagged flags entries) name)) (value_at-object flags (length patterns) original name
    ∙ ap (λ b. cond b (value_at original name) None) flag)
    ∙ ap (option_or (value_at original name)) (sorts.values flags name ∙ ap (λ fs. added_value fs 0 m.include name) flags_are
    ∙ added_is (agrees m original) name [] m.include (true ∷ []))
    ∙ sym (value_at-final m original name))
