-- Lists of pairs with increasing names: lookups in them, and equality by lookups.
use Rattle.std.proofs.Common.{◌≡◌, ℕ, zero, suc, ◌+◌, ◌<◌, ◌≤◌, true, false, cond, List, [], ◌∷◌, length, get_or, Some, None, refl, sym, ap}
use Rattle.std.proofs.Common.{◌∙◌, subst, inl, inr, add-one, arith}
use Rattle.std.specs.Prelude.{T}
use Rattle.std.specs.Cmp.Lexicographic.{nat_list_cmp_total}
use Rattle.std.specs.Ordering.{is_lt, is_eq, ordering_index}
use Rattle.std.specs.Option.{option_map}
use Rattle.std.specs.List.Sorted.{IsNonDecreasingBy}
use Rattle.std.proofs.lemmas.List.{get_or_read}
use Rattle.std.proofs.lemmas.List.Sorted.{searchable_from_sorted}
use Rattle.std.specs.declared.cmp.Ordering.{Ordering}
use Rattle.std.specs.declared.cmp.Ordering.TheVariants.{Less, Equal, Greater}
use Rattle.std.specs.FinMap.{find, is_sorted}
use Rattle.std.specs.FinMap.Entries.{below_all, same_entries}
use Rattle.std.specs.List.{slice_get}
use Rattle.std.proofs.lemmas.Bool.{and_parts, and_from, cases_lt}
use Rattle.std.proofs.lemmas.Cmp.{tied_back, eq_by_cmp_equiv}
use Rattle.std.proofs.lemmas.Map.Lookups.{exact_bytes}
use Rattle.definitions.specs.Rising.{names_rise}
use Rattle.wf_value.proofs.Rising.{Less-from_is_lt, after_less, name_cmp}

-- the equality test of two names is symmetric
pub same_test : (x y : List ℕ) → is_eq (name_cmp x y) ≡ is_eq (name_cmp y x)
same_test x y = (eq_by_cmp_equiv nat_list_cmp_total).symm x y

pub not_equal_after : (x y : List ℕ) → name_cmp x y ≡ Less → is_eq (name_cmp y x) ≡ false
not_equal_after x y h = ap is_eq (after_less x y h)

pub not_eq_below : (o : Ordering) → ordering_index o ≡ 0 → is_eq o ≡ false
not_eq_below Less h = refl
not_eq_below Equal h = absurd (omega arith)
not_eq_below Greater h = refl

pub not_eq_above : (o : Ordering) → 2 ≤ ordering_index o → is_eq o ≡ false
not_eq_above Less h = refl
not_eq_above Equal h = absurd (omega arith)
not_eq_above Greater h = refl

module _ {X : Type 0} where
  pub below_all-less : (x y : List ℕ) (es : List (List ℕ × X)) → name_cmp x y ≡ Less → below_all name_cmp y es ≡ true
      → below_all name_cmp x es ≡ true
  below_all-less x y [] p h = refl
  below_all-less x y (e ∷ es) p h =
      let parts = and_parts (is_lt (name_cmp y e.0)) (below_all name_cmp y es) h in
      and_from _ _ (ap is_lt (nat_list_cmp_total.trans x y e.0 p (Less-from_is_lt _ parts.0))) (below_all-less x y es p parts.1)

  -- the first name is less than all others
  pub below_all_first : (e : List ℕ × X) (es : List (List ℕ × X)) → names_rise (e ∷ es) ≡ true → below_all name_cmp e.0 es ≡ true
  below_all_first e [] h = refl
  below_all_first e (f ∷ es) h =
      let parts = and_parts (is_lt (name_cmp e.0 f.0)) (names_rise (f ∷ es)) h in
      and_from _ _ parts.0 (below_all-less e.0 f.0 es (Less-from_is_lt _ parts.0) (below_all_first f es parts.1))

  pub rise_rest : (e : List ℕ × X) (es : List (List ℕ × X)) → names_rise (e ∷ es) ≡ true → names_rise es ≡ true
  rise_rest e [] h = refl
  rise_rest e (f ∷ es) h = (and_parts (is_lt (name_cmp e.0 f.0)) (names_rise (f ∷ es)) h).1

  pub is_sorted-rise : (es : List (List ℕ × X)) → names_rise es ≡ true → is_sorted name_cmp es ≡ true
  is_sorted-rise [] h = refl
  is_sorted-rise (e ∷ es) h = and_from _ _ (below_all_first e es h) (is_sorted-rise es (rise_rest e es h))

  -- the converse
  pub rise_from : (e : List ℕ × X) (es : List (List ℕ × X)) → below_all name_cmp e.0 es ≡ true → names_rise es ≡ true
      → names_rise (e ∷ es) ≡ true
  rise_from e [] b h = refl
  rise_from e (f ∷ es) b h = and_from _ _ (and_parts (is_lt (name_cmp e.0 f.0)) (below_all name_cmp e.0 es) b).0 h

  -- lists with increasing names are equal if all lookups in them are
  pub same_from_find : (es fs : List (List ℕ × X)) → names_rise es ≡ true → names_rise fs ≡ true
      → ((name : List ℕ) → find name_cmp name es ≡ find name_cmp name fs) → es ≡ fs
  same_from_find es fs h g same =
      same_entries name_cmp nat_list_cmp_total exact_bytes es fs (subst T (sym (is_sorted-rise es h)) tt)
      (subst T (sym (is_sorted-rise fs g)) tt) same

  -- a lookup of a name less than all others finds nothing
  pub find_below : (name : List ℕ) (es : List (List ℕ × X)) → below_all name_cmp name es ≡ true → find name_cmp name es ≡ None
  find_below name [] h = refl
  find_below name (e ∷ es) h =
      let parts = and_parts (is_lt (name_cmp name e.0)) (below_all name_cmp name es) h in
      ap (λ o. cond (is_eq o) (Some e.1) (find name_cmp name es)) (Less-from_is_lt _ parts.0) ∙ find_below name es parts.1

  -- a name less than all others is less than each
  pub below_at : (x : List ℕ) (es : List (List ℕ × X)) (i : ℕ) (d : List ℕ × X) → below_all name_cmp x es ≡ true → i < length es
      → name_cmp x (get_or es i d).0 ≡ Less
  below_at x [] i d h l = absurd (omega arith)
  below_at x (e ∷ es) zero d h l = Less-from_is_lt _ (and_parts (is_lt (name_cmp x e.0)) (below_all name_cmp x es) h).0
  below_at x (e ∷ es) (suc i) d h l = below_at x es i d (and_parts (is_lt (name_cmp x e.0)) (below_all name_cmp x es) h).1 (omega arith)

  -- a lookup of the name at an index
  pub find_at : (es : List (List ℕ × X)) (i : ℕ) (name : List ℕ) → names_rise es ≡ true → i < length es
      → ((d : List ℕ × X) → name_cmp (get_or es i d).0 name ≡ Equal) → option_map (λ e. e.1) (slice_get es i) ≡ find name_cmp name es
  find_at [] i name h l is = absurd (omega arith)
  find_at (e ∷ es) zero name h l is = ap (λ o. cond (is_eq o) (Some e.1) (find name_cmp name es))
      (sym (tied_back nat_list_cmp_total e.0 name (is e)))
  find_at (e ∷ es) (suc i) name h l is =
      let same : (get_or es i e).0 ≡ name = exact_bytes _ _ (is e) in
      let below : name_cmp e.0 name ≡ Less = subst (λ n. name_cmp e.0 n ≡ Less) same
      (below_at e.0 es i e (below_all_first e es h) (omega arith)) in
      find_at es i name (rise_rest e es h) (omega arith) (λ d. is d)
      ∙ ap (λ b. cond b (Some e.1) (find name_cmp name es)) (sym (not_equal_after e.0 name below))

  -- a lookup of a name that occurs nowhere finds nothing
  pub find_absent : (es : List (List ℕ × X)) (name : List ℕ)
      → ((k : ℕ) (d : List ℕ × X) → k < length es → is_eq (name_cmp (get_or es k d).0 name) ≡ false) → find name_cmp name es ≡ None
  find_absent [] name h = refl
  find_absent (e ∷ es) name h =
      ap (λ b. cond b (Some e.1) (find name_cmp name es)) (sym (same_test e.0 name) ∙ h 0 e (omega arith))
      ∙ find_absent es name (λ k d l. h (suc k) d (omega arith))

  -- each name is less than the next
  pub rise_at : (es : List (List ℕ × X)) (k : ℕ) (d : List ℕ × X) → names_rise es ≡ true → suc k < length es
      → name_cmp (get_or es k d).0 (get_or es (suc k) d).0 ≡ Less
  rise_at [] k d h l = absurd (omega arith)
  rise_at (e ∷ es) zero d h l = below_at e.0 es 0 d (below_all_first e es h) (omega arith)
  rise_at (e ∷ es) (suc k) d h l = rise_at es k d (rise_rest e es h) (omega arith)

  -- the names are non-decreasing
  pub searchable : (es : List (List ℕ × X)) (name : List ℕ) → names_rise es ≡ true
      → IsNonDecreasingBy (λ e. ordering_index (name_cmp e.0 name)) es
  searchable es name h = searchable_from_sorted nat_list_cmp_total (λ (e : List ℕ × X). e.0) es name
      (λ k d _ l. rw add-one (ap is_lt (after_less (get_or es k d).0 (get_or es (suc k) d).0 (rise_at es k d h (omega arith)))))

  -- the names at indices below low come before the name
  abbrev pub IsBelow : List (List ℕ × X) → List ℕ → ℕ → Type 0
  IsBelow es name low = (k : ℕ) (d : List ℕ × X) → k < low → ordering_index (name_cmp (get_or es k d).0 name) ≡ 0

  -- the names at indices from high on come after it
  abbrev pub IsAbove : List (List ℕ × X) → List ℕ → ℕ → Type 0
  IsAbove es name high = (k : ℕ) (d : List ℕ × X) → high ≤ k → k < length es → 2 ≤ ordering_index (name_cmp (get_or es k d).0 name)

  pub IsBelow-more : (es : List (List ℕ × X)) (name : List ℕ) (m : ℕ) (e : List ℕ × X) → names_rise es ≡ true → m < length es
      → e ≡ get_or es m e → Less ≡ name_cmp e.0 name → IsBelow es name (m + 1)
  IsBelow-more es name m e h l at is k d below =
      let here : ordering_index (name_cmp (get_or es m d).0 name) ≡ 0 = ap (λ x. ordering_index (name_cmp x.0 name))
      (sym (get_or_read es m e l at d)) ∙ ap ordering_index (sym is) in
      omega (arith, searchable es name h k m d (omega arith) l, here)

  pub IsAbove-more : (es : List (List ℕ × X)) (name : List ℕ) (m : ℕ) (e : List ℕ × X) → names_rise es ≡ true → m < length es
      → e ≡ get_or es m e → Greater ≡ name_cmp e.0 name → IsAbove es name m
  IsAbove-more es name m e h l at is k d above below =
      let here : ordering_index (name_cmp (get_or es m d).0 name) ≡ 2 = ap (λ x. ordering_index (name_cmp x.0 name))
      (sym (get_or_read es m e l at d)) ∙ ap ordering_index (sym is) in
      omega (arith, searchable es name h m k d above below, here)

  pub found_at : (es : List (List ℕ × X)) (name : List ℕ) (m : ℕ) (e : List ℕ × X) → names_rise es ≡ true → m < length es
      → e ≡ get_or es m e → Equal ≡ name_cmp e.0 name → option_map (λ e. e.1) (slice_get es m) ≡ find name_cmp name es
  found_at es name m e h l at is = find_at es m name h l (λ d. ap (λ x. name_cmp x.0 name) (sym (get_or_read es m e l at d)) ∙ sym is)

  pub found_nowhere : (es : List (List ℕ × X)) (name : List ℕ) (low high : ℕ) → high ≤ low → IsBelow es name low → IsAbove es name high
      → None ≡ find name_cmp name es
  found_nowhere es name low high h below above =
      sym (find_absent es name (λ k d l. elim (cases_lt k low) [
        | inl before ↦ not_eq_below _ (below k d before)
        | inr after ↦ not_eq_above _ (above k d (omega arith) l)
      ]))
