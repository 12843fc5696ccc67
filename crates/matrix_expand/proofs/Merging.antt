-- Lookups in merged entries, and their order.
use Rattle.std.proofs.Common.{◌≡◌, ℕ, suc, ◌+◌, ◌<◌, ◌≤◌, Bool, true, false, ◌&&◌, not, cond, List, [], ◌∷◌, ◌++◌, length, get_or, take}
use Rattle.std.proofs.Common.{drop, Option, Some, None, Result, Ok, Err, IfOk, refl, sym, ap, ◌∙◌, subst, inl, inr, ◌⊎◌, arith}
use Rattle.std.specs.Cmp.Lexicographic.{nat_list_cmp_total}
use Rattle.std.specs.FinMap.Entries.{below_all}
use Rattle.std.specs.List.{filter, list_all}
use Rattle.std.specs.Option.{option_or}
use Rattle.std.specs.Ordering.{is_lt, is_eq, is_gt, ordering_reverse}
use Rattle.std.specs.declared.cmp.Ordering.{Ordering}
use Rattle.std.specs.declared.cmp.Ordering.TheVariants.{Less, Equal, Greater}
use Rattle.std.proofs.lemmas.Bool.{and_parts, and_from, and_right, not-true, not_from_false, true≢false}
use Rattle.std.proofs.lemmas.Cmp.{upto}
use Rattle.std.proofs.lemmas.List.{append-nil, append_assoc, drop_all, length-take-le, take-append-drop}
use Rattle.std.proofs.lemmas.Map.Lookups.{exact_bytes}
use Rattle.wf_value.specs.declared.refusal.Refusal.{Refusal}
use Rattle.wf_value.specs.Gives.{Gives}
use Rattle.definitions.specs.Rising.{names_rise}
use Rattle.matrix_expand.specs.Combinations.{Combination, value_at}
use Rattle.matrix_expand.specs.inner.Entries.{comes_before, placed, merged, is_least, names_ascend, pairs_of, flagged, added_value}
use Rattle.matrix_expand.specs.inner.Entries.{object_entries, SortsEntries}
use Rattle.matrix_expand.specs.inner.Values.{EntryValue}
use Rattle.matrix_expand.proofs.Rising.{below_all_first, rise_rest}
use Rattle.wf_value.proofs.Rising.{Equal-from_is_eq, Less-from_is_lt, name_cmp}
use Rattle.wf_value.proofs.PassedOn.{same_Ok}
use Rattle.wf_value.proofs.OptionOr.{or_none}

pub merged-nil : (es : List EntryValue) → merged es [] ≡ es
merged-nil [] = refl
merged-nil (e ∷ es) = ap (λ fs. e ∷ fs) (merged-nil es)

-- when one side is exhausted, the rest of the other follows
pub merged_end : (left right : List EntryValue) (i j : ℕ) → (length left ≤ i) ⊎ (length right ≤ j)
    → merged (drop i left) (drop j right) ≡ drop i left ++ drop j right
merged_end left right i j (inl l) = rw (drop_all i left l) refl
merged_end left right i j (inr l) = rw (drop_all j right l) (merged-nil (drop i left) ∙ sym (append-nil (drop i left)))

-- the merged entries after the rest of both sides is appended
pub joined_end : (left right made one two after_left after_right : List EntryValue) (i j : ℕ) → (length left ≤ i) ⊎ (length right ≤ j)
    → made ++ merged (drop i left) (drop j right) ≡ merged left right → after_left ≡ drop i left → after_right ≡ drop j right
    → ◌≡◌ {A = Result (List EntryValue) Refusal} (Ok (made ++ after_left)) (Ok one)
    → ◌≡◌ {A = Result (List EntryValue) Refusal} (Ok (one ++ after_right)) (Ok two) → merged left right ≡ two
joined_end left right made one two after_left after_right i j ends all a b p q =
    sym all ∙ ap (λ es. made ++ es) (merged_end left right i j ends) ∙ sym (append_assoc made (drop i left) (drop j right))
    ∙ ap (λ es. made ++ es ++ drop j right) (sym a) ∙ ap (λ es. es ++ drop j right) (same_Ok _ _ p) ∙ ap (λ es. one ++ es) (sym b)
    ∙ same_Ok _ _ q

pub option_or_assoc : {X : Type 0} (a b c : Option X) → option_or a (option_or b c) ≡ option_or (option_or a b) c
option_or_assoc None b c = refl
option_or_assoc (Some x) b c = refl

-- whether an entry is flagged and has this name
abbrev pub counts : List Bool → List ℕ → EntryValue → Bool
counts flags name e = get_or flags e.0 false && is_eq (name_cmp name e.1.0)

pub value_at-flagged : (flags : List Bool) (name : List ℕ) (e : EntryValue) (es : List EntryValue)
    → value_at (flagged flags (e ∷ es)) name ≡ cond (counts flags name e) (Some e.1.1) (value_at (flagged flags es) name)
value_at-flagged flags name e es =
    elim (get_or flags e.0 false) as
    (λ b. value_at (pairs_of (cond b (e ∷ filter (λ f. get_or flags f.0 false) es) (filter (λ f. get_or flags f.0 false) es))) name ≡
    cond (b && is_eq (name_cmp name e.1.0)) (Some e.1.1) (value_at (flagged flags es) name)) [
      | true ↦ refl
      | false ↦ refl
    ]

-- a lookup of a name less than all others finds nothing
pub value_at_before : (flags : List Bool) (name : List ℕ) (es : List EntryValue)
    → list_all (λ p. is_lt (name_cmp name p.0)) (pairs_of es) ≡ true → value_at (flagged flags es) name ≡ None
value_at_before flags name [] h = refl
value_at_before flags name (e ∷ es) h =
    let parts = and_parts (is_lt (name_cmp name e.1.0)) (list_all (λ p. is_lt (name_cmp name p.0)) (pairs_of es)) h in
    value_at-flagged flags name e es
    ∙ ap (λ o. cond (get_or flags e.0 false && is_eq o) (Some e.1.1) (value_at (flagged flags es) name)) (Less-from_is_lt _ parts.0)
    ∙ ap (λ b. cond b (Some e.1.1) (value_at (flagged flags es) name)) (and_right (get_or flags e.0 false) false refl)
    ∙ value_at_before flags name es parts.1

-- transitivity for three names
pub less_least : (x y z : List ℕ) → name_cmp x y ≡ Less → is_gt (name_cmp y z) ≡ false → name_cmp x z ≡ Less
less_least x y z p q = go (name_cmp y z) refl q
  where
    go : (o : Ordering) → name_cmp y z ≡ o → is_gt o ≡ false → name_cmp x z ≡ Less
    go Less e h = nat_list_cmp_total.trans x y z p e
    go Equal e h = subst (λ n. name_cmp x n ≡ Less) (exact_bytes y z e) p
    go Greater e h = absurd (true≢false h)

-- a name less than the least is less than all
pub before_least : (x y : List ℕ) (ps : Combination) → name_cmp x y ≡ Less → is_least y ps ≡ true
    → list_all (λ p. is_lt (name_cmp x p.0)) ps ≡ true
before_least x y [] p h = refl
before_least x y (q ∷ qs) p h =
    let parts = and_parts (not (is_gt (name_cmp y q.0))) (is_least y qs) h in
    and_from _ _ (ap is_lt (less_least x y q.0 p (not-true _ parts.0))) (before_least x y qs p parts.1)

pub is_least-at_most : (x y : List ℕ) (ps : Combination) → is_gt (name_cmp x y) ≡ false → is_least y ps ≡ true → is_least x ps ≡ true
is_least-at_most x y [] p h = refl
is_least-at_most x y (q ∷ qs) p h =
    let parts = and_parts (not (is_gt (name_cmp y q.0))) (is_least y qs) h in
    and_from _ _ (not_from_false _ (upto nat_list_cmp_total x y q.0 p (not-true _ parts.0))) (is_least-at_most x y qs p parts.1)

-- the converse
not_before : (x y : List ℕ) → is_lt (name_cmp x y) ≡ false → is_gt (name_cmp y x) ≡ false
not_before x y h = ap is_gt (nat_list_cmp_total.antisymm y x) ∙ go (name_cmp x y) h
  where
    go : (o : Ordering) → is_lt o ≡ false → is_gt (ordering_reverse o) ≡ false
    go Less e = absurd (true≢false e)
    go Equal e = refl
    go Greater e = refl

not_after : (x y : List ℕ) → is_lt (name_cmp x y) ≡ true → is_gt (name_cmp x y) ≡ false
not_after x y h = ap is_gt (Less-from_is_lt _ h)

-- a name that is least on both sides is least in the merge
least_placed : (name : List ℕ) (e : EntryValue) (rest : List EntryValue → List EntryValue) → not (is_gt (name_cmp name e.1.0)) ≡ true
    → ((fs : List EntryValue) → is_least name (pairs_of fs) ≡ true → is_least name (pairs_of (rest fs)) ≡ true) → (fs : List EntryValue)
    → is_least name (pairs_of fs) ≡ true → is_least name (pairs_of (placed e rest fs)) ≡ true
least_placed name e rest own more [] k = and_from _ _ own (more [] k)
least_placed name e rest own more (f ∷ fs) k =
    let parts = and_parts (not (is_gt (name_cmp name f.1.0))) (is_least name (pairs_of fs)) k in
    elim (comes_before e f) as (λ b. is_least name (pairs_of (cond b (e ∷ rest (f ∷ fs)) (f ∷ placed e rest fs))) ≡ true) [
      | true ↦ and_from _ _ own (more (f ∷ fs) k)
      | false ↦ and_from _ _ parts.0 (least_placed name e rest own more fs parts.1)
    ]

least_merged : (name : List ℕ) (left right : List EntryValue) → is_least name (pairs_of left) ≡ true → is_least name (pairs_of right) ≡ true
    → is_least name (pairs_of (merged left right)) ≡ true
least_merged name [] right h g = g
least_merged name (e ∷ es) right h g =
    let parts = and_parts (not (is_gt (name_cmp name e.1.0))) (is_least name (pairs_of es)) h in
    least_placed name e (merged es) parts.0 (λ fs k. least_merged name es fs parts.1 k) right g

-- merged entries ascend
ascend_placed : (e : EntryValue) (es : List EntryValue) → is_least e.1.0 (pairs_of es) ≡ true
    → ((fs : List EntryValue) → names_ascend (pairs_of fs) ≡ true → names_ascend (pairs_of (merged es fs)) ≡ true) → (fs : List EntryValue)
    → names_ascend (pairs_of fs) ≡ true → names_ascend (pairs_of (placed e (merged es) fs)) ≡ true
ascend_placed e es own more [] k = and_from _ _ (least_merged e.1.0 es [] own refl) (more [] k)
ascend_placed e es own more (f ∷ fs) k =
    let parts = and_parts (is_least f.1.0 (pairs_of fs)) (names_ascend (pairs_of fs)) k in
    elim (comes_before e f) as
    (λ b. comes_before e f ≡ b → names_ascend (pairs_of (cond b (e ∷ merged es (f ∷ fs)) (f ∷ placed e (merged es) fs))) ≡ true) [
      | true ↦ λ t.
          let below = not_after e.1.0 f.1.0 t in
          and_from _ _
          (least_merged e.1.0 es (f ∷ fs) own
          (and_from _ _ (not_from_false _ below) (is_least-at_most e.1.0 f.1.0 (pairs_of fs) below parts.0))) (more (f ∷ fs) k)
      | false ↦ λ t.
          let below = not_before e.1.0 f.1.0 t in
          and_from _ _
          (least_merged f.1.0 (e ∷ es) fs (and_from _ _ (not_from_false _ below) (is_least-at_most f.1.0 e.1.0 (pairs_of es) below own))
          parts.0) (ascend_placed e es own more fs parts.1)
    ] refl

pub names_ascend-merged : (left right : List EntryValue) → names_ascend (pairs_of left) ≡ true → names_ascend (pairs_of right) ≡ true
    → names_ascend (pairs_of (merged left right)) ≡ true
names_ascend-merged [] right h g = g
names_ascend-merged (e ∷ es) right h g =
    let parts = and_parts (is_least e.1.0 (pairs_of es)) (names_ascend (pairs_of es)) h in
    ascend_placed e es parts.0 (λ fs k. names_ascend-merged es fs parts.1 k) right g

-- a lookup in merged entries gives the right side's value, else the left side's
module _ (flags : List Bool) (name : List ℕ) where
  value_at-placed : (e : EntryValue) (es : List EntryValue)
      → ((fs : List EntryValue) → names_ascend (pairs_of fs) ≡ true
      → value_at (flagged flags (merged es fs)) name ≡ option_or (value_at (flagged flags fs) name) (value_at (flagged flags es) name))
      → (fs : List EntryValue) → names_ascend (pairs_of fs) ≡ true
      → value_at (flagged flags (placed e (merged es) fs)) name ≡ option_or (value_at (flagged flags fs) name)
      (value_at (flagged flags (e ∷ es)) name)
  value_at-placed e es more [] k = ap (λ fs. value_at (flagged flags (e ∷ fs)) name) (merged-nil es)
  value_at-placed e es more (f ∷ fs) k =
      let parts = and_parts (is_least f.1.0 (pairs_of fs)) (names_ascend (pairs_of fs)) k in
      let rest = value_at-placed e es more fs parts.1 in
      let left = value_at (flagged flags (e ∷ es)) name in
      elim (comes_before e f) as
      (λ b. comes_before e f ≡ b → value_at (flagged flags (cond b (e ∷ merged es (f ∷ fs)) (f ∷ placed e (merged es) fs))) name ≡
      option_or (value_at (flagged flags (f ∷ fs)) name) left) [
        | true ↦ λ t.
            value_at-flagged flags name e (merged es (f ∷ fs))
            ∙ elim (counts flags name e) as
            (λ b. counts flags name e ≡ b → cond b (Some e.1.1) (value_at (flagged flags (merged es (f ∷ fs))) name) ≡ option_or
            (value_at (flagged flags (f ∷ fs)) name) (cond b (Some e.1.1) (value_at (flagged flags es) name))) [
              | true ↦ λ here.
                  let same : name ≡ e.1.0 = exact_bytes _ _
                  (Equal-from_is_eq _ (and_parts (get_or flags e.0 false) (is_eq (name_cmp name e.1.0)) here).1) in
                  let before : name_cmp name f.1.0 ≡ Less = subst (λ n. name_cmp n f.1.0 ≡ Less) (sym same) (Less-from_is_lt _ t) in
                  ap (λ o. option_or o (Some e.1.1))
                  (sym (value_at_before flags name (f ∷ fs)
                  (and_from _ _ (ap is_lt before) (before_least name f.1.0 (pairs_of fs) before parts.0))))
              | false ↦ λ _. more (f ∷ fs) k
            ] refl
            ∙ ap (option_or (value_at (flagged flags (f ∷ fs)) name)) (sym (value_at-flagged flags name e es))
        | false ↦ λ t.
            value_at-flagged flags name f (placed e (merged es) fs)
            ∙ elim (counts flags name f) as
            (λ b. cond b (Some f.1.1) (value_at (flagged flags (placed e (merged es) fs)) name) ≡ option_or
            (cond b (Some f.1.1) (value_at (flagged flags fs) name)) left) [
              | true ↦ refl
              | false ↦ rest
            ]
            ∙ ap (λ o. option_or o left) (sym (value_at-flagged flags name f fs))
      ] refl

  pub value_at-merged : (left right : List EntryValue) → names_ascend (pairs_of right) ≡ true
      → value_at (flagged flags (merged left right)) name ≡ option_or (value_at (flagged flags right) name)
      (value_at (flagged flags left) name)
  value_at-merged [] right g = sym (or_none (value_at (flagged flags right) name))
  value_at-merged (e ∷ es) right g = value_at-placed e es (λ fs k. value_at-merged es fs k) right g

pub pairs_of-object : (index : ℕ) (c : Combination) → pairs_of (object_entries index c) ≡ c
pairs_of-object index [] = refl
pairs_of-object index (p ∷ ps) = ap (λ qs. p ∷ qs) (pairs_of-object index ps)

least_from_below : (name : List ℕ) (c : Combination) → below_all name_cmp name c ≡ true → is_least name c ≡ true
least_from_below name [] h = refl
least_from_below name (p ∷ ps) h =
    let parts = and_parts (is_lt (name_cmp name p.0)) (below_all name_cmp name ps) h in
    and_from _ _ (not_from_false _ (not_after name p.0 parts.0)) (least_from_below name ps parts.1)

-- strictly increasing names ascend
pub names_ascend-rise : (c : Combination) → names_rise c ≡ true → names_ascend c ≡ true
names_ascend-rise [] h = refl
names_ascend-rise (p ∷ ps) h = and_from _ _ (least_from_below p.0 ps (below_all_first p ps h)) (names_ascend-rise ps (rise_rest p ps h))

flagged-object : (flags : List Bool) (index : ℕ) (c : Combination)
    → flagged flags (object_entries index c) ≡ cond (get_or flags index false) c []
flagged-object flags index [] = elim (get_or flags index false) as (λ b. ◌≡◌ {A = Combination} [] (cond b [] []))
    [ true ↦ refl | false ↦ refl ]
flagged-object flags index (p ∷ ps) =
    let rest = flagged-object flags index ps in
    elim (get_or flags index false) as
    (λ b. pairs_of (filter (λ e. get_or flags e.0 false) (object_entries index ps)) ≡ cond b ps [] → pairs_of
    (cond b ((index, p) ∷ filter (λ e. get_or flags e.0 false) (object_entries index ps))
    (filter (λ e. get_or flags e.0 false) (object_entries index ps))) ≡ cond b (p ∷ ps) []) [
      | true ↦ λ r. ap (λ qs. p ∷ qs) r
      | false ↦ λ r. r
    ] rest

pub value_at-object : (flags : List Bool) (index : ℕ) (c : Combination) (name : List ℕ)
    → value_at (flagged flags (object_entries index c)) name ≡ cond (get_or flags index false) (value_at c name) None
value_at-object flags index c name =
    ap (λ ps. value_at ps name) (flagged-object flags index c)
    ∙ elim (get_or flags index false) as (λ b. value_at (cond b c []) name ≡ cond b (value_at c name) None) [ true ↦ refl | false ↦ refl ]

-- one object
pub SortsEntries-one : (first : ℕ) (c : Combination) → names_rise c ≡ true → SortsEntries first (c ∷ []) (object_entries first c)
SortsEntries-one first c h = record {
  in_order = ap names_ascend (pairs_of-object first c) ∙ names_ascend-rise c h;
  values = λ flags name. value_at-object flags first c name;
}

added_value-append : (flags : List Bool) (name : List ℕ) (index : ℕ) (cs ds : List Combination)
    → added_value flags index (cs ++ ds) name ≡ option_or (added_value flags (index + length cs) ds name) (added_value flags index cs name)
added_value-append flags name index [] ds =
    let e : index ≡ index + 0 = omega arith in
    ap (λ n. added_value flags n ds name) e ∙ sym (or_none _)
added_value-append flags name index (c ∷ cs) ds =
    let e : index + 1 + length cs ≡ index + suc (length cs) = omega arith in
    ap (λ o. option_or o (cond (get_or flags index false) (value_at c name) None)) (added_value-append flags name (index + 1) cs ds
    ∙ ap (λ n. option_or (added_value flags n ds name) (added_value flags (index + 1) cs name)) e)
    ∙ sym (option_or_assoc (added_value flags (index + suc (length cs)) ds name) (added_value flags (index + 1) cs name)
    (cond (get_or flags index false) (value_at c name) None))

-- the objects of two halves
pub SortsEntries-merged : (first n : ℕ) (objects : List Combination) (left right : List EntryValue) → n ≤ length objects
    → SortsEntries first (take n objects) left → SortsEntries (first + n) (drop n objects) right
    → SortsEntries first objects (merged left right)
SortsEntries-merged first n objects left right h l r = record {
  in_order = names_ascend-merged left right l.in_order r.in_order;
  values = λ flags name.
      let long : length (take n objects) ≡ n = length-take-le n objects h in
      value_at-merged flags name left right r.in_order
      ∙ ap (λ o. option_or o (value_at (flagged flags left) name)) (r.values flags name
      ∙ ap (λ m. added_value flags (first + m) (drop n objects) name) (sym long))
      ∙ ap (option_or (added_value flags (first + length (take n objects)) (drop n objects) name)) (l.values flags name)
      ∙ sym (added_value-append flags name first (take n objects) (drop n objects))
      ∙ ap (λ cs. added_value flags first cs name) (take-append-drop n objects);
}

-- a property of the defined value holds for the value of an Ok
pub ok_gives : {X Y : Type 0} (view : X → Y) (r : Result X Refusal) (y : Y) (P : Y → Type 0) → Gives view r (Ok y) → P y
    → IfOk r (λ x. P (view x))
ok_gives view (Ok x) y P g h = subst P (same_Ok _ _ g) h
ok_gives view (Err e) y P g h = tt

pub only_one : {X : Type 0} (xs : List X) (x : X) → 1 ≤ length xs → length xs < 2 → x ≡ get_or xs 0 x → xs ≡ x ∷ []
only_one [] x a b is = absurd (omega arith)
only_one (y ∷ []) x a b is = ap (λ z. z ∷ []) (sym is)
only_one (y ∷ z ∷ zs) x a b is = absurd (omega arith)
