-- The first pair of each name, for pairs whose names ascend: the names strictly increase, and lookups give the same results.
use Rattle.std.proofs.Common.{◌≡◌, ℕ, ◌+◌, ◌<◌, Bool, true, false, ◌&&◌, not, cond, List, [], ◌∷◌, ◌++◌, map, length, get_or, drop, Option}
use Rattle.std.proofs.Common.{Some, None, refl, sym, ap, ◌∙◌, subst}
use Rattle.std.specs.Cmp.Lexicographic.{texts_ties}
use Rattle.std.specs.Str.{bytes_eq}
use Rattle.std.specs.FinMap.Entries.{below_all}
use Rattle.std.specs.List.{filter}
use Rattle.std.specs.Ordering.{is_lt, is_eq, is_gt}
use Rattle.std.specs.declared.cmp.Ordering.{Ordering}
use Rattle.std.specs.declared.cmp.Ordering.TheVariants.{Less, Equal, Greater}
use Rattle.std.proofs.lemmas.Bool.{and_parts, and_from, true≢false}
use Rattle.std.proofs.lemmas.List.{at_drop_more}
use Rattle.std.proofs.lemmas.Map.Lookups.{exact_bytes}
use Rattle.definitions.specs.Rising.{names_rise}
use Rattle.matrix_expand.specs.Combinations.{Combination, value_at}
use Rattle.matrix_expand.specs.inner.Entries.{is_least, names_ascend, pairs_of, flagged, is_last, firsts_after, merged, object_entries}
use Rattle.matrix_expand.specs.inner.Numbered.{original_at, chosen}
use Rattle.matrix_expand.specs.inner.Values.{AxisValue, EntryValue}
use Rattle.matrix_expand.proofs.Merging.{names_ascend-merged, names_ascend-rise, pairs_of-object}
use Rattle.matrix_expand.proofs.Rising.{same_test, below_all-less, rise_from}
use Rattle.wf_value.proofs.Rising.{Equal-from_is_eq, name_cmp}

module _ (flags : List Bool) where
  -- one more entry
  pub firsts_more : (last : Option (List ℕ)) (e : EntryValue) (es : List EntryValue)
      → firsts_after last (flagged flags (e ∷ es)) ≡ cond (get_or flags e.0 false && not (is_last last e.1.0))
      (e.1 ∷ firsts_after (Some e.1.0) (flagged flags es)) (firsts_after last (flagged flags es))
  firsts_more last e es =
      elim (get_or flags e.0 false) as
      (λ b. firsts_after last
      (pairs_of (cond b (e ∷ filter (λ f. get_or flags f.0 false) es) (filter (λ f. get_or flags f.0 false) es))) ≡ cond
      (b && not (is_last last e.1.0)) (e.1 ∷ firsts_after (Some e.1.0) (flagged flags es))
      (firsts_after last (flagged flags es))) [
        | true ↦ elim (is_last last e.1.0) as
            (λ b. cond b (firsts_after last (flagged flags es)) (e.1 ∷ firsts_after (Some e.1.0) (flagged flags es)) ≡ cond (not b)
            (e.1 ∷ firsts_after (Some e.1.0) (flagged flags es)) (firsts_after last (flagged flags es))) [ true ↦ refl | false ↦ refl ]
        | false ↦ refl
      ]

  pub firsts_drop : (last : Option (List ℕ)) (e : EntryValue) (es : List EntryValue) (i : ℕ) → i < length es → e ≡ get_or es i e
      → firsts_after last (flagged flags (drop i es)) ≡ cond (get_or flags e.0 false && not (is_last last e.1.0))
      (e.1 ∷ firsts_after (Some e.1.0) (flagged flags (drop (i + 1) es))) (firsts_after last (flagged flags (drop (i + 1) es)))
  firsts_drop last e es i l is =
      at_drop_more (λ fs. firsts_after last (flagged flags fs)) es i e l
      ∙ ap (λ f. firsts_after last (flagged flags (f ∷ drop (i + 1) es))) (sym is)
      ∙ firsts_more last e (drop (i + 1) es)

  least_flagged : (name : List ℕ) (es : List EntryValue) → is_least name (pairs_of es) ≡ true → is_least name (flagged flags es) ≡ true
  least_flagged name [] h = refl
  least_flagged name (e ∷ es) h =
      let parts = and_parts (not (is_gt (name_cmp name e.1.0))) (is_least name (pairs_of es)) h in
      let rest = least_flagged name es parts.1 in
      elim (get_or flags e.0 false) as
      (λ b. is_least name (pairs_of (cond b (e ∷ filter (λ f. get_or flags f.0 false) es) (filter (λ f. get_or flags f.0 false) es))) ≡
      true) [
        | true ↦ and_from _ _ parts.0 rest
        | false ↦ rest
      ]

  pub names_ascend-flagged : (es : List EntryValue) → names_ascend (pairs_of es) ≡ true → names_ascend (flagged flags es) ≡ true
  names_ascend-flagged [] h = refl
  names_ascend-flagged (e ∷ es) h =
      let parts = and_parts (is_least e.1.0 (pairs_of es)) (names_ascend (pairs_of es)) h in
      let rest = names_ascend-flagged es parts.1 in
      elim (get_or flags e.0 false) as
      (λ b. names_ascend (pairs_of (cond b (e ∷ filter (λ f. get_or flags f.0 false) es) (filter (λ f. get_or flags f.0 false) es))) ≡
      true) [
        | true ↦ and_from _ _ (least_flagged e.1.0 es parts.0) rest
        | false ↦ rest
      ]

-- a name that is not greater than another and differs from it is less
below_from : (x y : List ℕ) → not (is_gt (name_cmp x y)) ≡ true → bytes_eq x y ≡ false → name_cmp x y ≡ Less
below_from x y h n = go (name_cmp x y) refl h
  where
    go : (o : Ordering) → name_cmp x y ≡ o → not (is_gt o) ≡ true → name_cmp x y ≡ Less
    go Less e k = e
    go Equal e k = absurd (true≢false (sym (ap is_eq e) ∙ sym (texts_ties x y) ∙ n))
    go Greater e k = absurd (true≢false (sym k))

-- the first pairs after a least name: their names are greater than it, and they strictly increase
pub firsts_rise : (last : List ℕ) (ps : Combination) → is_least last ps ≡ true → names_ascend ps ≡ true
    → (below_all name_cmp last (firsts_after (Some last) ps) ≡ true) × (names_rise (firsts_after (Some last) ps) ≡ true)
firsts_rise last [] h k = (refl, refl)
firsts_rise last (p ∷ ps) h k =
    let parts = and_parts (not (is_gt (name_cmp last p.0))) (is_least last ps) h in
    let asc = and_parts (is_least p.0 ps) (names_ascend ps) k in
    let skip = firsts_rise last ps parts.1 asc.1 in
    let take = firsts_rise p.0 ps asc.0 asc.1 in
    elim (bytes_eq last p.0) as
    (λ b. bytes_eq last p.0 ≡ b →
    (below_all name_cmp last (cond b (firsts_after (Some last) ps) (p ∷ firsts_after (Some p.0) ps)) ≡ true) ×
    (names_rise (cond b (firsts_after (Some last) ps) (p ∷ firsts_after (Some p.0) ps)) ≡ true)) [
      | true ↦ λ _. skip
      | false ↦ λ n.
          let below = below_from last p.0 parts.0 n in (
            and_from _ _ (ap is_lt below) (below_all-less last p.0 (firsts_after (Some p.0) ps) below take.0),
            rise_from p
                (firsts_after (Some p.0) ps) take.0 take.1,
          )
    ] refl

pub names_rise-firsts : (ps : Combination) → names_ascend ps ≡ true → names_rise (firsts_after None ps) ≡ true
names_rise-firsts [] h = refl
names_rise-firsts (p ∷ ps) h =
    let asc = and_parts (is_least p.0 ps) (names_ascend ps) h in
    let rest = firsts_rise p.0 ps asc.0 asc.1 in
    rise_from p (firsts_after (Some p.0) ps) rest.0 rest.1

differs_from_last : (last : Option (List ℕ)) (other name : List ℕ) → is_last last other ≡ true → is_last last name ≡ false
    → is_eq (name_cmp name other) ≡ false
differs_from_last None other name t n = absurd (true≢false (sym t))
differs_from_last (Some last) other name t n =
    let same : last ≡ other = exact_bytes last other (Equal-from_is_eq _ (sym (texts_ties last other) ∙ t)) in
    subst (λ m. is_eq (name_cmp name m) ≡ false) same (same_test name last ∙ sym (texts_ties last name) ∙ n)

-- a lookup of a name other than the last one, among the first pairs
value_at_other : (last : Option (List ℕ)) (name : List ℕ) (ps : Combination) → is_last last name ≡ false
    → value_at (firsts_after last ps) name ≡ value_at ps name
value_at_other last name [] n = refl
value_at_other last name (p ∷ ps) n =
    let skip = value_at_other last name ps n in
    elim (is_last last p.0) as
    (λ b. is_last last p.0 ≡ b → value_at (cond b (firsts_after last ps) (p ∷ firsts_after (Some p.0) ps)) name ≡ value_at (p ∷ ps)
    name) [
      | true ↦ λ t. skip ∙ ap (λ b. cond b (Some p.1) (value_at ps name)) (sym (differs_from_last last p.0 name t n))
      | false ↦ λ t. elim (is_eq (name_cmp name p.0)) as
          (λ b. is_eq (name_cmp name p.0) ≡ b → cond b (Some p.1) (value_at (firsts_after (Some p.0) ps) name) ≡ cond b (Some p.1)
          (value_at ps name)) [
            | true ↦ λ _. refl
            | false ↦ λ differs. value_at_other (Some p.0) name ps (texts_ties p.0 name ∙ same_test p.0 name ∙ differs)
          ] refl
    ] refl

pub value_at-firsts : (name : List ℕ) (ps : Combination) → value_at (firsts_after None ps) name ≡ value_at ps name
value_at-firsts name ps = value_at_other None name ps refl

-- a prefix of increasing names
pub names_rise_front : {X : Type 0} (xs ys : List (List ℕ × X)) (p : List ℕ × X) → names_rise (xs ++ p ∷ ys) ≡ true
    → names_rise (xs ++ p ∷ []) ≡ true
names_rise_front [] ys p h = refl
names_rise_front (x ∷ []) ys p h = and_from _ _ (and_parts (is_lt (name_cmp x.0 p.0)) (names_rise (p ∷ ys)) h).0 refl
names_rise_front (x ∷ y ∷ xs) ys p h =
    let parts = and_parts (is_lt (name_cmp x.0 y.0)) (names_rise (y ∷ xs ++ p ∷ ys)) h in
    and_from _ _ parts.0 (names_rise_front (y ∷ xs) ys p parts.1)

-- mapping the values keeps the names
pub names_rise-map : {X Y : Type 0} (f : X → Y) (ps : List (List ℕ × X))
    → names_rise (map (λ (p : List ℕ × X). (p.0, f p.1)) ps) ≡ names_rise ps
names_rise-map f [] = refl
names_rise-map f (p ∷ []) = refl
names_rise-map f (p ∷ q ∷ ps) = ap (λ b. is_lt (name_cmp p.0 q.0) && b) (names_rise-map f (q ∷ ps))

-- the entries of the include objects and of an original ascend
pub names_ascend-final : (axes : List AxisValue) (number index : ℕ) (entries : List EntryValue) → names_ascend (pairs_of entries) ≡ true
    → names_rise axes ≡ true → names_ascend (pairs_of (merged entries (object_entries index (original_at axes number)))) ≡ true
names_ascend-final axes number index entries h g =
    names_ascend-merged entries (object_entries index (original_at axes number)) h
    (ap names_ascend (pairs_of-object index (original_at axes number))
    ∙ names_ascend-rise (original_at axes number) (names_rise-map (λ c. chosen c number) axes ∙ g))
