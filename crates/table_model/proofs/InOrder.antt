-- Lists whose elements strictly increase in an order: where an element stands or would be put, and that it is put in order.
use Rattle.std.specs.Prelude.{◌≡◌, ◌⊎◌, ℕ, zero, suc, ◌+◌, ◌<◌, ◌≤◌, List, [], ◌∷◌, ◌++◌, length, filter, Bool, true, false, cond}
use Rattle.std.specs.Prelude.{Option, Some, None, slice_get, slice_set, refl}
use Rattle.std.specs.Cmp.{IsTotalOrder}
use Rattle.std.specs.List.{AllByRecursion, insert}
use Rattle.std.specs.List.Sorted.{IsPartitionedBy}
use Rattle.std.specs.Ordering.{is_lt, ordering_reverse}
use Rattle.std.specs.declared.cmp.Ordering.{Ordering}
use Rattle.std.specs.declared.cmp.Ordering.TheVariants.{Less, Equal, Greater}
use Rattle.std.proofs.Common.{arith, ap, sym, ◌∙◌, subst, inl, inr, get_or, length-append}
use Rattle.std.proofs.lemmas.Bool.{and_from, and_parts, cases_lt}
use Rattle.wf_value.proofs.Rising.{Less-from_is_lt}
use Rattle.table_model.specs.Forgotten.{increases, put_in_order}
use Rattle.table_model.proofs.Filters.{all_filter, all_pass, filter_all, filter_drops, filter_keeps, filter_none}
use Rattle.table_model.proofs.Found.{all_append, all_weaken, each_at}

-- ---- the seam of two lists

pub at_the_seam : {X : Type 0} (prefix back : List X) → slice_get (prefix ++ back) (length prefix) ≡ slice_get back 0
at_the_seam [] back = refl
at_the_seam (x ∷ prefix) back = at_the_seam prefix back

set_at_the_seam : {X : Type 0} (prefix back : List X) (x y : X) → slice_set (prefix ++ x ∷ back) (length prefix) y ≡ prefix ++ y ∷ back
set_at_the_seam [] back x y = refl
set_at_the_seam (z ∷ prefix) back x y = ap (λ ys. z ∷ ys) (set_at_the_seam prefix back x y)

inserted_at_the_seam : {X : Type 0} (prefix back : List X) (y : X) → insert (prefix ++ back) (length prefix) y ≡ prefix ++ y ∷ back
inserted_at_the_seam [] back y = refl
inserted_at_the_seam (z ∷ prefix) back y = ap (λ ys. z ∷ ys) (inserted_at_the_seam prefix back y)

module _ {X : Type 0} (order : X → X → Ordering) (total : IsTotalOrder order) where
  abbrev pub before : X → X → Bool
  before x y = is_lt (order y x)

  abbrev pub after : X → X → Bool
  after x y = is_lt (order x y)

  -- ---- two elements

  pub after_greater : (x y : X) → order x y ≡ Greater → order y x ≡ Less
  after_greater x y h = total.antisymm y x ∙ ap ordering_reverse h

  pub after_less : (x y : X) → order x y ≡ Less → order y x ≡ Greater
  after_less x y h = total.antisymm y x ∙ ap ordering_reverse h

  pub after_equal : (x y : X) → order x y ≡ Equal → order y x ≡ Equal
  after_equal x y h = total.antisymm y x ∙ ap ordering_reverse h

  -- ---- elements after one

  abbrev pub AreAfter : X → List X → Type 0
  AreAfter x xs = AllByRecursion (λ y. order x y ≡ Less) xs

  all_after : (x y : X) (ys : List X) → order x y ≡ Less → AreAfter y ys → AreAfter x ys
  all_after x y ys lt = all_weaken (λ z. order y z ≡ Less) (λ z. order x z ≡ Less) (λ z more. total.trans x y z lt more) ys

  same_after : (x y : X) (ys : List X) → order x y ≡ Equal → AreAfter x ys → AreAfter y ys
  same_after x y ys same = all_weaken (λ z. order x z ≡ Less) (λ z. order y z ≡ Less) (λ z lt. sym (total.congr x y z same) ∙ lt) ys

  pub next_increases : (x y : X) (ys : List X) → increases order (x ∷ y ∷ ys) ≡ true → order x y ≡ Less
  next_increases x y ys h = Less-from_is_lt _ (and_parts (is_lt (order x y)) (increases order (y ∷ ys)) h).0

  pub rest_increases : (x : X) (xs : List X) → increases order (x ∷ xs) ≡ true → increases order xs ≡ true
  rest_increases x [] h = refl
  rest_increases x (y ∷ ys) h = (and_parts (is_lt (order x y)) (increases order (y ∷ ys)) h).1

  pub after_the_first : (x : X) (xs : List X) → increases order (x ∷ xs) ≡ true → AreAfter x xs
  after_the_first x [] h = tt
  after_the_first x (y ∷ ys) h =
      let next = next_increases x y ys h in
      (next, all_after x y ys next (after_the_first y ys (rest_increases x (y ∷ ys) h)))

  pub increases_from : (x : X) (xs : List X) → AreAfter x xs → increases order xs ≡ true → increases order (x ∷ xs) ≡ true
  increases_from x [] later h = refl
  increases_from x (y ∷ ys) later h = and_from _ _ (ap is_lt later.0) h

  -- ---- the elements around one

  -- the element that is equal to it, or none, stands before those after it
  pub record IsThere (xs : List X) (x : X) (back : List X) : Type 0 where
    pub element : X
    pub is : back ≡ element ∷ filter (after x) xs
    pub equal : order element x ≡ Equal

  pub record Around (xs : List X) (x : X) : Type 0 where
    pub back : List X
    pub whole : xs ≡ filter (before x) xs ++ back
    pub ends : IsThere xs x back ⊎ (back ≡ filter (after x) xs)

  first_before : (y : X) (ys : List X) (x : X) → order y x ≡ Less → Around ys x → Around (y ∷ ys) x
  first_before y ys x lt a =
      let is_before : before x y ≡ true = ap is_lt lt in
      let not_after : after x y ≡ false = ap is_lt (after_less y x lt) in
      let later = filter_drops (after x) y ys not_after in
      record {
        back = a.back;
        whole = ap (λ zs. y ∷ zs) a.whole ∙ ap (λ zs. zs ++ a.back) (sym (filter_keeps (before x) y ys is_before));
        ends = elim a.ends [
          | inl there ↦ inl (record {
            element = there.element;
            is = there.is ∙ ap (λ zs. there.element ∷ zs) (sym later);
            equal = there.equal;
          })
          | inr absent ↦ inr (absent ∙ sym later)
        ];
      }

  none_before : (xs : List X) (x : X) → AreAfter x xs → filter (before x) xs ≡ []
  none_before xs x later =
      filter_none (before x) xs (all_weaken (λ y. order x y ≡ Less) (λ y. before x y ≡ false) (λ y lt. ap is_lt (after_less x y lt)) xs later)

  all_are_after : (xs : List X) (x : X) → AreAfter x xs → filter (after x) xs ≡ xs
  all_are_after xs x later =
      filter_all (after x) xs (all_weaken (λ y. order x y ≡ Less) (λ y. after x y ≡ true) (λ y lt. ap is_lt lt) xs later)

  all_later : (xs : List X) (x : X) → AreAfter x xs → Around xs x
  all_later xs x later = record {
    back = xs;
    whole = ap (λ ys. ys ++ xs) (sym (none_before xs x later));
    ends = inr (sym (all_are_after xs x later));
  }

  first_equal : (y : X) (ys : List X) (x : X) → order y x ≡ Equal → AreAfter x ys → Around (y ∷ ys) x
  first_equal y ys x same later =
      let not_before : before x y ≡ false = ap is_lt same in
      let not_after : after x y ≡ false = ap is_lt (after_equal y x same) in
      record {
        back = y ∷ ys;
        whole = ap (λ zs. zs ++ (y ∷ ys)) (sym (filter_drops (before x) y ys not_before ∙ none_before ys x later));
        ends = inl (record {
          element = y;
          is = ap (λ zs. y ∷ zs) (sym (filter_drops (after x) y ys not_after ∙ all_are_after ys x later));
          equal = same;
        });
      }

  pub around : (xs : List X) (x : X) → increases order xs ≡ true → Around xs x
  around [] x h = record { back = []; whole = refl; ends = inr refl }
  around (y ∷ ys) x h =
      let later = after_the_first y ys h in
      elim (order y x) as (λ o. order y x ≡ o → Around (y ∷ ys) x) [
        | Less ↦ λ lt. first_before y ys x lt (around ys x (rest_increases y ys h))
        | Equal ↦ λ same. first_equal y ys x same (same_after y x ys same later)
        | Greater ↦ λ gt. let less = after_greater y x gt in all_later (y ∷ ys) x (less, all_after x y ys less later)
      ] refl

  -- ---- it is put in order

  increases_filtered : (test : X → Bool) (xs : List X) → increases order xs ≡ true → increases order (filter test xs) ≡ true
  increases_filtered test [] h = refl
  increases_filtered test (x ∷ xs) h =
      let rest = increases_filtered test xs (rest_increases x xs h) in
      elim (test x) as (λ b. increases order (cond b (x ∷ filter test xs) (filter test xs)) ≡ true) [
        | true ↦ increases_from x (filter test xs) (all_filter test (λ y. order x y ≡ Less) xs (after_the_first x xs h)) rest
        | false ↦ rest
      ]

  increases_around : (prefix back : List X) (x : X) → increases order prefix ≡ true → AllByRecursion (λ y. before x y ≡ true) prefix
      → increases order back ≡ true → AreAfter x back → increases order (prefix ++ x ∷ back) ≡ true
  increases_around [] back x h earlier k later = increases_from x back later k
  increases_around (y ∷ prefix) back x h earlier k later =
      let lt : order y x ≡ Less = Less-from_is_lt _ earlier.0 in
      increases_from y (prefix ++ x ∷ back)
      (all_append (λ z. order y z ≡ Less) prefix (x ∷ back) (after_the_first y prefix h) (lt, all_after y x back lt later))
      (increases_around prefix back x (rest_increases y prefix h) earlier.1 k later)

  pub put_increases : (xs : List X) (x : X) → increases order xs ≡ true → increases order (put_in_order order xs x) ≡ true
  put_increases xs x h =
      increases_around (filter (before x) xs) (filter (after x) xs) x (increases_filtered (before x) xs h) (all_pass (before x) xs)
      (increases_filtered (after x) xs h)
      (all_weaken (λ y. after x y ≡ true) (λ y. order x y ≡ Less) (λ y e. Less-from_is_lt _ e) (filter (after x) xs) (all_pass (after x) xs))

  -- ---- a search for its index

  each_is_after : (x : X) (xs : List X) (j : ℕ) (d : X) → AreAfter x xs → j < length xs → order x (get_or xs j d) ≡ Less
  each_is_after x [] j d later within = absurd (omega (arith, within))
  each_is_after x (y ∷ ys) zero d later within = later.0
  each_is_after x (y ∷ ys) (suc j) d later within = each_is_after x ys j d later.1 (omega (arith, within))

  earlier_is_before : (xs : List X) (i j : ℕ) (d : X) → increases order xs ≡ true → i < j → j < length xs
      → order (get_or xs i d) (get_or xs j d) ≡ Less
  earlier_is_before [] i j d h lt within = absurd (omega (arith, within))
  earlier_is_before (x ∷ xs) i zero d h lt within = absurd (omega (arith, lt))
  earlier_is_before (x ∷ xs) zero (suc j) d h lt within = each_is_after x xs j d (after_the_first x xs h) (omega (arith, within))
  earlier_is_before (x ∷ xs) (suc i) (suc j) d h lt within =
      earlier_is_before xs i j d (rest_increases x xs h) (omega (arith, lt)) (omega (arith, within))

  -- an element before one that is before it is before it too
  pub parted : (xs : List X) (x : X) → increases order xs ≡ true → IsPartitionedBy (before x) xs
  parted xs x h i j d le within is =
      elim (cases_lt i j) [
        | inl lt ↦
            ap is_lt (total.trans (get_or xs i d) (get_or xs j d) x (earlier_is_before xs i j d h lt within) (Less-from_is_lt _ is))
        | inr not_lt ↦
            let same : i ≡ j = omega (arith, le, not_lt) in
            subst (λ (k : ℕ). before x (get_or xs k d) ≡ true) (sym same) is
      ]

  module _ (xs : List X) (x : X) (h : increases order xs ≡ true) (index : ℕ) (at : index ≡ length (filter (before x) xs)) where
    pub index_in_range : index ≤ length xs
    index_in_range =
        let a = around xs x h in
        let long = ap length a.whole ∙ length-append (filter (before x) xs) a.back in
        omega (arith, at, long)

    stands : slice_get xs index ≡ slice_get (around xs x h).back 0
    stands =
        let a = around xs x h in
        ap (slice_get xs) at ∙ ap (λ ys. slice_get ys (length (filter (before x) xs))) a.whole ∙ at_the_seam (filter (before x) xs) a.back

    -- the element at the index is equal to it, or after it
    pub not_after_is_equal : (y : X) → slice_get xs index ≡ Some y → after x y ≡ false → order y x ≡ Equal
    not_after_is_equal y here not_after =
        let a = around xs x h in
        let first : slice_get a.back 0 ≡ Some y = sym stands ∙ here in
        elim a.ends [
          | inl there ↦
              let same : Some there.element ≡ Some y = sym (ap (λ ys. slice_get ys 0) there.is) ∙ first in
              let is : there.element ≡ y = cc in
              subst (λ (z : X). order z x ≡ Equal) is there.equal
          | inr absent ↦
              let passes = each_at (λ z. after x z ≡ true) (filter (after x) xs) 0 y (all_pass (after x) xs)
              (ap (λ ys. slice_get ys 0) (sym absent) ∙ first) in
              cc
        ]

    -- where an equal element stands, it is put in its place
    pub put_over : (y : X) → slice_get xs index ≡ Some y → order y x ≡ Equal → slice_set xs index x ≡ put_in_order order xs x
    put_over y here equal =
        let a = around xs x h in
        let prefix = filter (before x) xs in
        let first : slice_get a.back 0 ≡ Some y = sym stands ∙ here in
        elim a.ends [
          | inl there ↦
              ap (λ n. slice_set xs n x) at
              ∙ ap (λ ys. slice_set ys (length prefix) x) (a.whole ∙ ap (λ back. prefix ++ back) there.is)
              ∙ set_at_the_seam prefix (filter (after x) xs) there.element x
          | inr absent ↦
              let passes : after x y ≡ true = each_at (λ z. after x z ≡ true) (filter (after x) xs) 0 y (all_pass (after x) xs)
              (ap (λ ys. slice_get ys 0) (sym absent) ∙ first) in
              let fails : after x y ≡ false = ap is_lt (after_equal y x equal) in
              cc
        ]

    -- where none stands, it is put between the others
    pub put_between : ((y : X) → slice_get xs index ≡ Some y → after x y ≡ true) → insert xs index x ≡ put_in_order order xs x
    put_between none =
        let a = around xs x h in
        let prefix = filter (before x) xs in
        elim a.ends [
          | inl there ↦
              let here : slice_get xs index ≡ Some there.element = stands ∙ ap (λ ys. slice_get ys 0) there.is in
              let passes = none there.element here in
              let fails : after x there.element ≡ false = ap is_lt (after_equal there.element x there.equal) in
              cc
          | inr absent ↦
              ap (λ n. insert xs n x) at
              ∙ ap (λ ys. insert ys (length prefix) x) (a.whole ∙ ap (λ back. prefix ++ back) absent)
              ∙ inserted_at_the_seam prefix (filter (after x) xs) x
        ]
