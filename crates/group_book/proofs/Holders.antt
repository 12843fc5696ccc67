-- A book that is right for all that have arrived and have not ended stays right.
use Rattle.std.proofs.Common.{◌≡◌, ◌↔◌, List, [], ◌∷◌, ◌++◌, filter, Bool, true, false, ◌&&◌, not, cond, if◌then◌else◌, Option, None, Some, refl, sym, ap, ap₂, subst, ◌∙◌, true≢false}
use Rattle.std.specs.Option.{option_to_list}
use Rattle.std.proofs.lemmas.Bool.{and_parts}
use Rattle.std.proofs.lemmas.List.Elements.{filter-append}
use Rattle.std.proofs.lemmas.List.{append-nil}
use Rattle.group_name.specs.Group.{Group, same_group}
use Rattle.group_name.proofs.SameGroups.{own_group, same_is_one}
use Rattle.group_book.specs.Books.{Puts, slot_in}
use Rattle.group_book.specs.Holders.{Arrived, IsBookOf, after_arrival, after_end, after_start, begun_in, holders, in_progress_in, is_in_progress, is_pending, pending_in}
use Rattle.group_book.specs.Slots.{HasLeft, HasLost, begun, with_newcomer}
use Rattle.group_book.specs.declared.slot.Slot.{Slot}

-- ---- lists

module _ {X : Type 0} (p q : X → Bool) where
  -- of the elements that pass `q`, those that pass `p`, where `q` keeps each of them, or none
  pub kept_twice : ((x : X) → p x ≡ true → q x ≡ true) → (xs : List X) → filter p (filter q xs) ≡ filter p xs
  kept_twice keeps [] = refl
  kept_twice keeps (x ∷ xs) = by (q x) (p x) refl refl (kept_twice keeps xs)
    where
      by : (b c : Bool) → q x ≡ b → p x ≡ c → filter p (filter q xs) ≡ filter p xs → filter p (filter q (x ∷ xs)) ≡ filter p (x ∷ xs)
      by true c passes is rest = ap (λ d. filter p (cond d (x ∷ filter q xs) (filter q xs))) passes
          ∙ ap (λ ys. cond (p x) (x ∷ ys) ys) rest
      by false true passes is rest = absurd (true≢false (sym (keeps x is) ∙ passes))
      by false false passes is rest = ap (λ d. filter p (cond d (x ∷ filter q xs) (filter q xs))) passes
          ∙ rest ∙ sym (ap (λ d. cond d (x ∷ filter p xs) (filter p xs)) is)

  pub none_left : ((x : X) → p x ≡ true → q x ≡ false) → (xs : List X) → filter p (filter q xs) ≡ []
  none_left drops [] = refl
  none_left drops (x ∷ xs) = by (q x) (p x) refl refl (none_left drops xs)
    where
      by : (b c : Bool) → q x ≡ b → p x ≡ c → filter p (filter q xs) ≡ [] → filter p (filter q (x ∷ xs)) ≡ []
      by true true passes is rest = absurd (true≢false (sym passes ∙ drops x is))
      by true false passes is rest = ap (λ d. filter p (cond d (x ∷ filter q xs) (filter q xs))) passes
          ∙ ap (λ d. cond d (x ∷ filter p (filter q xs)) (filter p (filter q xs))) is ∙ rest
      by false c passes is rest = ap (λ d. filter p (cond d (x ∷ filter q xs) (filter q xs))) passes ∙ rest

-- ---- one group and another

other_way : (g k : Group) → same_group g k ≡ false → same_group k g ≡ false
other_way g k not = by (same_group k g) refl
  where
    by : (b : Bool) → same_group k g ≡ b → same_group k g ≡ false
    by true same = absurd (true≢false (sym (own_group g) ∙ subst (λ o. same_group g o ≡ false) (same_is_one k g same) not))
    by false same = same

apart : (g k other : Group) → same_group g k ≡ false → same_group k other ≡ true → same_group g other ≡ false
apart g k other not same = subst (λ o. same_group g o ≡ false) (same_is_one k other same) not

not_of : (b : Bool) → b ≡ false → not b ≡ true
not_of true h = cc
not_of false h = refl

not_true : (b : Bool) → b ≡ true → not b ≡ false
not_true true h = refl
not_true false h = cc

waits_not : (b : Bool) → not b ≡ true → b ≡ false
waits_not true h = cc
waits_not false h = refl

and_false : (b c : Bool) → b ≡ false → (b && c) ≡ false
and_false true c h = cc
and_false false c h = refl

and_false_too : (b c : Bool) → c ≡ false → (b && c) ≡ false
and_false_too true c h = h
and_false_too false c h = refl

module _ {H : Type 0} where
  there : (g : Group) (a : Arrived H) (b : Bool) → (same_group g a.group && b) ≡ true → same_group g a.group ≡ true
  there g a b is = (and_parts (same_group g a.group) b is).0

  -- one that is in progress in a group is pending in none
  in_progress_only : (g k : Group) (a : Arrived H) → is_in_progress k a ≡ true → is_pending g a ≡ false
  in_progress_only g k a is = and_false_too (same_group g a.group) a.waits (waits_not a.waits (and_parts (same_group k a.group) (not a.waits) is).1)

  -- one that is in a group is in no other
  not_pending_elsewhere : (g k : Group) (a : Arrived H) → same_group g k ≡ false → same_group k a.group ≡ true → is_pending g a ≡ false
  not_pending_elsewhere g k a not same = and_false (same_group g a.group) a.waits (apart g k a.group not same)

  -- ---- an arrival

  module _ (old new : List (Group × Slot H)) (g : Group) (newcomer : H)
      (puts : Puts g (with_newcomer newcomer (slot_in old g)) old new) where
    abbrev one : Arrived H
    one = record { group = g; holder = newcomer; waits = true }

    abbrev stays : Arrived H → Bool
    stays a = not (is_pending g a)

    slot_there : (k : Group) → same_group g k ≡ true → slot_in new k ≡ with_newcomer newcomer (slot_in old g)
    slot_there k same = puts k ∙ ap (λ b. if b then with_newcomer newcomer (slot_in old g) else slot_in old k) same

    slot_elsewhere : (k : Group) → same_group g k ≡ false → slot_in new k ≡ slot_in old k
    slot_elsewhere k not = puts k ∙ ap (λ b. if b then with_newcomer newcomer (slot_in old g) else slot_in old k) not

    pending_after : (all : List (Arrived H)) → IsBookOf all old → (k : Group)
        → holders (pending_in k (after_arrival g newcomer all)) ≡ option_to_list (slot_in new k).pending
    pending_after all right k = ap holders (filter-append (is_pending k) (filter stays all) (one ∷ [])) ∙ by (same_group g k) refl
      where
        by : (b : Bool) → same_group g k ≡ b
            → holders (filter (is_pending k) (filter stays all) ++ filter (is_pending k) (one ∷ [])) ≡ option_to_list (slot_in new k).pending
        by true same =
            let is = same_is_one g k same in
            let mine : same_group k g ≡ true = subst (λ o. same_group o g ≡ true) is (own_group g) in
            let gone : (a : Arrived H) → is_pending k a ≡ true → stays a ≡ false =
            λ a here. not_true (is_pending g a) (subst (λ o. is_pending o a ≡ true) (sym is) here) in
            ap₂ (λ xs b. holders (xs ++ cond (b && true) (one ∷ []) [])) (none_left (is_pending k) stays gone all) mine
            ∙ sym (ap (λ (s : Slot H). option_to_list s.pending) (slot_there k same))
        by false not =
            let keeps : (a : Arrived H) → is_pending k a ≡ true → stays a ≡ true =
            λ a here. not_of (is_pending g a) (not_pending_elsewhere g k a not (there k a a.waits here)) in
            ap₂ (λ xs b. holders (xs ++ cond (b && true) (one ∷ []) [])) (kept_twice (is_pending k) stays keeps all) (other_way g k not)
            ∙ ap holders (append-nil (pending_in k all)) ∙ right.pending k
            ∙ sym (ap (λ (s : Slot H). option_to_list s.pending) (slot_elsewhere k not))

    in_progress_after : (all : List (Arrived H)) → IsBookOf all old → (k : Group)
        → holders (in_progress_in k (after_arrival g newcomer all)) ≡ option_to_list (slot_in new k).in_progress
    in_progress_after all right k =
        let keeps : (a : Arrived H) → is_in_progress k a ≡ true → stays a ≡ true =
        λ a here. not_of (is_pending g a) (in_progress_only g k a here) in
        ap holders (filter-append (is_in_progress k) (filter stays all) (one ∷ []))
        ∙ ap₂ (λ xs b. holders (xs ++ cond b (one ∷ []) [])) (kept_twice (is_in_progress k) stays keeps all) (and_false_too (same_group k g) false refl)
        ∙ ap holders (append-nil (in_progress_in k all)) ∙ right.in_progress k ∙ by (same_group g k) refl
      where
        by : (b : Bool) → same_group g k ≡ b → option_to_list (slot_in old k).in_progress ≡ option_to_list (slot_in new k).in_progress
        by true same =
            ap (λ o. option_to_list (slot_in old o).in_progress) (sym (same_is_one g k same))
            ∙ sym (ap (λ (s : Slot H). option_to_list s.in_progress) (slot_there k same))
        by false not = sym (ap (λ (s : Slot H). option_to_list s.in_progress) (slot_elsewhere k not))

    pub right_after_arrival : (all : List (Arrived H)) → IsBookOf all old → IsBookOf (after_arrival g newcomer all) new
    right_after_arrival all right = record { pending = pending_after all right; in_progress = in_progress_after all right }

  -- ---- a start

  abbrev begun_if : Bool → Arrived H → Arrived H
  begun_if b a = if b then record { group = a.group; holder = a.holder; waits = false } else a

  -- where nobody is in progress in the group, those that are in progress after the start are those that were pending
  begun_here : (g : Group) (a : Arrived H) → is_in_progress g a ≡ false
      → (is_in_progress g (begun_in g a) ≡ is_pending g a) × (is_pending g (begun_in g a) ≡ false)
  begun_here g a none = by (is_pending g a) refl
    where
      by : (b : Bool) → is_pending g a ≡ b → (is_in_progress g (begun_in g a) ≡ is_pending g a) × (is_pending g (begun_in g a) ≡ false)
      by true is =
          let same = there g a a.waits is in
          let begins : begun_in g a ≡ begun_if true a = ap (λ b. begun_if b a) is in (
            ap (is_in_progress g) begins ∙ ap (λ b. b && true) same ∙ sym is,
            ap (is_pending g) begins ∙ and_false_too (same_group g a.group) false refl,
          )
      by false is =
          let stays_so : begun_in g a ≡ a = ap (λ b. begun_if b a) is in
          (ap (is_in_progress g) stays_so ∙ none ∙ sym is, ap (is_pending g) stays_so ∙ is)

  begun_elsewhere : (g k : Group) (a : Arrived H) → same_group g k ≡ false
      → (is_in_progress k (begun_in g a) ≡ is_in_progress k a) × (is_pending k (begun_in g a) ≡ is_pending k a)
  begun_elsewhere g k a other = by (is_pending g a) refl
    where
      by : (b : Bool) → is_pending g a ≡ b → (is_in_progress k (begun_in g a) ≡ is_in_progress k a) × (is_pending k (begun_in g a) ≡ is_pending k a)
      by true is =
          let begins : begun_in g a ≡ begun_if true a = ap (λ b. begun_if b a) is in
          let off = apart k g a.group (other_way g k other) (there g a a.waits is) in (
            ap (is_in_progress k) begins ∙ and_false (same_group k a.group) true off ∙ sym (and_false (same_group k a.group) (not a.waits) off),
            ap (is_pending k) begins ∙ and_false (same_group k a.group) false off ∙ sym (and_false (same_group k a.group) a.waits off),
          )
      by false is =
          let stays_so : begun_in g a ≡ a = ap (λ b. begun_if b a) is in
          (ap (is_in_progress k) stays_so, ap (is_pending k) stays_so)

  same_holder : (g : Group) (a : Arrived H) → (begun_in g a).holder ≡ a.holder
  same_holder g a = by (is_pending g a)
    where
      by : (b : Bool) → (begun_if b a).holder ≡ a.holder
      by true = refl
      by false = refl

  -- the holders that pass a test after the start are those that passed another one before
  mapped : (g : Group) (p q : Arrived H → Bool) → ((a : Arrived H) → p (begun_in g a) ≡ q a) → (all : List (Arrived H))
      → holders (filter p (after_start g all)) ≡ holders (filter q all)
  mapped g p q same [] = refl
  mapped g p q same (a ∷ all) =
      ap (λ b. holders (cond b (begun_in g a ∷ filter p (after_start g all)) (filter p (after_start g all)))) (same a) ∙ by (q a) (mapped g p q same all)
    where
      by : (b : Bool) → holders (filter p (after_start g all)) ≡ holders (filter q all) → holders (cond b (begun_in g a ∷ filter p (after_start g all)) (filter p (after_start g all)))
          ≡ holders (cond b (a ∷ filter q all) (filter q all))
      by true rest = ap₂ (λ h hs. h ∷ hs) (same_holder g a) rest
      by false rest = rest

  -- the same, where no element passes a third test
  mapped_where : (g : Group) (p q r : Arrived H → Bool) → ((a : Arrived H) → r a ≡ false → p (begun_in g a) ≡ q a) → (all : List (Arrived H))
      → holders (filter r all) ≡ [] → holders (filter p (after_start g all)) ≡ holders (filter q all)
  mapped_where g p q r same [] none = refl
  mapped_where g p q r same (a ∷ all) none = on (r a) refl (λ off. mapped_where g p q r same all (rest off))
    where
      rest : r a ≡ false → holders (filter r all) ≡ []
      rest off = sym (ap (λ b. holders (cond b (a ∷ filter r all) (filter r all))) off) ∙ none

      by : (b : Bool) → holders (filter p (after_start g all)) ≡ holders (filter q all) → holders (cond b (begun_in g a ∷ filter p (after_start g all)) (filter p (after_start g all)))
          ≡ holders (cond b (a ∷ filter q all) (filter q all))
      by true later = ap₂ (λ h hs. h ∷ hs) (same_holder g a) later
      by false later = later

      on : (b : Bool) → r a ≡ b → (r a ≡ false → holders (filter p (after_start g all)) ≡ holders (filter q all))
          → holders (filter p (after_start g (a ∷ all))) ≡ holders (filter q (a ∷ all))
      on true is again = absurd (filled (sym (ap (λ b. holders (cond b (a ∷ filter r all) (filter r all))) is) ∙ none))
        where
          filled : a.holder ∷ holders (filter r all) ≡ [] → ⊥
          filled h = cc
      on false off again =
          ap (λ b. holders (cond b (begun_in g a ∷ filter p (after_start g all)) (filter p (after_start g all)))) (same a off)
          ∙ by (q a) (again off)

  empty_list : (all : List (Arrived H)) → holders (filter (λ a. false) all) ≡ []
  empty_list [] = refl
  empty_list (a ∷ all) = empty_list all

  module _ (old new : List (Group × Slot H)) (g : Group) (free : (slot_in old g).in_progress ≡ None)
      (puts : Puts g (begun (slot_in old g)) old new) where
    begun_slot : (k : Group) → same_group g k ≡ true → slot_in new k ≡ begun (slot_in old g)
    begun_slot k same = puts k ∙ ap (λ b. if b then begun (slot_in old g) else slot_in old k) same

    other_slot : (k : Group) → same_group g k ≡ false → slot_in new k ≡ slot_in old k
    other_slot k not = puts k ∙ ap (λ b. if b then begun (slot_in old g) else slot_in old k) not

    none_here : (all : List (Arrived H)) → IsBookOf all old → holders (in_progress_in g all) ≡ []
    none_here all right = right.in_progress g ∙ ap option_to_list free

    pub right_after_start : (all : List (Arrived H)) → IsBookOf all old → IsBookOf (after_start g all) new
    right_after_start all right = record { pending = λ k. pending_of k (same_group g k) refl; in_progress = λ k. in_progress_of k (same_group g k) refl }
      where
        pending_of : (k : Group) (b : Bool) → same_group g k ≡ b → holders (pending_in k (after_start g all)) ≡ option_to_list (slot_in new k).pending
        pending_of k true same =
            let is = same_is_one g k same in
            subst (λ o. holders (pending_in o (after_start g all)) ≡ []) is
            (mapped_where g (is_pending g) (λ a. false) (is_in_progress g) (λ a none. (begun_here g a none).1) all (none_here all right)
            ∙ empty_list all)
            ∙ sym (ap (λ (s : Slot H). option_to_list s.pending) (begun_slot k same))
        pending_of k false not =
            mapped g (is_pending k) (is_pending k) (λ a. (begun_elsewhere g k a not).1) all ∙ right.pending k
            ∙ sym (ap (λ (s : Slot H). option_to_list s.pending) (other_slot k not))

        in_progress_of : (k : Group) (b : Bool) → same_group g k ≡ b
            → holders (in_progress_in k (after_start g all)) ≡ option_to_list (slot_in new k).in_progress
        in_progress_of k true same =
            let is = same_is_one g k same in
            subst (λ o. holders (in_progress_in o (after_start g all)) ≡ option_to_list (slot_in old g).pending) is
            (mapped_where g (is_in_progress g) (is_pending g) (is_in_progress g) (λ a none. (begun_here g a none).0) all (none_here all right)
            ∙ right.pending g)
            ∙ sym (ap (λ (s : Slot H). option_to_list s.in_progress) (begun_slot k same))
        in_progress_of k false not =
            mapped g (is_in_progress k) (is_in_progress k) (λ a. (begun_elsewhere g k a not).0) all ∙ right.in_progress k
            ∙ sym (ap (λ (s : Slot H). option_to_list s.in_progress) (other_slot k not))

  -- ---- an end

  -- a place that lost a holder has the others
  lost_place : (is : H → Bool) (h : H) → ((k : H) → (is k ≡ true) ↔ (k ≡ h)) → (old new : Option H) → HasLost h old new
      → filter (λ k. not (is k)) (option_to_list old) ≡ option_to_list new
  lost_place is h tells None None lost = refl
  lost_place is h tells None (Some k) lost = absurd (no ((lost k).0 refl).0)
    where
      no : None ≡ Some k → ⊥
      no x = cc
  lost_place is h tells (Some k) new lost = by (is k) refl new lost
    where
      by : (b : Bool) → is k ≡ b → (new : Option H) → HasLost h (Some k) new → cond (not (is k)) (k ∷ []) [] ≡ option_to_list new
      by true mine None lost = ap (λ b. cond (not b) (k ∷ []) []) mine
      by true mine (Some m) lost =
          let was = (lost m).0 refl in
          absurd (was.1 (sym (one k m was.0) ∙ (tells k).0 mine))
        where
          one : (x y : H) → Some x ≡ Some y → x ≡ y
          one x y e = cc
      by false other None lost =
          absurd (no ((lost k).1 (refl, λ same. true≢false (sym ((tells k).1 same) ∙ other))))
        where
          no : None ≡ Some k → ⊥
          no x = cc
      by false other (Some m) lost =
          ap (λ b. cond (not b) (k ∷ []) []) other ∙ ap (λ x. x ∷ []) (one k m ((lost m).0 refl).0)
        where
          one : (x y : H) → Some x ≡ Some y → x ≡ y
          one x y e = cc

  -- of the holders in the group that pass a test, those that stay
  stay_here : (g : Group) (is : H → Bool) (p : Arrived H → Bool) → ((a : Arrived H) → p a ≡ true → same_group g a.group ≡ true)
      → (all : List (Arrived H)) → holders (filter p (after_end g is all)) ≡ filter (λ k. not (is k)) (holders (filter p all))
  stay_here g is p mine [] = refl
  stay_here g is p mine (a ∷ all) = by (p a) (same_group g a.group) (is a.holder) refl refl refl (stay_here g is p mine all)
    where
      by : (b c d : Bool) → p a ≡ b → same_group g a.group ≡ c → is a.holder ≡ d
          → holders (filter p (after_end g is all)) ≡ filter (λ k. not (is k)) (holders (filter p all))
          → holders (filter p (after_end g is (a ∷ all))) ≡ filter (λ k. not (is k)) (holders (filter p (a ∷ all)))
      by true false d here off e rest = absurd (true≢false (sym (mine a here) ∙ off))
      by true true true here same e rest =
          ap₂ (λ x y. holders (filter p (cond (not (x && y)) (a ∷ after_end g is all) (after_end g is all)))) same e
          ∙ rest
          ∙ sym (ap (λ x. filter (λ k. not (is k)) (holders (cond x (a ∷ filter p all) (filter p all)))) here
          ∙ ap (λ x. cond (not x) (a.holder ∷ filter (λ k. not (is k)) (holders (filter p all))) (filter (λ k. not (is k)) (holders (filter p all)))) e)
      by true true false here same e rest =
          ap₂ (λ x y. holders (filter p (cond (not (x && y)) (a ∷ after_end g is all) (after_end g is all)))) same e
          ∙ ap (λ x. holders (cond x (a ∷ filter p (after_end g is all)) (filter p (after_end g is all)))) here
          ∙ ap (λ hs. a.holder ∷ hs) rest
          ∙ sym (ap (λ x. filter (λ k. not (is k)) (holders (cond x (a ∷ filter p all) (filter p all)))) here
          ∙ ap (λ x. cond (not x) (a.holder ∷ filter (λ k. not (is k)) (holders (filter p all))) (filter (λ k. not (is k)) (holders (filter p all)))) e)
      by false c d here same e rest = left (same_group g a.group && is a.holder)
          ∙ rest ∙ sym (ap (λ x. filter (λ k. not (is k)) (holders (cond x (a ∷ filter p all) (filter p all)))) here)
        where
          left : (x : Bool) → holders (filter p (cond (not x) (a ∷ after_end g is all) (after_end g is all))) ≡ holders (filter p (after_end g is all))
          left true = refl
          left false = ap (λ y. holders (cond y (a ∷ filter p (after_end g is all)) (filter p (after_end g is all)))) here

  -- those of another group all stay
  stay_elsewhere : (g k : Group) (is : H → Bool) → same_group g k ≡ false → (p : Arrived H → Bool)
      → ((a : Arrived H) → p a ≡ true → same_group k a.group ≡ true) → (all : List (Arrived H)) → filter p (after_end g is all) ≡ filter p all
  stay_elsewhere g k is other p mine all =
      kept_twice p (λ a. not (same_group g a.group && is a.holder))
      (λ a here. not_of (same_group g a.group && is a.holder) (and_false (same_group g a.group) (is a.holder) (apart g k a.group other (mine a here)))) all

  module _ (old new : List (Group × Slot H)) (g : Group) (h : H) (left : HasLeft h (slot_in old g) (slot_in new g))
      (others : (k : Group) → same_group g k ≡ false → slot_in new k ≡ slot_in old k) where
    pub right_after_end : (all : List (Arrived H)) (is : H → Bool) → ((k : H) → (is k ≡ true) ↔ (k ≡ h)) → IsBookOf all old
        → IsBookOf (after_end g is all) new
    right_after_end all is tells right =
        record { pending = λ k. pending_of k (same_group g k) refl; in_progress = λ k. in_progress_of k (same_group g k) refl }
      where
        pending_of : (k : Group) (b : Bool) → same_group g k ≡ b → holders (pending_in k (after_end g is all)) ≡ option_to_list (slot_in new k).pending
        pending_of k true same =
            subst (λ o. holders (pending_in o (after_end g is all)) ≡ option_to_list (slot_in new o).pending) (same_is_one g k same)
            (stay_here g is (is_pending g) (λ a. there g a a.waits) all ∙ ap (filter (λ x. not (is x))) (right.pending g)
            ∙ lost_place is h tells (slot_in old g).pending (slot_in new g).pending left.pending)
        pending_of k false other =
            ap holders (stay_elsewhere g k is other (is_pending k) (λ a. there k a a.waits) all) ∙ right.pending k
            ∙ sym (ap (λ (s : Slot H). option_to_list s.pending) (others k other))

        in_progress_of : (k : Group) (b : Bool) → same_group g k ≡ b
            → holders (in_progress_in k (after_end g is all)) ≡ option_to_list (slot_in new k).in_progress
        in_progress_of k true same =
            subst (λ o. holders (in_progress_in o (after_end g is all)) ≡ option_to_list (slot_in new o).in_progress) (same_is_one g k same)
            (stay_here g is (is_in_progress g) (λ a. there g a (not a.waits)) all ∙ ap (filter (λ x. not (is x))) (right.in_progress g)
            ∙ lost_place is h tells (slot_in old g).in_progress (slot_in new g).in_progress left.in_progress)
        in_progress_of k false other =
            ap holders (stay_elsewhere g k is other (is_in_progress k) (λ a. there k a (not a.waits)) all) ∙ right.in_progress k
            ∙ sym (ap (λ (s : Slot H). option_to_list s.in_progress) (others k other))

-- the holder in a place is the one that the table has
module _ {H : Type 0} (entries : List (Group × Slot H)) (g : Group) (place : Option H) where
  pub is_running : place ≡ (slot_in entries g).in_progress → (all : List (Arrived H)) → IsBookOf all entries
      → option_to_list place ≡ holders (in_progress_in g all)
  is_running is all right = ap option_to_list is ∙ sym (right.in_progress g)

  pub is_waiting : place ≡ (slot_in entries g).pending → (all : List (Arrived H)) → IsBookOf all entries
      → option_to_list place ≡ holders (pending_in g all)
  is_waiting is all right = ap option_to_list is ∙ sym (right.pending g)
