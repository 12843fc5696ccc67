-- One of the two places of each group has exactly the holder that is in it, before and after a holder leaves it, begins, or takes another's
-- place. `place` gives the holder in the place of each group, `in_it` says which runs and legs are of that kind, and `of` gives their groups.
use Rattle.std.specs.Prelude.{◌≡◌, ◌↔◌, ◌&&◌, ◌⊎◌, Bool, true, false, Option, Some, None, refl}
use Rattle.std.specs.Option.{option_map_or}
use Rattle.std.proofs.Common.{ap, inl, inr, sym, subst, ◌∙◌}
use Rattle.std.proofs.lemmas.Bool.{and_from, and_parts, true≢false}
use Rattle.group_book.specs.Slots.{HasLost}
use Rattle.group_name.specs.Group.{Group, same_group}
use Rattle.group_name.proofs.SameGroups.{own_group, same_is_one}

abbrev pub is_here : {H : Type 0} → (H → Option Group) → (H → Bool) → Group → H → Bool
is_here of in_it g h = option_map_or (same_group g) (of h) false && in_it h

abbrev pub IsExact : {H : Type 0} → (H → Option Group) → (H → Bool) → (Group → Option H) → Type 0
IsExact {H} of in_it place = (g : Group) (h : H) → (place g ≡ Some h) ↔ (is_here of in_it g h ≡ true)

same_some : {H : Type 0} (h k : H) → Some h ≡ Some k → h ≡ k
same_some h k e = cc

none_some : {H : Type 0} (h : H) → None ≡ Some h → ⊥
none_some h e = cc

-- a holder is the given one, or another
abbrev pub Tells : Type 0 → Type 0
Tells H = (h one : H) → (h ≡ one) ⊎ (h ≡ one → ⊥)

pub pick : {H : Type 0} (tells : Tells H) (h one : H) (P : Type 0) → (h ≡ one → P) → ((h ≡ one → ⊥) → P) → P
pick tells h one P if_it if_not = elim (tells h one) [ inl is ↦ if_it is | inr other ↦ if_not other ]

-- ---- what a holder that is in a place says

module _ {H : Type 0} (of : H → Option Group) (in_it : H → Bool) (g : Group) (h : H) where
  pub it_is_in : is_here of in_it g h ≡ true → in_it h ≡ true
  it_is_in here = (and_parts (option_map_or (same_group g) (of h) false) (in_it h) here).1

  pub its_group : is_here of in_it g h ≡ true → of h ≡ Some g
  its_group here = by (of h) refl (and_parts (option_map_or (same_group g) (of h) false) (in_it h) here).0
    where
      by : (o : Option Group) → of h ≡ o → option_map_or (same_group g) o false ≡ true → of h ≡ Some g
      by None none same = absurd (true≢false (sym same))
      by (Some k) some same = some ∙ ap Some (sym (same_is_one g k same))

  pub put_here : of h ≡ Some g → in_it h ≡ true → is_here of in_it g h ≡ true
  put_here group is =
      and_from (option_map_or (same_group g) (of h) false) (in_it h)
      (ap (λ o. option_map_or (same_group g) o false) group ∙ own_group g) is

-- it is in no group, or not of the kind
pub in_no_place : {H : Type 0} (of : H → Option Group) (in_it : H → Bool) (h : H) → of h ≡ None → (g : Group) → is_here of in_it g h ≡ false
in_no_place of in_it h none g = ap (λ o. option_map_or (same_group g) o false && in_it h) none

pub not_of_kind : {H : Type 0} (of : H → Option Group) (in_it : H → Bool) (h : H) → in_it h ≡ false → (g : Group) → is_here of in_it g h ≡ false
not_of_kind of in_it h not g = by (option_map_or (same_group g) (of h) false)
  where
    by : (b : Bool) → (b && in_it h) ≡ false
    by true = not
    by false = refl

-- ---- whoever stays as it was

-- it is of the kind as before, and if so, in the same group
abbrev pub Stays : {H : Type 0} → (H → Option Group) → (H → Option Group) → (H → Bool) → (H → Bool) → H → Type 0
Stays of of_now in_it in_now h = (in_now h ≡ in_it h) × (in_it h ≡ true → of_now h ≡ of h)

module _ {H : Type 0} (tells : Tells H) (of of_now : H → Option Group) (in_it in_now : H → Bool) where
  pub stays_here : (g : Group) (h : H) → Stays of of_now in_it in_now h → is_here of_now in_now g h ≡ is_here of in_it g h
  stays_here g h stays = by (in_it h) refl
    where
      by : (b : Bool) → in_it h ≡ b → is_here of_now in_now g h ≡ is_here of in_it g h
      by true is =
          ap (λ c. option_map_or (same_group g) (of_now h) false && c) stays.0
          ∙ ap (λ o. option_map_or (same_group g) o false && in_it h) (stays.1 is)
      by false not = not_of_kind of_now in_now h (stays.0 ∙ not) g ∙ sym (not_of_kind of in_it h not g)

  -- nobody changes
  pub exact_within : (place : Group → Option H) → ((h : H) → Stays of of_now in_it in_now h) → IsExact of in_it place
      → IsExact of_now in_now place
  exact_within place stays exact g h =
      let same = stays_here g h (stays h) in ((λ at. same ∙ (exact g h).0 at), (λ here. (exact g h).1 (sym same ∙ here)))

  module _ (old new : Group → Option H) (one : H) (exact : IsExact of in_it old)
      (others : (h : H) → (h ≡ one → ⊥) → Stays of of_now in_it in_now h) where
    as_before : (g : Group) (h : H) → (h ≡ one → ⊥) → is_here of_now in_now g h ≡ is_here of in_it g h
    as_before g h other = stays_here g h (others h other)

    -- it is not here
    nowhere : ((g : Group) → is_here of_now in_now g one ≡ false) → (g : Group) (h : H) → is_here of_now in_now g h ≡ true → h ≡ one → ⊥
    nowhere not g h here is = true≢false (sym (subst (λ k. is_here of_now in_now g k ≡ true) is here) ∙ not g)

    was_nowhere : ((g : Group) → is_here of in_it g one ≡ false) → (g : Group) (h : H) → is_here of in_it g h ≡ true → h ≡ one → ⊥
    was_nowhere not g h here is = true≢false (sym (subst (λ k. is_here of in_it g k ≡ true) is here) ∙ not g)

    -- one that was in no place of the kind, and is in none now
    pub exact_beside : ((g : Group) → is_here of in_it g one ≡ false) → ((g : Group) → is_here of_now in_now g one ≡ false)
        → ((g : Group) → new g ≡ old g) → IsExact of_now in_now new
    exact_beside was now same g h = (
      (λ at.
          let before = (exact g h).0 (sym (same g) ∙ at) in as_before g h (was_nowhere was g h before) ∙ before),
      (λ here. same g ∙ (exact g h).1 (sym (as_before g h (nowhere now g h here)) ∙ here)),
    )

    same_group_of : (k l : Group) → Some k ≡ Some l → k ≡ l
    same_group_of k l e = cc

    module _ (group : Group) (elsewhere : (k : Group) → same_group group k ≡ false → new k ≡ old k) where
      -- in another group, it is another holder
      apart_from : (g k : Group) → same_group group g ≡ false → Some group ≡ Some g → ⊥
      apart_from g k apart same =
          true≢false (sym (ap (same_group group) (sym (same_group_of group g same)) ∙ own_group group) ∙ apart)

      -- a holder leaves
      pub exact_left : in_now one ≡ false → of one ≡ Some group → HasLost one (old group) (new group) → IsExact of_now in_now new
      exact_left left its lost g h = by (same_group group g) refl
        where
          gone : (k : Group) (m : H) → is_here of_now in_now k m ≡ true → m ≡ one → ⊥
          gone = nowhere (not_of_kind of_now in_now one left)

          other_there : same_group group g ≡ false → is_here of in_it g h ≡ true → h ≡ one → ⊥
          other_there apart here is = apart_from g g apart (sym its ∙ ap of (sym is) ∙ its_group of in_it g h here)

          by : (b : Bool) → same_group group g ≡ b → (new g ≡ Some h) ↔ (is_here of_now in_now g h ≡ true)
          by true same = subst (λ k. (new k ≡ Some h) ↔ (is_here of_now in_now k h ≡ true)) (same_is_one group g same) (
            (λ at. let was = (lost h).0 at in as_before group h was.1 ∙ (exact group h).0 was.0),
            (λ here.
                let other = gone group h here in (lost h).1 ((exact group h).1 (sym (as_before group h other) ∙ here), other)),
          )
          by false apart = (
            (λ at.
                let before = (exact g h).0 (sym (elsewhere g apart) ∙ at) in as_before g h (other_there apart before) ∙ before),
            (λ here. elsewhere g apart ∙ (exact g h).1 (sym (as_before g h (gone g h here)) ∙ here)),
          )

      -- a holder that was not of the kind comes to a place that is free
      pub exact_come : in_now one ≡ true → of_now one ≡ Some group → in_it one ≡ false → old group ≡ None → new group ≡ Some one
          → IsExact of_now in_now new
      exact_come is its_now was_not free taken g h = by (same_group group g) refl
        where
          before_came : (k : Group) (m : H) → is_here of in_it k m ≡ true → m ≡ one → ⊥
          before_came = was_nowhere (not_of_kind of in_it one was_not)

          by : (b : Bool) → same_group group g ≡ b → (new g ≡ Some h) ↔ (is_here of_now in_now g h ≡ true)
          by true same = subst (λ k. (new k ≡ Some h) ↔ (is_here of_now in_now k h ≡ true)) (same_is_one group g same) (
            (λ at.
                subst (λ k. is_here of_now in_now group k ≡ true) (same_some one h (sym taken ∙ at))
                (put_here of_now in_now group one its_now is)),
            (λ here.
                pick tells h one (new group ≡ Some h) (λ is_it. taken ∙ ap Some (sym is_it))
                (λ other. absurd (none_some h (sym free ∙ (exact group h).1 (sym (as_before group h other) ∙ here))))),
          )
          by false apart = (
            (λ at.
                let before = (exact g h).0 (sym (elsewhere g apart) ∙ at) in as_before g h (before_came g h before) ∙ before),
            (λ here.
                pick tells h one (new g ≡ Some h)
                (λ is_it. absurd (apart_from g g apart (sym its_now ∙ ap of_now (sym is_it) ∙ its_group of_now in_now g h here)))
                (λ other. elsewhere g apart ∙ (exact g h).1 (sym (as_before g h other) ∙ here))),
          )

-- ---- a newcomer takes the place of another, which ends

module _ {H : Type 0} (tells : Tells H) (of of_now : H → Option Group) (in_it in_now : H → Bool) (old new : Group → Option H) (one other : H)
    (exact : IsExact of in_it old)
    (others : (h : H) → (h ≡ one → ⊥) → (h ≡ other → ⊥) → Stays of of_now in_it in_now h) where
  same_as_before : (g : Group) (h : H) → (h ≡ one → ⊥) → (h ≡ other → ⊥) → is_here of_now in_now g h ≡ is_here of in_it g h
  same_as_before g h not_one not_other = stays_here tells of of_now in_it in_now g h (others h not_one not_other)

  groups_agree : (k l : Group) → Some k ≡ Some l → k ≡ l
  groups_agree k l e = cc

  elsewhere_apart : (group g : Group) → same_group group g ≡ false → group ≡ g → ⊥
  elsewhere_apart group g apart same = true≢false (sym (ap (same_group group) (sym same) ∙ own_group group) ∙ apart)

  pub exact_replaced : (group : Group) → in_it one ≡ false → in_now one ≡ true → of_now one ≡ Some group → in_now other ≡ false
      → old group ≡ Some other → new group ≡ Some one → ((k : Group) → same_group group k ≡ false → new k ≡ old k)
      → IsExact of_now in_now new
  exact_replaced group was_not is its_now ended had taken elsewhere g h = by (same_group group g) refl
    where
      ended_here : (k : Group) (m : H) → is_here of_now in_now k m ≡ true → m ≡ other → ⊥
      ended_here k m here same =
          true≢false (sym (it_is_in of_now in_now k other (subst (λ x. is_here of_now in_now k x ≡ true) same here)) ∙ ended)

      group_of_other : of other ≡ Some group
      group_of_other = its_group of in_it group other ((exact group other).0 had)

      before : same_group group g ≡ false → is_here of in_it g h ≡ true → is_here of_now in_now g h ≡ true
      before apart here =
          same_as_before g h
          (λ same. true≢false (sym (it_is_in of in_it g one (subst (λ x. is_here of in_it g x ≡ true) same here)) ∙ was_not))
          (λ same. elsewhere_apart group g apart (groups_agree group g (sym group_of_other ∙ ap of (sym same) ∙ its_group of in_it g h here)))
          ∙ here

      by : (b : Bool) → same_group group g ≡ b → (new g ≡ Some h) ↔ (is_here of_now in_now g h ≡ true)
      by true same = subst (λ k. (new k ≡ Some h) ↔ (is_here of_now in_now k h ≡ true)) (same_is_one group g same) (
        (λ at.
            subst (λ x. is_here of_now in_now group x ≡ true) (same_some one h (sym taken ∙ at))
            (put_here of_now in_now group one its_now is)),
        (λ here.
            pick tells h one (new group ≡ Some h) (λ is_it. taken ∙ ap Some (sym is_it))
            (λ not_one.
            let not_other = ended_here group h here in
            let there = (exact group h).1 (sym (same_as_before group h not_one not_other) ∙ here) in
            absurd (not_other (sym (same_some other h (sym had ∙ there)))))),
      )
      by false apart = (
        (λ at. before apart ((exact g h).0 (sym (elsewhere g apart) ∙ at))),
        (λ here.
            pick tells h one (new g ≡ Some h)
            (λ is_it.
            absurd (elsewhere_apart group g apart
            (groups_agree group g (sym its_now ∙ ap of_now (sym is_it) ∙ its_group of_now in_now g h here))))
            (λ not_one.
            elsewhere g apart ∙ (exact g h).1 (sym (same_as_before g h not_one (ended_here g h here)) ∙ here))),
      )
