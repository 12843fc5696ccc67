-- What writing and removing an entry makes of the holders of each group.
use Rattle.std.proofs.Common.{◌≡◌, ◌<◌, ℕ, zero, suc, List, [], ◌∷◌, ◌++◌, append_assoc, length, Bool, true, false, cond, if◌then◌else◌, Option, None, Some, slice_get, option_map, position, refl, sym, ap, ap₂, subst, ◌∙◌, unwrap_or, arith, rules}
use Rattle.std.specs.Prelude.{IfSome}
use Rattle.std.specs.List.{AllByRecursion, IsDistinct}
use Rattle.std.proofs.lemmas.Map.Keys.{IsDistinct-head, IsDistinct-tail}
use Rattle.std.specs.Cmp.{IsEquivalence}
use Rattle.std.specs.Cmp.Rules.{comparing}
use Rattle.indexmap.specs.IndexMap.{IndexMap, IsUnique, Updates, insert_entry, with_value_at}
use Rattle.indexmap.proofs.CallerLemmas.{insert_entry-new, updates-with_value_at}
use Rattle.indexmap.proofs.MapLemmas.{Found, Found-position, Missing-position}
use Rattle.std.specs.Map.{keys_of, lookup, lookup_key}
use Rattle.std.proofs.lemmas.Map.Made.{lookup_key_passes}
use Rattle.std.proofs.lemmas.Option.{slice_get-map}
use Rattle.group_name.specs.Group.{Group, same_group}
use Rattle.group_name.proofs.SameGroups.{own_group, same_is_one}
use Rattle.group_book.specs.Books.{AreHeld, Puts, group_at, slot_in}
use Rattle.group_book.specs.Slots.{HasLeft, HasLost, begun, empty_slot, with_newcomer}
use Rattle.group_book.specs.declared.slot.Slot.{Slot}

module _ {H : Type 0} where
  -- the entries after one group gets a slot, or loses it
  abbrev Sets : Group → Option (Slot H) → List (Group × Slot H) → List (Group × Slot H) → Type 0
  Sets g w old new = (k : Group) → lookup (same_group k) new ≡ cond (same_group g k) w (lookup (same_group k) old)

  -- a slot that is written is that of its group
  pub puts_written : (old new : List (Group × Slot H)) (g : Group) (slot : Slot H) → Sets g (Some slot) old new → Puts g slot old new
  puts_written old new g slot sets k = ap (λ o. unwrap_or o empty_slot) (sets k) ∙ by (same_group g k)
    where
      by : (b : Bool) → unwrap_or (cond b (Some slot) (lookup (same_group k) old)) empty_slot ≡ (if b then slot else slot_in old k)
      by true = refl
      by false = refl

  -- by an arrival, and by a start
  pub put_by_arrival : (inside old new : List (Group × Slot H)) (g : Group) (h : H) (before : Slot H) → inside ≡ old → before ≡ slot_in old g
      → Sets g (Some (with_newcomer h before)) inside new → Puts g (with_newcomer h (slot_in old g)) old new
  put_by_arrival inside old new g h before is was sets =
      subst (λ o. Puts g (with_newcomer h (slot_in old g)) o new) is
      (subst (λ s. Puts g (with_newcomer h s) inside new) was (puts_written inside new g (with_newcomer h before) sets))

  pub put_by_start : (old new : List (Group × Slot H)) (g : Group) (before : Slot H) → before ≡ slot_in old g → Puts g (begun before) old new
      → Puts g (begun (slot_in old g)) old new
  put_by_start old new g before was puts = subst (λ s. Puts g (begun s) old new) was puts

  pub puts_removed : (old new : List (Group × Slot H)) (g : Group) → Sets g None old new → Puts g empty_slot old new
  puts_removed old new g sets k = ap (λ o. unwrap_or o empty_slot) (sets k) ∙ by (same_group g k)
    where
      by : (b : Bool) → unwrap_or (cond b None (lookup (same_group k) old)) empty_slot ≡ (if b then empty_slot else slot_in old k)
      by true = refl
      by false = refl

  pub holds_newcomer : (h : H) (slot : Slot H) → with_newcomer h slot ≡ empty_slot → ⊥
  holds_newcomer h slot e = no (ap (λ (s : Slot H). s.pending) e)
    where
      no : Some h ≡ None → ⊥
      no x = cc

  -- each group of the book still has a holder
  pub held_written : (old new : List (Group × Slot H)) (g : Group) (slot : Slot H) → AreHeld old → (slot ≡ empty_slot → ⊥) → Sets g (Some slot) old new
      → AreHeld new
  held_written old new g slot held holds sets k found at = by (same_group g k) (sym (sets k) ∙ at)
    where
      by : (b : Bool) → cond b (Some slot) (lookup (same_group k) old) ≡ Some found → found ≡ empty_slot → ⊥
      by true is = λ none. holds (one slot found is ∙ none)
        where
          one : (x y : Slot H) → Some x ≡ Some y → x ≡ y
          one x y h = cc
      by false is = held k found is

  pub held_removed : (old new : List (Group × Slot H)) (g : Group) → AreHeld old → Sets g None old new → AreHeld new
  held_removed old new g held sets k found at = by (same_group g k) (sym (sets k) ∙ at)
    where
      by : (b : Bool) → cond b None (lookup (same_group k) old) ≡ Some found → found ≡ empty_slot → ⊥
      by true is = cc
      by false is = held k found is

-- ---- a holder leaves

module _ {H : Type 0} where
  lost_none : (h : H) (new : Option H) → HasLost h None new → new ≡ None
  lost_none h None lost = refl
  lost_none h (Some k) lost = absurd (no ((lost k).0 refl).0)
    where
      no : None ≡ Some k → ⊥
      no x = cc

  -- nobody leaves a group that nobody holds
  pub left_empty : (h : H) (before after : Slot H) → before ≡ empty_slot → HasLeft h before after → after ≡ empty_slot
  left_empty h before after none left =
      let l = subst (λ s. HasLeft h s after) none left in
      ap₂ (λ r p. record { in_progress = r; pending = p }) (lost_none h after.in_progress l.in_progress) (lost_none h after.pending l.pending)

  module _ (old new : List (Group × Slot H)) (g : Group) (h : H) (before after : Slot H) (was : before ≡ slot_in old g)
      (left : HasLeft h before after) (puts : Puts g after old new) where
    pub left_slot : HasLeft h (slot_in old g) (slot_in new g)
    left_slot =
        let there : slot_in new g ≡ after = puts g ∙ ap (λ b. if b then after else slot_in old g) (own_group g) in
        subst (λ s. HasLeft h s (slot_in new g)) was (subst (HasLeft h before) (sym there) left)

    pub others_stay : (k : Group) → same_group g k ≡ false → slot_in new k ≡ slot_in old k
    others_stay k not = puts k ∙ ap (λ b. if b then after else slot_in old k) not

-- ---- by the number of a group

pub group_laws : IsEquivalence same_group
group_laws = search (comparing, rules)

pub entry_at : {X : Type 0} (xs : List X) (i : ℕ) → i < length xs → (x : X) × (slice_get xs i ≡ Some x)
entry_at [] i within = absurd (omega (arith, within))
entry_at (x ∷ xs) zero within = (x, refl)
entry_at (x ∷ xs) (suc i) within = entry_at xs i (omega (arith, within))

module _ {H S : Type 0} (m : IndexMap Group (Slot H) S) where
  abbrev Held : Type 0
  Held = Group × Slot H

  entry_of : (i : ℕ) (g : Group) → group_at m.entries i ≡ Some g → (slot : Slot H) × (slice_get m.entries i ≡ Some (g, slot))
  entry_of i g at = by (slice_get m.entries i) refl at
    where
      by : (o : Option Held) → slice_get m.entries i ≡ o → option_map (λ e. e.0) o ≡ Some g
          → (slot : Slot H) × (slice_get m.entries i ≡ Some (g, slot))
      by None is none = absurd (no none)
        where
          no : None ≡ Some g → ⊥
          no h = cc
      by (Some e) is some = (e.1, is ∙ ap (λ k. Some (k, e.1)) (one e.0 g some))
        where
          one : (k l : Group) → Some k ≡ Some l → k ≡ l
          one k l h = cc

  -- a slot that is written at a number is that of the group with this number
  pub written_at : IsUnique same_group m → (i : ℕ) (w : Slot H) (g : Group) → group_at m.entries i ≡ Some g
      → Puts g w m.entries (with_value_at m i w).entries
  written_at unique i w g at =
      let entry = entry_of i g at in
      puts_written m.entries (with_value_at m i w).entries g w (updates-with_value_at m i w group_laws unique g entry.0 entry.1).0

  pub held_at : IsUnique same_group m → AreHeld m.entries → (i : ℕ) (w : Slot H) → i < length m.entries → (w ≡ empty_slot → ⊥)
      → AreHeld (with_value_at m i w).entries
  held_at unique held i w within holds =
      let entry = entry_at m.entries i within in
      held_written m.entries (with_value_at m i w).entries entry.0.0 w held holds
      (updates-with_value_at m i w group_laws unique entry.0.0 entry.0.1 entry.1).0

  -- a group that is taken out has no holder
  module _ (n : IndexMap Group (Slot H) S) (i : ℕ) (taken : Option Held) (is : taken ≡ slice_get m.entries i)
      (updates : IfSome taken (λ e. Updates same_group m n e.0 None)) where
    sets_none : (e : Held) → slice_get m.entries i ≡ Some e → Sets e.0 None m.entries n.entries
    sets_none e at = by taken (is ∙ at) updates
      where
        by : (o : Option Held) → o ≡ Some e → IfSome o (λ d. Updates same_group m n d.0 None) → Sets e.0 None m.entries n.entries
        by None none h = absurd (no none)
          where
            no : None ≡ Some e → ⊥
            no x = cc
        by (Some d) some h = subst (λ (x : Held). Sets x.0 None m.entries n.entries) (one d e some) h.0
          where
            one : (x y : Held) → Some x ≡ Some y → x ≡ y
            one x y z = cc

    pub taken_out : (g : Group) → group_at m.entries i ≡ Some g → Puts g empty_slot m.entries n.entries
    taken_out g at =
        let entry = entry_of i g at in
        puts_removed m.entries n.entries g (sets_none (g, entry.0) entry.1)

    pub held_without : AreHeld m.entries → i < length m.entries → AreHeld n.entries
    held_without held within =
        let entry = entry_at m.entries i within in
        held_removed m.entries n.entries entry.0.0 held (sets_none entry.0 entry.1)

-- ---- a group that is not in the book

pub puts_nothing : {H : Type 0} (old : List (Group × Slot H)) (g : Group) (slot : Slot H) → lookup (same_group g) old ≡ None → slot ≡ empty_slot
    → Puts g slot old old
puts_nothing old g slot none empty k = by (same_group g k) refl
  where
    by : (b : Bool) → same_group g k ≡ b → slot_in old k ≡ (if b then slot else slot_in old k)
    by true same =
        subst (λ o. slot_in old o ≡ slot) (same_is_one g k same) (ap (λ o. unwrap_or o empty_slot) none ∙ sym empty)
    by false not = refl

-- ---- a group is found by its key

pub found_at : {H : Type 0} (entries : List (Group × Slot H)) (g : Group) (i : ℕ) → position (same_group g) (keys_of entries) ≡ Some i
    → group_at entries i ≡ Some g
found_at {H} entries g i at = by (group_at entries i) refl
  where
    found : Found (same_group g) entries i
    found = Found-position (same_group g) entries i at

    its_key : lookup_key (same_group g) entries ≡ group_at entries i
    its_key = found.key ∙ slice_get-map (λ (e : Group × Slot H). e.0) entries i

    by : (o : Option Group) → group_at entries i ≡ o → group_at entries i ≡ Some g
    by None none = absurd (no (sym none ∙ ap (option_map (λ (e : Group × Slot H). e.0)) (entry_at entries i found.within).1))
      where
        no : None ≡ Some (entry_at entries i found.within).0.0 → ⊥
        no h = cc
    by (Some k) some =
        some ∙ ap Some (sym (same_is_one g k (lookup_key_passes (same_group g) entries k (its_key ∙ some))))

pub missing : {H : Type 0} (entries : List (Group × Slot H)) (g : Group) → position (same_group g) (keys_of entries) ≡ None
    → (lookup (same_group g) entries ≡ None) × (slot_in entries g ≡ empty_slot)
missing entries g none =
    let nothing = (Missing-position (same_group g) entries none).value in
    (nothing, ap (λ o. unwrap_or o empty_slot) nothing)

-- ---- a copy

abbrev key_at : {X : Type 0} → List (Group × X) → ℕ → Option Group
key_at es n = option_map (λ e. e.0) (slice_get es n)

module _ {X : Type 0} where
  each_key : (P : Group → Type 0) (es : List (Group × X)) (n : ℕ) (g : Group) → AllByRecursion P (keys_of es) → key_at es n ≡ Some g → P g
  each_key P [] n g all at = cc
  each_key P (e ∷ es) zero g all at = subst P (one at) all.0
    where
      one : Some e.0 ≡ Some g → e.0 ≡ g
      one h = cc
  each_key P (e ∷ es) (suc n) g all at = each_key P es n g all.1 at

  pub next_key : (es : List (Group × X)) (g : Group) (x : X) (rest : List (Group × X)) → key_at (es ++ (g, x) ∷ rest) (length es) ≡ Some g
  next_key [] g x rest = refl
  next_key (e ∷ es) g x rest = next_key es g x rest

  not_before : (es : List (Group × X)) (g : Group) (x : X) (rest : List (Group × X)) → IsDistinct same_group (keys_of (es ++ (g, x) ∷ rest))
      → lookup (same_group g) es ≡ None
  not_before [] g x rest distinct = refl
  not_before (e ∷ es) g x rest distinct =
      let apart = IsDistinct-head same_group e.0 (keys_of (es ++ (g, x) ∷ rest)) distinct in
      let not = each_key (λ y. same_group e.0 y ≡ false) (es ++ (g, x) ∷ rest) (length es) g apart (next_key es g x rest) in
      ap (λ b. cond b (Some e.1) (lookup (same_group g) es)) (group_laws.symm g e.0 ∙ not)
      ∙ not_before es g x rest (IsDistinct-tail same_group e.0 (keys_of (es ++ (g, x) ∷ rest)) distinct)

  pub one_more_copied : {S : Type 0} (m : IndexMap Group X S) (g : Group) (x : X) (rest whole : List (Group × X))
      → IsDistinct same_group (keys_of whole) → m.entries ++ (g, x) ∷ rest ≡ whole → insert_entry same_group m.entries g x ++ rest ≡ whole
  one_more_copied m g x rest whole distinct is =
      let new = not_before m.entries g x rest (subst (λ es. IsDistinct same_group (keys_of es)) (sym is) distinct) in
      ap (λ es. es ++ rest) (insert_entry-new same_group m g x new) ∙ append_assoc m.entries ((g, x) ∷ []) rest ∙ is
