-- A claim is the first of its group where neither the holder in progress nor the pending one comes before its holder.
use Rattle.std.specs.Prelude.{◌≡◌, ◌<◌, ℕ, zero, suc, List, [], ◌∷◌, ◌++◌, length, map, take, find, filter_map, Bool, true, false, ◌&&◌, ◌||◌, nat_eq, nat_lt, Option, None, Some, option_map, slice_get, if◌then◌else◌, refl}
use Rattle.std.specs.List.{AllByRecursion, cons_option, list_any}
use Rattle.std.specs.Option.{option_map_or}
use Rattle.std.proofs.Common.{arith, get_or, ap, ap₂, sym, subst, ◌∙◌}
use Rattle.std.proofs.lemmas.Bool.{and_parts, eqb-true, false_from_ne_true, true≢false}
use Rattle.std.proofs.lemmas.Bool.Decides.{Decides-ltb}
use Rattle.std.proofs.lemmas.List.{take-map}
use Rattle.group_name.specs.Group.{Group, same_group}
use Rattle.group_name.proofs.SameGroups.{own_group, same_is_one}
use Rattle.table_model.specs.Groups.{group_at, all_holders, holds, is_in_progress_in, is_pending_in, waits}
use Rattle.table_model.specs.Runs.{RunState}
use Rattle.table_model.specs.declared.holder.Holder.{Holder}
use Rattle.table_model.specs.declared.holder.Holder.TheVariants.{Run, Leg}
use Rattle.table_model.specs.declared.sites.LegSite.{LegSite}
use Rattle.table_model.proofs.Found.{each_of_append}
use Rattle.table_views.specs.inner.Claims.{claim_of, claims_of, said}
use Rattle.table_views.specs.GroupLines.{group_in_use}
use Rattle.table_views.specs.inner.HolderOrder.{is_before, is_earlier, is_site_before}
use Rattle.table_views.specs.declared.claim.GroupClaim.{GroupClaim}
use Rattle.table_views.proofs.Ascending.{Ascends, holders_ascend}

-- ---- the order is strict

nat_lt_falls : (a b : ℕ) → nat_lt a b ≡ true → nat_lt b a ≡ false
nat_lt_falls a b e =
    let up : a < b = (Decides-ltb a b).0 e in
    false_from_ne_true (nat_lt b a) (λ f. let down : b < a = (Decides-ltb b a).0 f in absurd (omega (arith, up, down)))

not_below_itself : (n : ℕ) → nat_lt n n ≡ false
not_below_itself n = false_from_ne_true (nat_lt n n) (λ e. let lt : n < n = (Decides-ltb n n).0 e in absurd (omega (arith, lt)))

apart : (a b : ℕ) → nat_lt a b ≡ true → nat_eq b a ≡ false
apart a b e =
    let up : a < b = (Decides-ltb a b).0 e in
    false_from_ne_true (nat_eq b a) (λ f. let same : b ≡ a = eqb-true b a f in absurd (omega (arith, up, same)))

-- by the first number, and where it is the same, by the rest
abbrev by_first : ℕ → ℕ → Bool → Bool
by_first a b rest = nat_lt a b || (nat_eq a b && rest)

first_falls : (a b : ℕ) (rest back : Bool) → (rest ≡ true → back ≡ false) → by_first a b rest ≡ true → by_first b a back ≡ false
first_falls a b rest back falls = by (nat_lt a b) refl
  where
    equal : (a ≡ b) → rest ≡ true → by_first b a back ≡ false
    equal e is =
        subst (λ n. by_first n a back ≡ false) e
        (ap (λ c. c || (nat_eq a a && back)) (not_below_itself a) ∙ ap (λ c. nat_eq a a && c) (falls is) ∙ none (nat_eq a a))
      where
        none : (c : Bool) → (c && false) ≡ false
        none true = refl
        none false = refl

    by : (c : Bool) → nat_lt a b ≡ c → (c || (nat_eq a b && rest)) ≡ true → by_first b a back ≡ false
    by true lt e = ap (λ c. c || (nat_eq b a && back)) (nat_lt_falls a b lt) ∙ ap (λ c. c && back) (apart a b lt)
    by false lt e = let parts = and_parts (nat_eq a b) rest e in equal (eqb-true a b parts.0) parts.1

place_falls : (p q : LegSite) → is_site_before p q ≡ true → is_site_before q p ≡ false
place_falls p q e =
    first_falls p.run q.run (by_first p.job q.job (nat_lt p.leg q.leg)) (by_first q.job p.job (nat_lt q.leg p.leg))
    (first_falls p.job q.job (nat_lt p.leg q.leg) (nat_lt q.leg p.leg) (nat_lt_falls p.leg q.leg)) e

falls : (h k : Holder) → is_before h k ≡ true → is_before k h ≡ false
falls (Run r) (Run s) e = nat_lt_falls r s e
falls (Run r) (Leg q) e = refl
falls (Leg p) (Run s) e = absurd (true≢false (sym e))
falls (Leg p) (Leg q) e = place_falls p q e

not_before_itself : (h : Holder) → is_before h h ≡ false
not_before_itself h = by (is_before h h) refl
  where
    by : (b : Bool) → is_before h h ≡ b → b ≡ false
    by true is = sym is ∙ falls h h is
    by false is = refl

-- ---- the first that passes a test comes before one that is not among those before it

module _ (test : Holder → Bool) where
  none_after : (h : Holder) (later : List Holder) → AllByRecursion (λ k. is_before h k ≡ true) later → is_earlier h (find test later) ≡ false
  none_after h [] all = refl
  none_after h (k ∷ later) all =
      elim (test k) as (λ b. is_earlier h (if b then Some k else find test later) ≡ false) [
        | true ↦ falls h k all.0
        | false ↦ none_after h later all.1
      ]

  found_before : (first : List Holder) (h : Holder) (later : List Holder) → Ascends is_before (first ++ h ∷ later)
      → is_earlier h (find test (first ++ h ∷ later)) ≡ list_any test first
  found_before [] h later ascends =
      elim (test h) as (λ b. is_earlier h (if b then Some h else find test later) ≡ false) [
        | true ↦ not_before_itself h
        | false ↦ none_after h later ascends.0
      ]
  found_before (k ∷ first) h later ascends =
      elim (test k) as (λ b. is_earlier h (if b then Some k else find test (first ++ h ∷ later)) ≡ (b || list_any test first)) [
        | true ↦ (each_of_append (λ y. is_before k y ≡ true) first (h ∷ later) ascends.0).1.0
        | false ↦ found_before first h later ascends.1
      ]

any_either : {X : Type 0} (a b : X → Bool) (xs : List X) → list_any (λ x. a x || b x) xs ≡ (list_any a xs || list_any b xs)
any_either a b [] = refl
any_either a b (x ∷ xs) = ap (λ c. (a x || b x) || c) (any_either a b xs) ∙ both (a x) (b x) (list_any a xs) (list_any b xs)
  where
    both : (p q c d : Bool) → ((p || q) || (c || d)) ≡ ((p || c) || (q || d))
    both true q c d = refl
    both false true true d = refl
    both false true false d = refl
    both false false true d = refl
    both false false false d = refl

-- ---- the claims before one of them

module _ (runs : List RunState) where
  record SplitAt (hs : List Holder) (i : ℕ) (c : Group × Holder) : Type 0 where
    first : List Holder
    later : List Holder
    is : hs ≡ first ++ c.1 ∷ later
    before : take i (filter_map (claim_of runs) hs) ≡ filter_map (claim_of runs) first

  of_holder : (k : Holder) (o : Option Group) (d : Group × Holder) → option_map (λ (g : Group). (g, k)) o ≡ Some d → d.1 ≡ k
  of_holder k None d e = cc
  of_holder k (Some g) d e = let same : ◌≡◌ {A = Group × Holder} (g, k) d = cc in sym (ap (λ (p : Group × Holder). p.1) same)

  split_at : (hs : List Holder) (i : ℕ) (c : Group × Holder) → slice_get (filter_map (claim_of runs) hs) i ≡ Some c → SplitAt hs i c
  split_at [] zero c e = absurd cc
  split_at [] (suc i) c e = absurd cc
  split_at (k ∷ hs) i c e = by (claim_of runs k) refl i e (split_at hs)
    where
      by : (o : Option (Group × Holder)) → claim_of runs k ≡ o → (i : ℕ) → slice_get (cons_option o (filter_map (claim_of runs) hs)) i ≡ Some c
          → ((n : ℕ) (d : Group × Holder) → slice_get (filter_map (claim_of runs) hs) n ≡ Some d → SplitAt hs n d) → SplitAt (k ∷ hs) i c
      by None is i e rest =
          let so = rest i c e in
          record {
            first = k ∷ so.first;
            later = so.later;
            is = ap (λ xs. k ∷ xs) so.is;
            before = ap (λ o. take i (cons_option o (filter_map (claim_of runs) hs))) is ∙ so.before
                ∙ sym (ap (λ o. cons_option o (filter_map (claim_of runs) so.first)) is);
          }
      by (Some d) is zero e rest =
          let same : d ≡ c = cc in
          record {
            first = [];
            later = hs;
            is = ap (λ h. h ∷ hs) (sym (of_holder k (group_in_use runs k) d is) ∙ ap (λ (p : Group × Holder). p.1) same);
            before = refl;
          }
      by (Some d) is (suc i) e rest =
          let so = rest i c e in
          record {
            first = k ∷ so.first;
            later = so.later;
            is = ap (λ xs. k ∷ xs) so.is;
            before = ap (λ o. take (suc i) (cons_option o (filter_map (claim_of runs) hs))) is ∙ ap (λ xs. d ∷ xs) so.before
                ∙ sym (ap (λ o. cons_option o (filter_map (claim_of runs) so.first)) is);
          }

  -- which of them are of a group
  same_either_way : (g k : Group) → same_group k g ≡ same_group g k
  same_either_way g k = by (same_group g k) refl (same_group k g) refl
    where
      by : (a : Bool) → same_group g k ≡ a → (b : Bool) → same_group k g ≡ b → b ≡ a
      by true e true f = refl
      by false e false f = refl
      by true e false f = sym f ∙ subst (λ o. same_group k o ≡ true) (sym (same_is_one g k e)) (own_group k)
      by false e true f = absurd (true≢false (sym (subst (λ o. same_group g o ≡ true) (sym (same_is_one k g f)) (own_group g)) ∙ e))

  one_of_group : (g : Group) (k : Holder) (waiting holding : Bool) (o : Option Group)
      → option_map_or (λ (d : Group × Holder). same_group d.0 g) (option_map (λ (v : Group). (v, k)) (if waiting || holding then o else None)) false
      ≡ ((option_map_or (same_group g) o false && holding) || (option_map_or (same_group g) o false && waiting))
  one_of_group g k true true None = refl
  one_of_group g k true false None = refl
  one_of_group g k false true None = refl
  one_of_group g k false false None = refl
  one_of_group g k true true (Some v) = same_either_way g v ∙ by (same_group g v)
    where
      by : (b : Bool) → b ≡ ((b && true) || (b && true))
      by true = refl
      by false = refl
  one_of_group g k true false (Some v) = same_either_way g v ∙ by (same_group g v)
    where
      by : (b : Bool) → b ≡ ((b && false) || (b && true))
      by true = refl
      by false = refl
  one_of_group g k false true (Some v) = same_either_way g v ∙ by (same_group g v)
    where
      by : (b : Bool) → b ≡ ((b && true) || (b && false))
      by true = refl
      by false = refl
  one_of_group g k false false (Some v) = by (same_group g v)
    where
      by : (b : Bool) → false ≡ ((b && false) || (b && false))
      by true = refl
      by false = refl

  any_cons : (test : Group × Holder → Bool) (o : Option (Group × Holder)) (cs : List (Group × Holder))
      → list_any test (cons_option o cs) ≡ (option_map_or test o false || list_any test cs)
  any_cons test None cs = refl
  any_cons test (Some d) cs = refl

  any_of_group : (g : Group) (hs : List Holder)
      → list_any (λ (d : Group × Holder). same_group d.0 g) (filter_map (claim_of runs) hs)
      ≡ list_any (λ k. is_in_progress_in runs g k || is_pending_in runs g k) hs
  any_of_group g [] = refl
  any_of_group g (k ∷ hs) =
      any_cons (λ (d : Group × Holder). same_group d.0 g) (claim_of runs k) (filter_map (claim_of runs) hs)
      ∙ ap₂ (λ a b. a || b) (one_of_group g k (waits runs k) (holds runs k) (group_at runs k)) (any_of_group g hs)

  any_said : (g : Group) (cs : List GroupClaim)
      → list_any (λ (d : GroupClaim). same_group d.group g) cs ≡ list_any (λ (d : Group × Holder). same_group d.0 g) (map said cs)
  any_said g [] = refl
  any_said g (c ∷ cs) = ap (λ b. same_group c.group g || b) (any_said g cs)

  said_at : (claims : List GroupClaim) (i : ℕ) (c : GroupClaim) → i < length claims → get_or claims i c ≡ c
      → slice_get (map said claims) i ≡ Some (said c)
  said_at [] i c lt is = absurd (omega (arith, lt))
  said_at (d ∷ claims) zero c lt is = ap (λ (x : GroupClaim). Some (said x)) is
  said_at (d ∷ claims) (suc i) c lt is = said_at claims i c (omega (arith, lt)) is

  pub earlier_claim : (claims : List GroupClaim) (i : ℕ) (c : GroupClaim) → map said claims ≡ claims_of runs → i < length claims
      → get_or claims i c ≡ c
      → list_any (λ (d : GroupClaim). same_group d.group c.group) (take i claims)
      ≡ (is_earlier c.holder (find (is_in_progress_in runs c.group) (all_holders runs))
      || is_earlier c.holder (find (is_pending_in runs c.group) (all_holders runs)))
  earlier_claim claims i c are lt is =
      let g = c.group in
      let in_progress : Holder → Bool = is_in_progress_in runs g in
      let pending : Holder → Bool = is_pending_in runs g in
      let so = split_at (all_holders runs) i (said c) (sym (ap (λ cs. slice_get cs i) are) ∙ said_at claims i c lt is) in
      let ascends : Ascends is_before (so.first ++ c.holder ∷ so.later) = subst (Ascends is_before) so.is (holders_ascend runs) in
      any_said g (take i claims)
      ∙ ap (list_any (λ (d : Group × Holder). same_group d.0 g)) (sym (take-map said i claims) ∙ ap (take i) are ∙ so.before)
      ∙ any_of_group g so.first
      ∙ any_either in_progress pending so.first
      ∙ ap₂ (λ a b. a || b)
      (sym (ap (λ hs. is_earlier c.holder (find in_progress hs)) so.is ∙ found_before in_progress so.first c.holder so.later ascends))
      (sym (ap (λ hs. is_earlier c.holder (find pending hs)) so.is ∙ found_before pending so.first c.holder so.later ascends))
