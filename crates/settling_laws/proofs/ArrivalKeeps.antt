-- After an arrival the newcomer is the only pending holder of its group, and no other group has more holders than before.
use Rattle.std.specs.Prelude.{◌≡◌, ◌⊎◌, List, [], ◌∷◌, ◌&&◌, filter, not, nat_eq, Bool, true, false, Some, None, if◌then◌else◌}
use Rattle.std.specs.Prelude.{refl}
use Rattle.std.specs.List.{AllByRecursion}
use Rattle.std.specs.Option.{option_map_or}
use Rattle.std.proofs.Common.{ap, inl, inr, sym, ◌∙◌}
use Rattle.std.proofs.lemmas.Bool.{and_from, and_parts, eq-eqb, eqb-true, true≢false}
use Rattle.std.proofs.lemmas.Option.{same_Some}
use Rattle.group_name.specs.Group.{Group}
use Rattle.table_model.specs.Settling.{arrived, displaced, others_pending, room_made, stopped_where_requested}
use Rattle.table_model.specs.Groups.{cancels_in_progress, group_at}
use Rattle.table_model.specs.GroupLaw.{same_holder, same_place as is_same_place, at_each, without_moves}
use Rattle.table_model.specs.Groups.{HasOneBeside, HasOneEach, all_holders, is_in, is_pending_in, in_progress_in, waits}
use Rattle.table_model.specs.declared.sites.LegSite.{LegSite}
use Rattle.table_model.specs.Runs.{RunState}
use Rattle.table_model.specs.Stops.{displace, stop_holder}
use Rattle.table_model.proofs.LeaseReads.{same_place}
use Rattle.table_model.proofs.RunFits.{RunsFit}
use Rattle.settling_laws.proofs.HoldersFade.{each_fades, holder_stop_fades, stop_ends_waiting}
use Rattle.settling_laws.proofs.HoldersKeep.{requested_settles, displaced_settles}
use Rattle.settling_laws.proofs.OneEach.{Fades, besides_fades, each_holder, fades_not, fading_keeps, group_is, groups_stay}
use Rattle.settling_laws.proofs.OneEach.{one_that_waits, was_pending}
use Rattle.table_model.specs.declared.holder.Holder.{Holder}
use Rattle.table_model.specs.declared.holder.Holder.TheVariants.{Run, Leg}

-- ---- the test of two holders for equality

place_tested : (p q : LegSite) → is_same_place p q ≡ true → p ≡ q
place_tested p q e =
    let first = and_parts (nat_eq p.run q.run) (nat_eq p.job q.job && nat_eq p.leg q.leg) e in
    let rest = and_parts (nat_eq p.job q.job) (nat_eq p.leg q.leg) first.1 in
    same_place p q (eqb-true p.run q.run first.0) (eqb-true p.job q.job rest.0) (eqb-true p.leg q.leg rest.1)

pub holder_tested : (h k : Holder) → same_holder h k ≡ true → h ≡ k
holder_tested (Run r) (Run s) e = ap Run (eqb-true r s e)
holder_tested (Run r) (Leg p) e = cc
holder_tested (Leg p) (Run s) e = cc
holder_tested (Leg p) (Leg q) e = ap Leg (place_tested p q e)

pub itself : (h : Holder) → same_holder h h ≡ true
itself (Run r) = eq-eqb r r refl
itself (Leg p) =
    and_from (nat_eq p.run p.run) (nat_eq p.job p.job && nat_eq p.leg p.leg) (eq-eqb p.run p.run refl)
    (and_from (nat_eq p.job p.job) (nat_eq p.leg p.leg) (eq-eqb p.job p.job refl) (eq-eqb p.leg p.leg refl))

one_tested : (h k : Holder) (b : Bool) → same_holder h k ≡ b → (h ≡ k) ⊎ ((h ≡ k → ⊥) × (same_holder h k ≡ false))
one_tested h k true e = inl (holder_tested h k e)
one_tested h k false e = inr ((λ same. true≢false (sym (itself k) ∙ ap (λ x. same_holder x k) (sym same) ∙ e)), e)

pub one_or_another : (h k : Holder) → (h ≡ k) ⊎ ((h ≡ k → ⊥) × (same_holder h k ≡ false))
one_or_another h k = one_tested h k (same_holder h k) refl

-- ---- displaced holders do not wait any more

waits_not_again : (mid next : List RunState) (h : Holder) → Fades mid next → waits mid h ≡ false → waits next h ≡ false
waits_not_again mid next h fades not_mid =
    elim (waits next h) as (λ b. waits next h ≡ b → b ≡ false) [
      | true ↦ λ is. absurd (true≢false (sym (fades.waited h is) ∙ not_mid))
      | false ↦ λ is. refl
    ] refl

displace_fades : (h : Holder) (runs : List RunState) → Fades runs (displace h runs).runs
displace_fades h runs = holder_stop_fades h runs

each_waits_not : (hs : List Holder) (runs : List RunState) → AllByRecursion (λ h. waits (at_each displace hs runs).runs h ≡ false) hs
each_waits_not [] runs = tt
each_waits_not (h ∷ hs) runs =
    let mid = (displace h runs).runs in (
      waits_not_again mid (at_each displace hs mid).runs h (each_fades displace displace_fades hs mid) (stop_ends_waiting h runs),
      each_waits_not hs mid,
    )

each_filtered : {X : Type 0} (P : X → Type 0) (test : X → Bool) (xs : List X) → AllByRecursion P (filter test xs)
    → AllByRecursion (λ x. test x ≡ true → P x) xs
each_filtered P test [] all = tt
each_filtered P test (x ∷ xs) all =
    elim (test x) as
    (λ b. test x ≡ b → AllByRecursion P (if b then x ∷ filter test xs else filter test xs)
    → AllByRecursion (λ y. test y ≡ true → P y) (x ∷ xs)) [
      | true ↦ λ is now. ((λ e. now.0), each_filtered P test xs now.1)
      | false ↦ λ is now. ((λ e. absurd (true≢false (sym e ∙ is))), each_filtered P test xs now)
    ] refl all

-- ---- the pending holders of the newcomer's group afterwards

module _ (runs : List RunState) (fit : RunsFit runs) (newcomer : Holder) (g : Group) where
  mid_fades : Fades runs (displaced g newcomer runs).runs
  mid_fades = each_fades displace displace_fades (others_pending g newcomer runs) runs

  pub nobody_else : (h : Holder) → is_pending_in (displaced g newcomer runs).runs g h ≡ true → h ≡ newcomer
  nobody_else h e =
      let next = (displaced g newcomer runs).runs in
      let before = was_pending runs next (groups_stay runs next fit (displaced_settles g newcomer runs fit).stay) mid_fades g h e in
      elim (one_or_another h newcomer) [
        | inl same ↦ same
        | inr other ↦
            let test : Holder → Bool = λ k. is_pending_in runs g k && not (same_holder k newcomer) in
            let gone = each_filtered (λ k. waits next k ≡ false) test (all_holders runs)
            (each_waits_not (others_pending g newcomer runs) runs) in
            let passes = and_from (is_pending_in runs g h) (not (same_holder h newcomer)) before (ap not other.1) in
            let parts = and_parts (is_in next g h) (waits next h) e in
            absurd (true≢false (sym parts.1
            ∙ each_holder (λ k. test k ≡ true → waits next k ≡ false) runs h gone
            (one_that_waits runs h (mid_fades.waited h parts.1)) passes))
      ]

  -- the newcomer waits in this group
  module _ (waiting : waits runs newcomer ≡ true) (its : group_at runs newcomer ≡ Some g) (each : HasOneBeside runs newcomer) where
    pub still_its : group_at (displaced g newcomer runs).runs newcomer ≡ Some g
    still_its =
        groups_stay runs (displaced g newcomer runs).runs fit (displaced_settles g newcomer runs fit).stay newcomer
        (one_that_waits runs newcomer waiting) ∙ its

    -- if the newcomer is in a group, it is this one
    only_there : (k : Group) (h : Holder) → h ≡ newcomer → is_in (displaced g newcomer runs).runs k h ≡ true → g ≡ k
    only_there k h same e =
        let next = (displaced g newcomer runs).runs in
        same_Some g k (sym still_its ∙ group_is next k newcomer (ap (is_in next k) (sym same) ∙ e))

    pub displaced_one_each : HasOneEach (displaced g newcomer runs).runs
    displaced_one_each =
        let next = (displaced g newcomer runs).runs in
        let besides = besides_fades runs next newcomer (groups_stay runs next fit (displaced_settles g newcomer runs fit).stay)
        mid_fades each in
        record {
          pending = (λ k h i e f.
              elim (one_or_another h newcomer) [
                | inl is_h ↦
                    let same = only_there k h is_h (and_parts (is_in next k h) (waits next h) e).0 in
                    is_h ∙ sym (nobody_else i (ap (λ v. is_pending_in next v i) same ∙ f))
                | inr not_h ↦ elim (one_or_another i newcomer) [
                  | inl is_i ↦
                      let same = only_there k i is_i (and_parts (is_in next k i) (waits next i) f).0 in
                      nobody_else h (ap (λ v. is_pending_in next v h) same ∙ e) ∙ sym is_i
                  | inr not_i ↦ besides.pending k h i not_h.0 not_i.0 e f
                ]
              ]);
          in_progress = besides.in_progress;
        }

-- ---- the whole arrival

pub requested_fades : (cancels : Bool) (g : Group) (runs : List RunState) → Fades runs (stopped_where_requested cancels g runs).runs
requested_fades true g runs = each_fades stop_holder holder_stop_fades (in_progress_in runs g) runs
requested_fades false g runs = fades_not runs

room_one_each : (runs : List RunState) → RunsFit runs → (newcomer : Holder) (g : Group) (cancels : Bool) → waits runs newcomer ≡ true
    → group_at runs newcomer ≡ Some g → HasOneBeside runs newcomer → HasOneEach (room_made cancels newcomer runs g).runs
room_one_each runs fit newcomer g cancels waiting its each =
    let next = (displaced g newcomer runs).runs in
    let first = displaced_settles g newcomer runs fit in
    fading_keeps next (stopped_where_requested cancels g next).runs
    (groups_stay next (stopped_where_requested cancels g next).runs first.stay.fit (requested_settles cancels g next first.stay.fit).stay)
    (requested_fades cancels g next) (displaced_one_each runs fit newcomer g waiting its each)

in_no_group : (runs : List RunState) (g : Group) (h : Holder) → group_at runs h ≡ None → is_in runs g h ≡ true → ⊥
in_no_group runs g h none e = let some : None ≡ Some g = sym none ∙ group_is runs g h e in cc

alone_one_each : (runs : List RunState) (newcomer : Holder) → group_at runs newcomer ≡ None → HasOneBeside runs newcomer → HasOneEach runs
alone_one_each runs newcomer none each = record {
  pending = (λ g h k e f.
      elim (one_or_another h newcomer) [
        | inl is_h ↦ absurd (in_no_group runs g newcomer none
            (ap (is_in runs g) (sym is_h) ∙ (and_parts (is_in runs g h) (waits runs h) e).0))
        | inr not_h ↦ elim (one_or_another k newcomer) [
          | inl is_k ↦
              absurd (in_no_group runs g newcomer none (ap (is_in runs g) (sym is_k) ∙ (and_parts (is_in runs g k) (waits runs k) f).0))
          | inr not_k ↦ each.pending g h k not_h.0 not_k.0 e f
        ]
      ]);
  in_progress = each.in_progress;
}

pub arrival_one_each : (runs : List RunState) → RunsFit runs → (newcomer : Holder) → waits runs newcomer ≡ true → HasOneBeside runs newcomer
    → HasOneEach (arrived newcomer runs).runs
arrival_one_each runs fit newcomer waiting each =
    elim (group_at runs newcomer) as
    (λ o. group_at runs newcomer ≡ o
    → HasOneEach (option_map_or (room_made (cancels_in_progress runs newcomer) newcomer runs) o (without_moves runs)).runs) [
      | None ↦ λ none. alone_one_each runs newcomer none each
      | Some g ↦ λ its. room_one_each runs fit newcomer g (cancels_in_progress runs newcomer) waiting its each
    ] refl
