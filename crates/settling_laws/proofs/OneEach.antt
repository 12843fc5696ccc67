-- In each group at most one holder is pending and at most one is in progress: what preserves this.
use Rattle.std.specs.Prelude.{◌≡◌, ℕ, List, [], ◌∷◌, ◌||◌, ◌⊎◌, map, not, Bool, true, false, Option, Some, None, refl}
use Rattle.std.specs.List.{AllByRecursion, list_any}
use Rattle.std.specs.Option.{option_map_or}
use Rattle.std.proofs.Common.{ap, inl, inr, sym, ◌∙◌}
use Rattle.std.proofs.lemmas.Bool.{and_from, and_parts, not-true, true≢false}
use Rattle.group_name.specs.Group.{Group, same_group}
use Rattle.group_name.proofs.SameGroups.{same_is_one}
use Rattle.table_model.specs.Runs.{placed, leg_at, leg_sites, run_at, LegState, RunState}
use Rattle.table_model.specs.Groups.{group_at, may_start, waits}
use Rattle.table_model.specs.Groups.{HasOneBeside, HasOneEach, all_holders, holds, is_in, is_pending_in, is_in_progress_in, is_taken}
use Rattle.table_model.specs.declared.sites.LegSite.{LegSite}
use Rattle.table_model.proofs.Found.{each_of_append, each_of_map, each_of_placed}
use Rattle.table_model.proofs.RunFits.{RunsFit}
use Rattle.table_model.proofs.Settles.{StayFit}
use Rattle.settling_laws.proofs.GroupStays.{group_stays}
use Rattle.settling_laws.proofs.HolderPlaces.{each_leg_place}
use Rattle.table_model.specs.declared.holder.Holder.{Holder}
use Rattle.table_model.specs.declared.holder.Holder.TheVariants.{Run, Leg}

-- ---- groups that the test finds equal are equal

in_some : (g : Group) (o : Option Group) → option_map_or (same_group g) o false ≡ true → o ≡ Some g
in_some g None e = cc
in_some g (Some k) e = ap Some (sym (same_is_one g k e))

pub group_is : (runs : List RunState) (g : Group) (h : Holder) → is_in runs g h ≡ true → group_at runs h ≡ Some g
group_is runs g h e = in_some g (group_at runs h) e

-- ---- a holder that waits or holds is in the table

-- the run or the leg is in the table
abbrev pub IsOneOf : List RunState → Holder → Type 0
IsOneOf runs (Run r) = (x : RunState) × (run_at runs r ≡ Some x)
IsOneOf runs (Leg p) = (z : LegState) × (leg_at runs p ≡ Some z)

leg_there : (runs : List RunState) (p : LegSite) (test : LegState → Bool) (o : Option LegState) → leg_at runs p ≡ o
    → option_map_or test o false ≡ true → IsOneOf runs (Leg p)
leg_there runs p test None is e = cc
leg_there runs p test (Some z) is e = (z, is)

run_there : (runs : List RunState) (r : ℕ) (test : RunState → Bool) (o : Option RunState) → run_at runs r ≡ o
    → option_map_or test o false ≡ true → IsOneOf runs (Run r)
run_there runs r test None is e = cc
run_there runs r test (Some x) is e = (x, is)

pub one_that_waits : (runs : List RunState) (h : Holder) → waits runs h ≡ true → IsOneOf runs h
one_that_waits runs (Run r) e = run_there runs r _ (run_at runs r) refl e
one_that_waits runs (Leg p) e = leg_there runs p _ (leg_at runs p) refl e

pub one_that_holds : (runs : List RunState) (h : Holder) → holds runs h ≡ true → IsOneOf runs h
one_that_holds runs (Run r) e = run_there runs r _ (run_at runs r) refl e
one_that_holds runs (Leg p) e = leg_there runs p _ (leg_at runs p) refl e

-- the groups of holders in the table do not change
abbrev pub GroupsStay : List RunState → List RunState → Type 0
GroupsStay runs next = (h : Holder) → IsOneOf runs h → group_at next h ≡ group_at runs h

stays_there : (runs next : List RunState) → RunsFit runs → StayFit runs next → (h : Holder) → IsOneOf runs h
    → group_at next h ≡ group_at runs h
stays_there runs next fit stay (Run r) there = group_stays runs next fit stay (Run r) tt
stays_there runs next fit stay (Leg p) there = group_stays runs next fit stay (Leg p) there

pub groups_stay : (runs next : List RunState) → RunsFit runs → StayFit runs next → GroupsStay runs next
groups_stay runs next fit stay h there = stays_there runs next fit stay h there

-- ---- a change after which each holder waits or holds only if it did before

pub record Fades (runs next : List RunState) : Type 0 where
  pub waited : (h : Holder) → waits next h ≡ true → waits runs h ≡ true
  pub held : (h : Holder) → holds next h ≡ true → holds runs h ≡ true

pub fades_not : (runs : List RunState) → Fades runs runs
fades_not runs = record { waited = (λ h e. e); held = (λ h e. e) }

pub fades_on : (a b c : List RunState) → Fades a b → Fades b c → Fades a c
fades_on a b c f g = record { waited = (λ h e. f.waited h (g.waited h e)); held = (λ h e. f.held h (g.held h e)) }

module _ (runs next : List RunState) (stays : GroupsStay runs next) where
  pub was_in : (g : Group) (h : Holder) → IsOneOf runs h → is_in next g h ≡ true → is_in runs g h ≡ true
  was_in g h there e = ap (λ o. option_map_or (same_group g) o false) (sym (stays h there)) ∙ e

  pub pended : (g : Group) (h : Holder) → waits runs h ≡ true → is_in next g h ≡ true → is_pending_in runs g h ≡ true
  pended g h waited e = and_from (is_in runs g h) (waits runs h) (was_in g h (one_that_waits runs h waited) e) waited

  pub ran : (g : Group) (h : Holder) → holds runs h ≡ true → is_in next g h ≡ true → is_in_progress_in runs g h ≡ true
  ran g h held e = and_from (is_in runs g h) (holds runs h) (was_in g h (one_that_holds runs h held) e) held

module _ (runs next : List RunState) (stays : GroupsStay runs next) (fades : Fades runs next) where
  pub was_pending : (g : Group) (h : Holder) → is_pending_in next g h ≡ true → is_pending_in runs g h ≡ true
  was_pending g h e =
      let parts = and_parts (is_in next g h) (waits next h) e in pended runs next stays g h (fades.waited h parts.1) parts.0

  pub was_in_progress : (g : Group) (h : Holder) → is_in_progress_in next g h ≡ true → is_in_progress_in runs g h ≡ true
  was_in_progress g h e =
      let parts = and_parts (is_in next g h) (holds next h) e in ran runs next stays g h (fades.held h parts.1) parts.0

  pub fading_keeps : HasOneEach runs → HasOneEach next
  fading_keeps one = record {
    pending = (λ g h k e f. one.pending g h k (was_pending g h e) (was_pending g k f));
    in_progress = (λ g h k e f. one.in_progress g h k (was_in_progress g h e) (was_in_progress g k f));
  }

-- ---- no holder is in progress in a group that is not taken

none_of : {X : Type 0} (test : X → Bool) (xs : List X) → list_any test xs ≡ false → AllByRecursion (λ x. test x ≡ false) xs
none_of test [] e = tt
none_of test (x ∷ xs) e =
    elim (test x) as (λ b. test x ≡ b → AllByRecursion (λ y. test y ≡ false) (x ∷ xs)) [
      | true ↦ λ is. absurd (true≢false (sym (ap (λ b. b || list_any test xs) is) ∙ e))
      | false ↦ λ is. (is, none_of test xs (sym (ap (λ b. b || list_any test xs) is) ∙ e))
    ] refl

-- a property of all runs and legs holds of each
pub each_holder : (P : Holder → Type 0) (runs : List RunState) (h : Holder) → AllByRecursion P (all_holders runs) → IsOneOf runs h → P h
each_holder P runs (Run r) all there =
    let of_runs = (each_of_append P (map (λ x. Run x.0) (placed runs)) (map (λ p. Leg p) (leg_sites runs)) all).0 in
    each_of_placed (λ (x : ℕ × RunState). P (Run x.0)) runs r there.0
    (each_of_map P (λ (x : ℕ × RunState). Run x.0) (placed runs) of_runs) there.1
each_holder P runs (Leg p) all there =
    let of_legs = (each_of_append P (map (λ x. Run x.0) (placed runs)) (map (λ p. Leg p) (leg_sites runs)) all).1 in
    each_leg_place (λ q. P (Leg q)) runs p there.0 (each_of_map P (λ q. Leg q) (leg_sites runs) of_legs) there.1

pub not_taken : (runs : List RunState) (g : Group) (h : Holder) → is_taken runs g ≡ false → is_in_progress_in runs g h ≡ true → ⊥
not_taken runs g h free e =
    let none = none_of (is_in_progress_in runs g) (all_holders runs) free in
    true≢false
    (sym e
    ∙ each_holder (λ k. is_in_progress_in runs g k ≡ false) runs h none (one_that_holds runs h (and_parts (is_in runs g h) (holds runs h) e).1))

-- ---- a holder starts

-- no holder runs in the group of one that may start
pub free_to_start : (runs : List RunState) (g : Group) (h k : Holder) → may_start runs h ≡ true → is_in runs g h ≡ true
    → is_in_progress_in runs g k ≡ true → ⊥
free_to_start runs g h k may e in_progress =
    let at = ap (λ o. option_map_or (λ v. not (is_taken runs v)) o true) (group_is runs g h e) in
    not_taken runs g k (not-true (is_taken runs g) (sym at ∙ may)) in_progress

-- every other holder waits or holds only if it did before
pub record Starts (runs next : List RunState) (one : Holder) : Type 0 where
  pub waited : (h : Holder) → waits next h ≡ true → waits runs h ≡ true
  pub held : (h : Holder) → holds next h ≡ true → (h ≡ one) ⊎ (holds runs h ≡ true)

module _ (runs next : List RunState) (one : Holder) (stays : GroupsStay runs next) (starts : Starts runs next one)
    (may : may_start runs one ≡ true) (there : IsOneOf runs one) where
  in_before : (g : Group) (h : Holder) → h ≡ one → is_in next g h ≡ true → is_in runs g one ≡ true
  in_before g h same e = was_in runs next stays g one there (ap (is_in next g) (sym same) ∙ e)

  one_runs : HasOneEach runs → (g : Group) (h k : Holder) → is_in_progress_in next g h ≡ true → is_in_progress_in next g k ≡ true → h ≡ k
  one_runs each g h k e f =
      let of_h = and_parts (is_in next g h) (holds next h) e in
      let of_k = and_parts (is_in next g k) (holds next k) f in
      elim (starts.held h of_h.1) [
        | inl is_h ↦ elim (starts.held k of_k.1) [
          | inl is_k ↦ is_h ∙ sym is_k
          | inr held_k ↦ absurd (free_to_start runs g one k may (in_before g h is_h of_h.0) (ran runs next stays g k held_k of_k.0))
        ]
        | inr held_h ↦ elim (starts.held k of_k.1) [
          | inl is_k ↦ absurd (free_to_start runs g one h may (in_before g k is_k of_k.0) (ran runs next stays g h held_h of_h.0))
          | inr held_k ↦ each.in_progress g h k (ran runs next stays g h held_h of_h.0) (ran runs next stays g k held_k of_k.0)
        ]
      ]

  waited_before : (g : Group) (h : Holder) → is_pending_in next g h ≡ true → is_pending_in runs g h ≡ true
  waited_before g h e =
      let parts = and_parts (is_in next g h) (waits next h) e in pended runs next stays g h (starts.waited h parts.1) parts.0

  pub start_keeps : HasOneEach runs → HasOneEach next
  start_keeps each = record {
    pending = (λ g h k e f. each.pending g h k (waited_before g h e) (waited_before g k f));
    in_progress = one_runs each;
  }

-- ---- an arrival, once no other holder is pending in the newcomer's group

pub besides_fades : (runs next : List RunState) (one : Holder) → GroupsStay runs next → Fades runs next → HasOneBeside runs one
    → HasOneBeside next one
besides_fades runs next one stays fades each = record {
  pending = (λ g h k not_h not_k e f.
      each.pending g h k not_h not_k (was_pending runs next stays fades g h e) (was_pending runs next stays fades g k f));
  in_progress = (λ g h k e f. each.in_progress g h k (was_in_progress runs next stays fades g h e) (was_in_progress runs next stays fades g k f));
}

-- the newcomer waits, and every other holder waits or holds only if it did before
pub record Comes (runs next : List RunState) (one : Holder) : Type 0 where
  pub waited : (h : Holder) → waits next h ≡ true → (h ≡ one) ⊎ (waits runs h ≡ true)
  pub held : (h : Holder) → holds next h ≡ true → holds runs h ≡ true

module _ (runs next : List RunState) (one : Holder) (stays : GroupsStay runs next) (comes : Comes runs next one) where
  pub was_another : (g : Group) (h : Holder) → (h ≡ one → ⊥) → is_pending_in next g h ≡ true → is_pending_in runs g h ≡ true
  was_another g h other e =
      let parts = and_parts (is_in next g h) (waits next h) e in
      elim (comes.waited h parts.1) [
        | inl same ↦ absurd (other same)
        | inr waited ↦ pended runs next stays g h waited parts.0
      ]

  pub ran_too : (g : Group) (h : Holder) → is_in_progress_in next g h ≡ true → is_in_progress_in runs g h ≡ true
  ran_too g h e =
      let parts = and_parts (is_in next g h) (holds next h) e in ran runs next stays g h (comes.held h parts.1) parts.0

  pub newcomer_besides : HasOneEach runs → HasOneBeside next one
  newcomer_besides each = record {
    pending = (λ g h k not_h not_k e f. each.pending g h k (was_another g h not_h e) (was_another g k not_k f));
    in_progress = (λ g h k e f. each.in_progress g h k (ran_too g h e) (ran_too g k f));
  }

-- ---- no runs

nobody_waits : (h : Holder) → waits [] h ≡ true → ⊥
nobody_waits (Run r) e = cc
nobody_waits (Leg p) e = cc

nobody_holds : (h : Holder) → holds [] h ≡ true → ⊥
nobody_holds (Run r) e = cc
nobody_holds (Leg p) e = cc

pub none_of_each : HasOneEach []
none_of_each = record {
  pending = (λ g h k e f. absurd (nobody_waits h (and_parts (is_in [] g h) (waits [] h) e).1));
  in_progress = (λ g h k e f. absurd (nobody_holds h (and_parts (is_in [] g h) (holds [] h) e).1));
}
