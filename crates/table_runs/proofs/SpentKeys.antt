-- What is known of groups once a run or a leg has brought its key to its group.
use Rattle.std.specs.Prelude.{◌≡◌, ℕ, zero, suc, ◌+◌, List, [], ◌∷◌, sum_by, Bool, Option, None, Some, option_and_then, option_map, slice_get, refl}
use Rattle.std.specs.Option.{option_map_or}
use Rattle.std.proofs.Common.{arith, ap, inl, inr, sym, ◌∙◌}
use Rattle.std.proofs.lemmas.Bool.{cases_eq}
use Rattle.std.proofs.lemmas.List.Sums.{sum_by-cons}
use Rattle.group_name.specs.Group.{Group}
use Rattle.table_model.specs.Runs.{changed_at}
use Rattle.table_model.specs.Holders.{run_of}
use Rattle.table_model.specs.declared.holder.Holder.{Holder}
use Rattle.table_model.specs.declared.holder.Holder.TheVariants.{Run, Leg}
use Rattle.table_model.specs.declared.sites.LegSite.{LegSite}
use Rattle.table_model.proofs.Changed.{at_another, at_changed}
use Rattle.table_model.proofs.LeaseReads.{same_place}
use Rattle.table_bindings.specs.GroupKeys.{KeyState, arrivals_in, arrivals_of, arrivals_of_legs, holder_key, key_in, spent, ticket_in, with_spent}
use Rattle.table_bindings.specs.declared.group_keys.HolderKey.{HolderKey}
use Rattle.table_bindings.specs.declared.group_keys.HolderKey.TheVariants.{Known, Later, NoGroup}
use Rattle.table_bindings.specs.declared.group_keys.KnownGroup.{KnownGroup}

-- ---- one key

pub key_spent : (k : HolderKey) → key_in (spent k) ≡ key_in k
key_spent (Later room ticket) = refl
key_spent NoGroup = refl
key_spent (Known known) = refl

-- one that is known afterwards was known, with the same flag
pub known_spent : (k : HolderKey) (known : KnownGroup) → spent k ≡ Known known → (was : KnownGroup) × (k ≡ Known was) × (was.cancels ≡ known.cancels)
known_spent (Later room ticket) known e = cc
known_spent NoGroup known e = cc
known_spent (Known was) known e = (was, refl, ap flag (one (record { key = was.key; ticket = None; cancels = was.cancels }) known e))
  where
    flag : KnownGroup → Bool
    flag k = k.cancels

    one : (a b : KnownGroup) → Known a ≡ Known b → a ≡ b
    one a b e = cc

-- how many arrivals a key still stands for
abbrev pub one_each : Option Group → ℕ
one_each o = option_map_or (λ (g : Group). 1) o 0

spent_arrives : (k : HolderKey) → arrivals_in (spent k) + one_each (ticket_in k) ≡ arrivals_in k
spent_arrives (Later room ticket) = refl
spent_arrives NoGroup = refl
spent_arrives (Known known) = omega arith

-- ---- the keys of a run

pub spent_here : (h : Holder) (keys : KeyState) → holder_key (with_spent h keys) h ≡ option_map spent (holder_key keys h)
spent_here (Run r) keys = refl
spent_here (Leg p) keys =
    ap (option_and_then (λ (legs : List HolderKey). slice_get legs p.leg))
    (at_changed p.job (λ (legs : List HolderKey). changed_at p.leg spent legs) keys.jobs)
    ∙ by (slice_get keys.jobs p.job)
  where
    by : (o : Option (List HolderKey))
        → option_and_then (λ (legs : List HolderKey). slice_get legs p.leg) (option_map (λ (legs : List HolderKey). changed_at p.leg spent legs) o)
        ≡ option_map spent (option_and_then (λ (legs : List HolderKey). slice_get legs p.leg) o)
    by None = refl
    by (Some legs) = at_changed p.leg spent legs

another_leg : (p q : LegSite) (jobs : List (List HolderKey)) → p.run ≡ q.run → (q ≡ p → ⊥)
    → option_and_then (λ (legs : List HolderKey). slice_get legs q.leg) (slice_get (changed_at p.job (λ (legs : List HolderKey). changed_at p.leg spent legs) jobs) q.job)
    ≡ option_and_then (λ (legs : List HolderKey). slice_get legs q.leg) (slice_get jobs q.job)
another_leg p q jobs same other =
    let change : List HolderKey → List HolderKey = λ legs. changed_at p.leg spent legs in
    let read : Option (List HolderKey) → Option HolderKey = option_and_then (λ (legs : List HolderKey). slice_get legs q.leg) in
    elim (cases_eq q.job p.job) [
      | inr job ↦ ap read (at_another p.job change jobs q.job job)
      | inl job ↦
          let leg : q.leg ≡ p.leg → ⊥ = λ e. other (same_place q p (sym same) job e) in
          let kept : (o : Option (List HolderKey)) → read (option_map change o) ≡ read o =
          λ o. elim o as (λ o. read (option_map change o) ≡ read o) [
            | None ↦ refl
            | Some legs ↦ at_another p.leg spent legs q.leg leg
          ] in
          ap (λ j. read (slice_get (changed_at p.job change jobs) j)) job
          ∙ ap read (at_changed p.job change jobs) ∙ kept (slice_get jobs p.job) ∙ ap (λ j. read (slice_get jobs j)) (sym job)
    ]

pub spent_elsewhere : (h k : Holder) (keys : KeyState) → run_of h ≡ run_of k → (k ≡ h → ⊥) → holder_key (with_spent h keys) k ≡ holder_key keys k
spent_elsewhere (Run r) (Run s) keys same other = absurd (other (ap Run (sym same)))
spent_elsewhere (Run r) (Leg q) keys same other = refl
spent_elsewhere (Leg p) (Run s) keys same other = refl
spent_elsewhere (Leg p) (Leg q) keys same other = another_leg p q keys.jobs same (λ e. other (ap Leg e))

-- ---- arrivals to come

pub sum_lowered : {X : Type 0} (count : X → ℕ) (f : X → X) (xs : List X) (i n : ℕ)
    → ((x : X) → slice_get xs i ≡ Some x → count (f x) + n ≡ count x) → (slice_get xs i ≡ None → n ≡ 0)
    → sum_by count (changed_at i f xs) + n ≡ sum_by count xs
sum_lowered count f [] i n lowers none = omega (arith, none refl)
sum_lowered count f (x ∷ xs) zero n lowers none =
    omega (arith, sum_by-cons count x xs, sum_by-cons count (f x) xs, lowers x refl)
sum_lowered count f (x ∷ xs) (suc i) n lowers none =
    omega (arith, sum_by-cons count x xs, sum_by-cons count x (changed_at i f xs), sum_lowered count f xs i n lowers none)

legs_lowered : (l : ℕ) (legs : List HolderKey)
    → arrivals_of_legs (changed_at l spent legs) + one_each (option_and_then ticket_in (slice_get legs l)) ≡ arrivals_of_legs legs
legs_lowered l legs =
    sum_lowered arrivals_in spent legs l (one_each (option_and_then ticket_in (slice_get legs l)))
    (λ key at. ap (λ o. arrivals_in (spent key) + one_each (option_and_then ticket_in o)) at ∙ spent_arrives key)
    (λ none. ap (λ o. one_each (option_and_then ticket_in o)) none)

jobs_lowered : (p : LegSite) (keys : KeyState)
    → sum_by arrivals_of_legs (changed_at p.job (λ (legs : List HolderKey). changed_at p.leg spent legs) keys.jobs)
    + one_each (option_and_then ticket_in (holder_key keys (Leg p)))
    ≡ sum_by arrivals_of_legs keys.jobs
jobs_lowered p keys =
    let read : Option (List HolderKey) → Option HolderKey = option_and_then (λ (legs : List HolderKey). slice_get legs p.leg) in
    sum_lowered arrivals_of_legs (λ (legs : List HolderKey). changed_at p.leg spent legs) keys.jobs p.job
    (one_each (option_and_then ticket_in (read (slice_get keys.jobs p.job))))
    (λ legs at. ap (λ o. arrivals_of_legs (changed_at p.leg spent legs) + one_each (option_and_then ticket_in (read o))) at ∙ legs_lowered p.leg legs)
    (λ none. ap (λ o. one_each (option_and_then ticket_in (read o))) none)

pub arrivals_spent : (h : Holder) (keys : KeyState)
    → arrivals_of (with_spent h keys) + one_each (option_and_then ticket_in (holder_key keys h)) ≡ arrivals_of keys
arrivals_spent (Run r) keys = omega (arith, spent_arrives keys.own)
arrivals_spent (Leg p) keys = omega (arith, jobs_lowered p keys)
