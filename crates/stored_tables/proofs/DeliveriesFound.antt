-- Look-ups by deliveries: each kept delivery and each run is found by its own, and no run among the kept ones, exactly if no two deliveries are the
-- same.
use Rattle.std.specs.Prelude.{◌≡◌, ℕ, List, nat_eq, ◌++◌, Bool, true, false, is_some, Option, Some, None, option_map, slice_get, refl}
use Rattle.std.specs.Bool.{Decides}
use Rattle.std.specs.List.{position}
use Rattle.std.specs.Str.{bytes_eq}
use Rattle.std.proofs.Common.{ap, sym, ◌∙◌, subst}
use Rattle.std.proofs.lemmas.Bool.{true≢false}
use Rattle.std.proofs.lemmas.Bool.Decides.{Decides-eqb, Decides-like}
use Rattle.std.proofs.lemmas.Slice.Eq.{bytes_eq-Decides}
use Rattle.std.proofs.lemmas.Option.{none-some, same_Some, slice_get-map}
use Rattle.table_model.specs.Forgotten.{deliveries_of}
use Rattle.table_model.specs.Sound.{DeliveriesDiffer}
use Rattle.table_model.specs.Runs.{is_delivered_as, RunState}
use Rattle.forgotten_runs.proofs.TwoLists.{differ_second, differ_together, none_in_both}
use Rattle.table_model.proofs.Found.{each_at, found_nowhere, none_found}
use Rattle.table_model.proofs.OneAfterAnother.{OfEach, no}
use Rattle.table_model.proofs.Optional.{from_map}
use Rattle.table_runs.proofs.Indexed.{first_one}

-- ---- one look-up

pub is_place : (o : Option ℕ) (p r : ℕ) → Some p ≡ o → Decides (nat_eq p r) (o ≡ Some r)
is_place o p r is =
    Decides-like (nat_eq p r) (λ same. sym is ∙ ap Some same) (λ at. same_Some p r (is ∙ at)) (Decides-eqb p r)

pub is_no_place : (o : Option ℕ) (r : ℕ) → None ≡ o → Decides false (o ≡ Some r)
is_no_place o r is = no (λ at. none-some r (is ∙ at))

-- a look-up of a run by a delivery that is kept tells nothing, and by another it tells all
pub kept_first : (kept runs : Option ℕ) (r : ℕ) → is_some kept ≡ true → Decides false ((kept ≡ None) × (runs ≡ Some r))
kept_first kept runs r has = no (λ is. true≢false (sym has ∙ ap (λ (o : Option ℕ). is_some o) is.0))

pub found_second : (kept runs : Option ℕ) (r : ℕ) (b : Bool) → kept ≡ None → Decides b (runs ≡ Some r)
    → Decides b ((kept ≡ None) × (runs ≡ Some r))
found_second kept runs r b none found = Decides-like b (λ at. (none, at)) (λ is. is.1) found

-- ---- each kept delivery is found by itself

abbrev pub is_it : List ℕ → List ℕ → Bool
is_it delivery known = bytes_eq known delivery

abbrev pub IsKeptAt : List (List ℕ) → ℕ → List ℕ → Type 0
IsKeptAt kept k d = position (is_it d) kept ≡ Some k

pub kept_differ : (kept : List (List ℕ)) → OfEach (IsKeptAt kept) kept → DeliveriesDiffer kept
kept_differ kept each a b d at_a at_b = same_Some a b (sym (each a d at_a) ∙ each b d at_b)

pub differ_kept : (kept : List (List ℕ)) → DeliveriesDiffer kept → OfEach (IsKeptAt kept) kept
differ_kept kept differ k d at =
    elim (position (is_it d) kept) as (λ o. position (is_it d) kept ≡ o → o ≡ Some k) [
      | None ↦ λ is.
          let fails = each_at (λ y. is_it d y ≡ false) kept k d (none_found (is_it d) kept (found_nowhere (is_it d) kept is)) at in
          absurd (true≢false (sym ((bytes_eq-Decides d d).1 refl) ∙ fails))
      | Some r ↦ λ is.
          let found = first_one (is_it d) kept r is in
          let same : found.one ≡ d = (bytes_eq-Decides found.one d).0 found.passes in
          ap Some (differ r k d (found.at ∙ ap Some same) at)
    ] refl

-- no kept delivery is the one that is not found
not_kept : (kept : List (List ℕ)) (d : List ℕ) → position (is_it d) kept ≡ None → (i : ℕ) → slice_get kept i ≡ Some d → ⊥
not_kept kept d none i at =
    let fails = each_at (λ y. is_it d y ≡ false) kept i d (none_found (is_it d) kept (found_nowhere (is_it d) kept none)) at in
    true≢false (sym ((bytes_eq-Decides d d).1 refl) ∙ fails)

-- ---- each run is found by its own delivery, and not among the kept ones

abbrev pub IsFoundAt : List (List ℕ) → List RunState → ℕ → RunState → Type 0
IsFoundAt kept runs r x =
    (position (is_it x.admitted.delivery) kept ≡ None) × (position (is_delivered_as x.admitted.delivery) runs ≡ Some r)

pub found_differ : (kept : List (List ℕ)) (runs : List RunState) → DeliveriesDiffer kept → OfEach (IsFoundAt kept runs) runs
    → DeliveriesDiffer (kept ++ deliveries_of runs)
found_differ kept runs before each =
    let its : (k : ℕ) (d : List ℕ) → slice_get (deliveries_of runs) k ≡ Some d
    → (position (is_it d) kept ≡ None) × (position (is_delivered_as d) runs ≡ Some k)
    = λ k d at.
    let from = from_map (λ (x : RunState). x.admitted.delivery) (slice_get runs k) d
    (sym (slice_get-map (λ (x : RunState). x.admitted.delivery) runs k) ∙ at) in
    subst (λ (e : List ℕ). (position (is_it e) kept ≡ None) × (position (is_delivered_as e) runs ≡ Some k)) from.gives
    (each k from.value from.is) in
    differ_together kept (deliveries_of runs) before
    (λ a b d at_a at_b. same_Some a b (sym (its a d at_a).1 ∙ (its b d at_b).1))
    (λ i j d at_i at_j. not_kept kept d (its j d at_j).0 i at_i)

pub differ_found : (kept : List (List ℕ)) (runs : List RunState) → DeliveriesDiffer (kept ++ deliveries_of runs) → OfEach (IsFoundAt kept runs) runs
differ_found kept runs differ k x at =
    let d = x.admitted.delivery in
    let test = is_delivered_as d in
    let of_run : (r : ℕ) (y : RunState) → slice_get runs r ≡ Some y → slice_get (deliveries_of runs) r ≡ Some y.admitted.delivery =
    λ r y there.
    slice_get-map (λ (z : RunState). z.admitted.delivery) runs r ∙ ap (option_map (λ (z : RunState). z.admitted.delivery)) there in (
      elim (position (is_it d) kept) as (λ o. position (is_it d) kept ≡ o → o ≡ None) [
        | None ↦ λ is. refl
        | Some i ↦ λ is.
            let found = first_one (is_it d) kept i is in
            let same : found.one ≡ d = (bytes_eq-Decides found.one d).0 found.passes in
            absurd (none_in_both kept (deliveries_of runs) differ i k d (found.at ∙ ap Some same) (of_run k x at))
      ] refl,
      elim (position test runs) as (λ o. position test runs ≡ o → o ≡ Some k) [
        | None ↦ λ is.
            let fails = each_at (λ y. test y ≡ false) runs k x (none_found test runs (found_nowhere test runs is)) at in
            absurd (true≢false (sym ((bytes_eq-Decides d d).1 refl) ∙ fails))
        | Some r ↦ λ is.
            let found = first_one test runs r is in
            let same : found.one.admitted.delivery ≡ d = (bytes_eq-Decides found.one.admitted.delivery d).0 found.passes in
            ap Some
            (differ_second kept (deliveries_of runs) differ r k d (of_run r found.one found.at ∙ ap Some same) (of_run k x at))
      ] refl,
    )
