-- The runners after one is inserted, by their names.
use Rattle.std.specs.Prelude.{◌≡◌, ℕ, zero, suc, ◌<◌, List, [], ◌∷◌, cond, filter, find, length, true, false, Option, Some, None}
use Rattle.std.specs.Prelude.{option_and_then, slice_get, refl}
use Rattle.std.specs.List.{AllByRecursion, position}
use Rattle.std.specs.Option.{option_or}
use Rattle.std.specs.Ordering.{is_lt}
use Rattle.std.specs.declared.cmp.Ordering.TheVariants.{Less, Equal, Greater}
use Rattle.std.proofs.Common.{arith, ap, sym, ◌∙◌, get_or}
use Rattle.std.proofs.lemmas.Bool.{true≢false}
use Rattle.std.proofs.lemmas.List.Folds.{find-append}
use Rattle.std.proofs.lemmas.Map.Lookups.{exact_bytes}
use Rattle.std.proofs.lemmas.Option.{slice_get_past}
use Rattle.std.proofs.lemmas.Slice.Eq.{bytes_eq-Decides}
use Rattle.wf_value.proofs.Rising.{Equal-from_same, after_less, name_cmp, names_apart}
use Rattle.wf_value.proofs.OptionOr.{or_none}
use Rattle.table_model.specs.TableState.{RunnerState, is_named, is_below, is_above, names_rise, runner_named, with_runner}
use Rattle.table_model.proofs.Filters.{all_filter, find_gone, find_kept}
use Rattle.table_model.proofs.Found.{all_append, each_at, find_passes, found_at, found_nowhere, none_found}
use Rattle.table_model.proofs.LeaseReads.{ChangesAt}
use Rattle.run_table.proofs.RunnerOrder.{after_greater}

-- ---- a runner and its name

-- the runner of a name has it
pub has_the_name : (runners : List RunnerState) (name : List ℕ) (x : RunnerState) → runner_named runners name ≡ Some x → x.name ≡ name
has_the_name runners name x found = (bytes_eq-Decides x.name name).0 (find_passes (is_named name) runners x found)

-- ---- the index at which a runner was, past the end if there was none of its name

pub record Stood (runners : List RunnerState) (name : List ℕ) : Type 0 where
  pub place : ℕ
  pub was : slice_get runners place ≡ runner_named runners name

pub stood : (runners : List RunnerState) (name : List ℕ) → Stood runners name
stood runners name =
    elim (position (is_named name) runners) as (λ o. position (is_named name) runners ≡ o → Stood runners name) [
      | Some i ↦ λ is. record { place = i; was = sym (found_at (is_named name) runners i is).is }
      | None ↦ λ is. record {
        place = length runners;
        was = slice_get_past runners (length runners) (omega arith) ∙ sym (found_nowhere (is_named name) runners is);
      }
    ] refl

at_place : {X : Type 0} (xs : List X) (k : ℕ) (x d : X) → slice_get xs k ≡ Some x → (k < length xs) × (get_or xs k d ≡ x)
at_place [] k x d e = cc
at_place (y ∷ ys) zero x d e = (omega arith, cc)
at_place (y ∷ ys) (suc k) x d e = let more = at_place ys k x d e in (omega (arith, more.0), more.1)

-- no two indices have the same name
pub apart : (runners : List RunnerState) → names_rise runners ≡ true → (a b : ℕ) (x y : RunnerState) → slice_get runners a ≡ Some x
    → slice_get runners b ≡ Some y → x.name ≡ y.name → a ≡ b
apart runners h a b x y at bt same =
    let one = at_place runners a x x at in
    let other = at_place runners b y x bt in
    let name = λ (r : RunnerState). r.name in
    names_apart name runners a b x h one.0 other.0 (ap name one.1 ∙ same ∙ sym (ap name other.1))

-- so a runner is found by its name
pub found_by_name : (runners : List RunnerState) → names_rise runners ≡ true → (k : ℕ) (x : RunnerState) → slice_get runners k ≡ Some x
    → runner_named runners x.name ≡ Some x
found_by_name runners h k x at =
    let is_it : is_named x.name x ≡ true = (bytes_eq-Decides x.name x.name).1 refl in
    elim (runner_named runners x.name) as (λ o. runner_named runners x.name ≡ o → o ≡ Some x) [
      | None ↦ λ is. absurd (true≢false (sym is_it
          ∙ each_at (λ (y : RunnerState). is_named x.name y ≡ false) runners k x (none_found (is_named x.name) runners is) at))
      | Some y ↦ λ is.
          let s = stood runners x.name in
          let place = apart runners h s.place k y x (s.was ∙ is) at (has_the_name runners x.name y is) in
          sym (s.was ∙ is) ∙ ap (slice_get runners) place ∙ at
    ] refl

-- ---- what is preserved

pub all_from_each : {X : Type 0} (P : X → Type 0) (xs : List X) → ((k : ℕ) (x : X) → slice_get xs k ≡ Some x → P x) → AllByRecursion P xs
all_from_each P [] h = tt
all_from_each P (x ∷ xs) h = (h zero x refl, all_from_each P xs (λ k y e. h (suc k) y e))

module _ (runners : List RunnerState) (new : RunnerState) where
  -- each runner is the new one or was there before
  pub each_put : (P : RunnerState → Type 0) → P new → ((k : ℕ) (x : RunnerState) → slice_get runners k ≡ Some x → P x)
      → (k : ℕ) (x : RunnerState) → slice_get (with_runner runners new) k ≡ Some x → P x
  each_put P now each k x e =
      let all = all_from_each P runners each in
      each_at P (with_runner runners new) k x
      (all_append P (filter (is_below new.name) runners) (new ∷ filter (is_above new.name) runners)
      (all_filter (is_below new.name) P runners all) (now, all_filter (is_above new.name) P runners all)) e

  found_in_parts : (name : List ℕ)
      → runner_named (with_runner runners new) name
      ≡ option_or (find (is_named name) (filter (is_below new.name) runners))
      (cond (is_named name new) (Some new) (find (is_named name) (filter (is_above new.name) runners)))
  found_in_parts name = find-append (is_named name) (filter (is_below new.name) runners) (new ∷ filter (is_above new.name) runners)

  -- the new one is found by its name
  pub found_new : runner_named (with_runner runners new) new.name ≡ Some new
  found_new =
      let is_it : is_named new.name new ≡ true = (bytes_eq-Decides new.name new.name).1 refl in
      let none = find_gone (is_named new.name) (is_below new.name)
      (λ x named. ap is_lt (Equal-from_same x.name new.name ((bytes_eq-Decides x.name new.name).0 named))) runners in
      let back = find (is_named new.name) (filter (is_above new.name) runners) in
      found_in_parts new.name ∙ ap (λ o. option_or o (cond (is_named new.name new) (Some new) back)) none
      ∙ ap (λ b. cond b (Some new) back) is_it

  -- and each other is found as before
  pub found_other : (name : List ℕ) → (name ≡ new.name → ⊥) → runner_named (with_runner runners new) name ≡ runner_named runners name
  found_other name other =
      let test = is_named name in
      let same = λ (x : RunnerState) (named : is_named name x ≡ true). (bytes_eq-Decides x.name name).0 named in
      let prefix = find test (filter (is_below new.name) runners) in
      let back = find test (filter (is_above new.name) runners) in
      let parts : runner_named (with_runner runners new) name ≡ option_or prefix back =
      found_in_parts name ∙ ap (λ b. option_or prefix (cond b (Some new) back)) (not_new name other) in
      elim (name_cmp name new.name) as (λ o. name_cmp name new.name ≡ o
      → runner_named (with_runner runners new) name ≡ runner_named runners name) [
        | Less ↦ λ lt.
            let kept = find_kept test (is_below new.name)
            (λ x named. ap is_lt (ap (λ n. name_cmp n new.name) (same x named) ∙ lt)) runners in
            let gone = find_gone test (is_above new.name)
            (λ x named. ap is_lt (ap (name_cmp new.name) (same x named) ∙ after_less name new.name lt)) runners in
            parts ∙ ap (λ o. option_or o back) kept ∙ ap (option_or (runner_named runners name)) gone ∙ or_none (runner_named runners name)
        | Equal ↦ λ eq. absurd (other (exact_bytes name new.name eq))
        | Greater ↦ λ gt.
            let gone = find_gone test (is_below new.name)
            (λ x named. ap is_lt (ap (λ n. name_cmp n new.name) (same x named) ∙ gt)) runners in
            let kept = find_kept test (is_above new.name)
            (λ x named. ap is_lt (ap (name_cmp new.name) (same x named) ∙ after_greater name new.name gt)) runners in
            parts ∙ ap (λ o. option_or o back) gone ∙ kept
      ] refl
    where
      not_new : (name : List ℕ) → (name ≡ new.name → ⊥) → is_named name new ≡ false
      not_new name other =
          elim (is_named name new) as (λ b. is_named name new ≡ b → b ≡ false) [
            | true ↦ λ named. absurd (other (sym ((bytes_eq-Decides new.name name).0 named)))
            | false ↦ λ _. refl
          ] refl

-- ---- the leases that runners hold, by their names

abbrev pub holds_at : List RunnerState → List ℕ → Option ℕ
holds_at runners name = option_and_then (λ x. x.holds) (runner_named runners name)

pub holds_changes : (runners : List RunnerState) (new : RunnerState)
    → ChangesAt (holds_at runners) (holds_at (with_runner runners new)) new.name new.holds
holds_changes runners new = record {
  here = ap (option_and_then (λ (x : RunnerState). x.holds)) (found_new runners new);
  elsewhere = (λ name n. ap (option_and_then (λ (x : RunnerState). x.holds)) (found_other runners new name n));
}
