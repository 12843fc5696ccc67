-- A run is given no place exactly where a later one asks already, and it does not.
use Rattle.std.proofs.Common.{◌≡◌, ◌↔◌, ℕ, zero, suc, ◌+◌, ◌<◌, List, length, Bool, true, false, is_some, Option, None, Some, Err, Result, IfOk, get_or, slice_get, true≢false, refl, sym, ap, subst, ◌∙◌, arith}
use Rattle.std.specs.List.Sorted.{IsBinarySearchResult}
use Rattle.std.specs.Option.{option_map_or}
use Rattle.std.specs.Ordering.{nat_cmp}
use Rattle.std.proofs.lemmas.List.Sorted.{searched}
use Rattle.label_lists.specs.Requesting.{RequestingState, requests_in, index_of}
use Rattle.label_lists.specs.inner.Requesting.{Begins, IsPassed}
use Rattle.label_lists.specs.inner.Known.{IsPassedFor, KnownState, SameRequested}
use Rattle.label_lists.specs.Known.{requests_at}
use Rattle.label_lists.specs.Lists.{HasPlace, IsPassedUnder, ListsState, labels_of}
use Rattle.label_lists.proofs.Places.{Rises, missing, no_less, place_found, place_there}
use Rattle.label_lists.proofs.Writes.{within_if}

-- ---- among the runs of one list

abbrev pub has_place : List ℕ → ℕ → Bool
has_place runs run = is_some (index_of runs run)

-- one that has a place is not passed
pub requests_itself : (runs : List ℕ) (run i : ℕ) → index_of runs run ≡ Some i → ((true ≡ false) ↔ IsPassed (has_place runs) run)
requests_itself runs run i at = (
  λ bad. absurd (true≢false bad),
  λ passed. absurd (true≢false (sym (ap is_some at) ∙ passed.not_yet)),
)

-- nor is one that comes after all
pub comes_last : (runs : List ℕ) (run : ℕ) → Begins runs run (length runs) → ((true ≡ false) ↔ IsPassed (has_place runs) run)
comes_last runs run begins = (λ bad. absurd (true≢false bad), λ passed. absurd (nobody passed (index_of runs passed.later) refl))
  where
    nobody : (passed : IsPassed (has_place runs) run) (o : Option ℕ) → index_of runs passed.later ≡ o → ⊥
    nobody passed None at = true≢false (sym passed.already ∙ ap is_some at)
    nobody passed (Some i) at =
        let here = place_there runs passed.later i at in
        let less = begins.before i here.within here.within in
        let same = here.at in
        let suffix = passed.suffix in
        omega (arith, less, same, suffix)

-- and one is that would come before another
pub comes_before : (runs : List ℕ) (run index : ℕ) → Rises runs → IsBinarySearchResult (λ y. nat_cmp y run) runs (Err index) → index < length runs
    → ((false ≡ false) ↔ IsPassed (has_place runs) run)
comes_before runs run index rises is within =
    let s = searched runs run (Err index) is (no_less runs rises) in
    let great = s.2 index (omega arith) within in (
      λ _. record {
        not_yet = ap is_some (missing runs rises run index is);
        later = get_or runs index 0;
        suffix = omega (arith, great);
        already = ap is_some (place_found runs index (get_or runs index 0) rises within refl);
      },
      λ _. refl,
    )

-- ---- among those of the list of a number

pub passed_there : {E : Type 0} (requesting : List RequestingState) (k : ℕ) (old : RequestingState) (run : ℕ) (result : Result Bool E) → slice_get requesting k ≡ Some old
    → IfOk result (λ has. (has ≡ false) ↔ IsPassed (requests_in old) run) → IfOk result (λ has. (has ≡ false) ↔ IsPassed (requests_at requesting k) run)
passed_there requesting k old run result there is =
    subst (λ o. IfOk result (λ has. (has ≡ false) ↔ IsPassed (λ r. option_map_or (λ a. requests_in a r) o false) run)) (sym there) is

module _ (old : KnownState) (requesting : List RequestingState) (same : SameRequested old.requesting requesting) (labels : List (List ℕ)) (number run : ℕ)
    (keeps : (k : ℕ) → slice_get old.lists k ≡ Some labels → number ≡ k)
    (had : number < length old.requesting → slice_get old.lists number ≡ Some labels) where
  was_passed : IsPassed (requests_at requesting number) run → IsPassedFor old labels run
  was_passed passed =
      let requested = sym (same number passed.later) ∙ passed.already in
      record {
        number = number;
        has_number = had (within_if (λ a. requests_in a passed.later) old.requesting number requested);
        passed = record { not_yet = sym (same number run) ∙ passed.not_yet; later = passed.later; suffix = passed.suffix; already = requested };
      }

  is_passed : IsPassedFor old labels run → IsPassed (requests_at requesting number) run
  is_passed passed =
      let one : number ≡ passed.number = keeps passed.number passed.has_number in
      let p = passed.passed in
      record {
        not_yet = same number run ∙ ap (λ n. requests_at old.requesting n run) one ∙ p.not_yet;
        later = p.later;
        suffix = p.suffix;
        already = same number p.later ∙ ap (λ n. requests_at old.requesting n p.later) one ∙ p.already;
      }

  pub none_where_passed : (has : Bool) → has ≡ false → ((has ≡ false) ↔ IsPassed (requests_at requesting number) run)
      → ((◌≡◌ {A = Option ℕ} None None) ↔ IsPassedFor old labels run)
  none_where_passed has refused is = (λ _. was_passed (is.0 refused), λ _. refl)

  pub some_where_not : (has : Bool) → has ≡ true → ((has ≡ false) ↔ IsPassed (requests_at requesting number) run)
      → ((Some number ≡ None) ↔ IsPassedFor old labels run)
  some_where_not has given is = (
    λ e. absurd (let bad : Some number ≡ None = e in cc),
    λ passed. absurd (true≢false (sym given ∙ is.1 (is_passed passed))),
  )

-- ---- under a number that counts from 1

module _ (l : ListsState) (labels : List (List ℕ)) (run : ℕ) where
  abbrev known : KnownState
  known = record { lists = l.lists; requesting = l.requesting }

  under : IsPassedFor known labels run → IsPassedUnder l labels run
  under passed = record {
    number = suc passed.number;
    has_number = passed.has_number;
    not_yet = (λ requests. true≢false (sym requests ∙ passed.passed.not_yet));
    later = passed.passed.later;
    suffix = passed.passed.suffix;
    already = passed.passed.already;
  }

  over : IsPassedUnder l labels run → IsPassedFor known labels run
  over passed = by passed.number passed.has_number passed.not_yet passed.already
    where
      by : (n : ℕ) → labels_of l n ≡ Some labels → (HasPlace l n run → ⊥) → HasPlace l n passed.later → IsPassedFor known labels run
      by zero has not_yet already = absurd (let bad : None ≡ Some labels = has in cc)
      by (suc k) has not_yet already = record {
        number = k;
        has_number = has;
        passed = record { not_yet = unless (requests_at l.requesting k run) not_yet; later = passed.later; suffix = passed.suffix; already = already };
      }
        where
          unless : (b : Bool) → (b ≡ true → ⊥) → b ≡ false
          unless true never = absurd (never refl)
          unless false never = refl

  pub zero_where_none : ((◌≡◌ {A = Option ℕ} None None) ↔ IsPassedFor known labels run) → ((◌≡◌ {A = ℕ} 0 0) ↔ IsPassedUnder l labels run)
  zero_where_none is = (λ _. under (is.0 refl), λ _. refl)

  pub number_where_some : (k : ℕ) → ((Some k ≡ None) ↔ IsPassedFor known labels run) → ((k + 1 ≡ 0) ↔ IsPassedUnder l labels run)
  number_where_some k is = (
    λ bad. absurd (omega (arith, bad)),
    λ passed. absurd (let bad : Some k ≡ None = is.1 (over passed) in cc),
  )
