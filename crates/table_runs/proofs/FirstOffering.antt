-- The first run that is marked for a list that a runner serves, list by list.
use Rattle.std.specs.Prelude.{◌≡◌, ℕ, ◌<◌, ◌≤◌, List, Bool, false, Option, Some, None}
use Rattle.std.proofs.Common.{arith, subst, sym, inl, inr}
use Rattle.std.proofs.lemmas.Bool.{cases_eq, cases_lt}
use Rattle.label_lists.specs.Known.{IsBefore}
use Rattle.label_lists.specs.Lists.{ListsState, may_offer}
use Rattle.run_marks.specs.First.{IsFirstFrom}
use Rattle.table_bindings.specs.inner.LabelNumbers.{MayServe, ServesList}

pub first_passes : (has : ℕ → Bool) (from : ℕ) (found : Option ℕ) → IsFirstFrom has from found → (s : ℕ) → from ≤ s → IsBefore s found
    → has s ≡ false
first_passes has from None is s le before = is s le
first_passes has from (Some r) is s le before = is.2 s le before

-- no run before the one found is marked for a list up to `number` that the labels serve
abbrev pub PassedUpTo : ListsState → List (List ℕ) → ℕ → ℕ → Option ℕ → Type 0
PassedUpTo lists labels from number found =
    (n s : ℕ) → n ≤ number → from ≤ s → IsBefore s found → MayServe lists labels n → may_offer lists n s ≡ false

module _ (lists : ListsState) (labels : List (List ℕ)) (from : ℕ) where
  pub passed_none : (found : Option ℕ) → IsFirstFrom (may_offer lists 0) from found → PassedUpTo lists labels from 0 found
  passed_none found is n s le suffix before serves =
      let zero : 0 ≡ n = omega (arith, le) in
      subst (λ (k : ℕ). may_offer lists k s ≡ false) zero (first_passes (may_offer lists 0) from found is s suffix before)

  pub passed_one : (number k : ℕ) (first served now : Option ℕ) → number < k
      → ((n s : ℕ) → number < n → n < k → may_offer lists n s ≡ false)
      → ((s : ℕ) → from ≤ s → IsBefore s served → ServesList lists labels k → may_offer lists k s ≡ false)
      → ((s : ℕ) → IsBefore s now → IsBefore s first × IsBefore s served) → PassedUpTo lists labels from number first
      → PassedUpTo lists labels from k now
  passed_one number k first served now less between there both so_far n s le suffix before serves =
      elim (cases_lt number n) [
        | inr early ↦ so_far n s early suffix (both s before).0 serves
        | inl late ↦
            elim (cases_eq n k) [
              | inl same ↦
                  subst (λ (i : ℕ). may_offer lists i s ≡ false) (sym same)
                  (there s suffix (both s before).1
                  (elim (serves) [
                    | inl zero ↦ absurd (omega (arith, zero, late))
                    | inr is ↦ subst (ServesList lists labels) same is
                  ]))
              | inr other ↦ between n s late (omega (arith, le, other))
            ]
      ]

  pub passed_all : (number : ℕ) (first : Option ℕ) → ((n s : ℕ) → number < n → may_offer lists n s ≡ false)
      → PassedUpTo lists labels from number first
      → (n s : ℕ) → from ≤ s → IsBefore s first → MayServe lists labels n → may_offer lists n s ≡ false
  passed_all number first after_it so_far n s suffix before serves =
      elim (cases_lt number n) [
        | inl late ↦ after_it n s late
        | inr early ↦ so_far n s early suffix before serves
      ]
