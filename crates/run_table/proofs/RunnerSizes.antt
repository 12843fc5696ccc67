-- The size of the runners in the text of a table, as one of them is put in place.
use Rattle.std.specs.Prelude.{◌≡◌, ℕ, zero, suc, ◌+◌, ◌-◌, ◌*◌, ◌<◌, ◌≤◌, List, [], ◌∷◌, length, not, sum_by, take, true}
use Rattle.std.specs.Prelude.{Option, Some, None, if◌then◌else◌, option_and_then, slice_get, refl}
use Rattle.std.specs.List.{AllByRecursion}
use Rattle.std.specs.Option.{is_some, option_map_or}
use Rattle.std.proofs.Common.{arith, ap, below_more, get_or, inl, inr, subst, sym, ◌∙◌}
use Rattle.std.proofs.lemmas.Bool.{cases_Bool, true≢false}
use Rattle.std.proofs.lemmas.List.{length-take, take_all}
use Rattle.std.proofs.lemmas.List.Sums.{get_or-le-sum_by, sum_by-cons, sum_by-insert, sum_by-remove, sum_by-set, sum_by_more}
use Rattle.table_model.proofs.Filters.{all_filter}
use Rattle.table_model.proofs.Found.{each_at}
use Rattle.run_table.specs.inner.IndexNamed.{index_named}
use Rattle.run_table.specs.inner.RunnerSizes.{AreSized, max_runner_size, runner_size}
use Rattle.table_model.specs.TableState.{is_named, kept_named, names_rise, runner_named, with_runner, without_runner, RunnerState}
use Rattle.run_table.proofs.RunnerOrder.{found_there, place_within, put_between, put_over, taken_out}
use Rattle.run_table.proofs.RunnerPut.{all_from_each, each_put}

-- the size of a runner that there may be
abbrev pub size_of : Option RunnerState → ℕ
size_of o = option_map_or runner_size o 0

kept_is : (name : List ℕ) (o : Option RunnerState) (x : RunnerState) → option_and_then (kept_named name) o ≡ Some x → o ≡ Some x
kept_is name None x is = cc
kept_is name (Some y) x is =
    elim (cases_Bool (is_named name y)) [
      | inl named ↦ sym (ap (λ b. if b then Some y else None) named) ∙ is
      | inr other ↦ let none = sym (ap (λ b. if b then Some y else None) other) ∙ is in absurd (cc none)
    ]

at_place : (xs : List RunnerState) (k : ℕ) (x : RunnerState) → slice_get xs k ≡ Some x → (k < length xs) × (get_or xs k x ≡ x)
at_place [] k x e = cc
at_place (y ∷ ys) zero x e = (omega arith, cc)
at_place (y ∷ ys) (suc k) x e = let more = at_place ys k x e in (omega (arith, more.0), more.1)

module _ (runners : List RunnerState) (rise : names_rise runners ≡ true) (new : RunnerState) where
  there : option_and_then (kept_named new.name) (slice_get runners (index_named runners new.name)) ≡ runner_named runners new.name
  there = found_there runners new.name rise (index_named runners new.name) refl

  -- with one in its place
  pub size_with : sum_by runner_size (with_runner runners new) + size_of (runner_named runners new.name)
      ≡ sum_by runner_size runners + runner_size new
  size_with =
      let i = index_named runners new.name in
      elim (runner_named runners new.name)
      as (λ o. runner_named runners new.name ≡ o → sum_by runner_size (with_runner runners new) + size_of o ≡ sum_by runner_size runners + runner_size new) [
        | None ↦ λ is.
            let put = put_between runners new.name rise i refl new (ap (λ (o : Option RunnerState). is_some o) is) refl in
            let sum = ap (λ (rs : List RunnerState). sum_by runner_size rs) put in
            omega (arith, sum, sum_by-insert runner_size runners i new)
        | Some x ↦ λ is.
            let put = put_over runners new.name rise i refl new (ap (λ (o : Option RunnerState). is_some o) is) refl in
            let sum = ap (λ (rs : List RunnerState). sum_by runner_size rs) put in
            let at = at_place runners i x (kept_is new.name (slice_get runners i) x (there ∙ is)) in
            omega (arith, sum, sum_by-set runner_size runners i new x at.0, ap runner_size at.1)
      ] refl

-- a runner has no more bytes than all
pub size_of_named : (runners : List RunnerState) → names_rise runners ≡ true → (name : List ℕ)
    → size_of (runner_named runners name) ≤ sum_by runner_size runners
size_of_named runners rise name =
    elim (runner_named runners name)
    as (λ o. runner_named runners name ≡ o → size_of o ≤ sum_by runner_size runners) [
      | None ↦ λ is. omega arith
      | Some x ↦ λ is.
          let i = index_named runners name in
          let at = at_place runners i x (kept_is name (slice_get runners i) x (found_there runners name rise i refl ∙ is)) in
          omega (arith, get_or-le-sum_by runner_size runners i x at.0, ap runner_size at.1)
    ] refl

pub size_within : (runners : List RunnerState) → names_rise runners ≡ true → (new : RunnerState)
    → size_of (runner_named runners new.name) ≤ sum_by runner_size runners
size_within runners rise new = size_of_named runners rise new.name

-- ---- all runners

abbrev IsSmall : RunnerState → Type 0
IsSmall r = runner_size r ≤ max_runner_size

sizes_most : (runners : List RunnerState) → AllByRecursion (λ r. runner_size r ≤ max_runner_size) runners
    → sum_by runner_size runners ≤ length runners * max_runner_size
sizes_most [] small = omega arith
sizes_most (x ∷ xs) small =
    let sum = sum_by-cons runner_size x xs in
    let one : runner_size x ≤ max_runner_size = small.0 in
    let rest = sizes_most xs small.1 in
    omega (arith, sum, one, rest)

pub size_most : (runners : List RunnerState) (size : ℕ) → AreSized runners size → size ≤ length runners * max_runner_size
size_most runners size sized = omega (arith, sized.is, sizes_most runners sized.small)

-- with one in its place
pub sized_with : (runners next : List RunnerState) (new : RunnerState) (size before after : ℕ) → names_rise runners ≡ true
    → next ≡ with_runner runners new → before ≡ size_of (runner_named runners new.name) → after ≡ runner_size new → after ≤ max_runner_size
    → AreSized runners size → AreSized next (size - before + after)
sized_with runners next new size before after rise is was now few sized =
    let sum = size_with runners rise new in
    let within = size_within runners rise new in
    let same = ap (λ (rs : List RunnerState). sum_by runner_size rs) is in
    record {
      is = omega (arith, sum, within, same, was, now, sized.is);
      small = subst (λ (rs : List RunnerState). AllByRecursion IsSmall rs) (sym is)
          (all_from_each IsSmall (with_runner runners new)
          (each_put runners new IsSmall (omega (arith, now, few)) (λ k x at. each_at IsSmall runners k x sized.small at)));
    }

-- ---- one after another

pub record AreSizedBelow (runners : List RunnerState) (i total : ℕ) : Type 0 where
  pub is : total ≡ sum_by runner_size (take i runners)
  pub small : (k : ℕ) → k < i → (x : RunnerState) → slice_get runners k ≡ Some x → IsSmall x

pub sized_none : (runners : List RunnerState) → AreSizedBelow runners 0 0
sized_none runners = record {
  is = ap (λ (rs : List RunnerState). sum_by runner_size rs) (sym (nothing runners));
  small = λ k below x at. absurd (omega (arith, below));
}
  where
    nothing : (rs : List RunnerState) → take 0 rs ≡ []
    nothing [] = refl
    nothing (r ∷ rs) = refl

pub sized_more : (runners : List RunnerState) (i total one : ℕ) (x : RunnerState) → i < length runners → x ≡ get_or runners i x
    → one ≡ runner_size x → one ≤ max_runner_size → AreSizedBelow runners i total → AreSizedBelow runners (i + 1) (total + one)
sized_more runners i total one x below is size few sized = record {
  is = omega (arith, sized.is, sum_by_more runner_size runners i x below, size, ap runner_size is);
  small = below_more (λ k. (y : RunnerState) → slice_get runners k ≡ Some y → IsSmall y) i sized.small
      (λ y at. let there = at_place runners i y at in
      omega (arith, size, few, ap runner_size (is ∙ read_any runners i x y below ∙ there.1)));
}
  where
    read_any : (rs : List RunnerState) (k : ℕ) (d e : RunnerState) → k < length rs → get_or rs k d ≡ get_or rs k e
    read_any [] k d e low = absurd (omega (arith, low))
    read_any (r ∷ rs) zero d e low = refl
    read_any (r ∷ rs) (suc k) d e low = read_any rs k d e (omega (arith, low))

pub sized_all : (runners : List RunnerState) (i total : ℕ) → length runners ≤ i → AreSizedBelow runners i total → AreSized runners total
sized_all runners i total all sized = record {
  is = sized.is ∙ ap (λ (rs : List RunnerState). sum_by runner_size rs) (take_all i runners all);
  small = all_from_each IsSmall runners
      (λ k x at. let there = at_place runners k x at in sized.small k (omega (arith, all, there.0)) x at);
}

-- the first of them have no more than so many bytes
pub below_most : (runners : List RunnerState) (i total : ℕ) → i ≤ length runners → AreSizedBelow runners i total → total ≤ i * max_runner_size
below_most runners i total within sized =
    let most = sizes_most (take i runners) (all_from_each IsSmall (take i runners)
    (λ k x at. let there = at_place (take i runners) k x at in
    let long = length-take i runners in
    sized.small k (omega (arith, there.0, long)) x (of_prefix runners i k x at))) in
    omega (arith, sized.is, most, length-take i runners)
  where
    of_prefix : (rs : List RunnerState) (n k : ℕ) (x : RunnerState) → slice_get (take n rs) k ≡ Some x → slice_get rs k ≡ Some x
    of_prefix [] zero k x at = at
    of_prefix [] (suc n) k x at = at
    of_prefix (r ∷ rs) zero k x at = cc
    of_prefix (r ∷ rs) (suc n) zero x at = at
    of_prefix (r ∷ rs) (suc n) (suc k) x at = of_prefix rs n k x at

-- ---- without one

-- without the runner of a name
pub sized_without : (runners : List RunnerState) (name : List ℕ) (size gone : ℕ) → names_rise runners ≡ true
    → is_some (runner_named runners name) ≡ true → gone ≡ size_of (runner_named runners name) → AreSized runners size
    → AreSized (without_runner runners name) (size - gone)
sized_without runners name size gone rise known is sized =
    let i = index_named runners name in
    let within = place_within runners name rise i refl known in
    let out = taken_out runners name rise i refl known in
    let there = found_there runners name rise i refl in
    elim (runner_named runners name) as
    (λ o. runner_named runners name ≡ o → AreSized (without_runner runners name) (size - gone)) [
      | None ↦ λ none. absurd (true≢false (sym known ∙ ap (λ (o : Option RunnerState). is_some o) none))
      | Some x ↦ λ found.
          let at = at_place runners i x (kept_is name (slice_get runners i) x (there ∙ found)) in
          let sum = sum_by-remove runner_size runners i x within in
          let same = ap (λ (rs : List RunnerState). sum_by runner_size rs) (sym out) in
          let its = ap runner_size at.1 in
          let gone_is = is ∙ ap size_of found in
          record {
            is = omega (arith, sum, same, its, gone_is, sized.is);
            small = all_filter (λ r. not (is_named name r)) (λ r. runner_size r ≤ max_runner_size) runners sized.small;
          }
    ] refl
