-- What a table keeps of forgotten runs once its first runs are forgotten too: counts, numbers and deliveries.
use Rattle.std.specs.Prelude.{◌≡◌, ◌≤◌, ◌<◌, ◌+◌, ◌-◌, ◌++◌, ℕ, zero, suc, List, [], ◌∷◌, drop, take, length, map, min, cond, Bool, true, false}
use Rattle.std.specs.Prelude.{not, Option, Some, None, option_map, slice_get, if◌then◌else◌, refl}
use Rattle.std.specs.List.{position, position_or_len}
use Rattle.std.specs.Str.{bytes_eq}
use Rattle.std.proofs.Common.{arith, ap, sym, ◌∙◌, append_assoc, length-append, ltb}
use Rattle.std.proofs.lemmas.Bool.{ltb-false}
use Rattle.std.proofs.lemmas.List.{drop-append-le, length-drop, length-map, length-take-le, map-append, take-append-drop}
use Rattle.std.proofs.lemmas.List.{take_all}
use Rattle.std.proofs.lemmas.List.Sums.{sum_by-append}
use Rattle.definitions.specs.SmallText.{Admitted}
use Rattle.table_model.specs.Forgotten.{ForgottenRuns, counted, deliveries_of, forgotten_of, max_kept_deliveries, number_of_next, with_forgotten}
use Rattle.table_model.specs.LegContext.{runs_of_workflow, same_workflow}
use Rattle.table_model.specs.Runs.{RunState, run_at}
use Rattle.table_model.specs.Sound.{DeliveriesDiffer, ForgottenFit, IdsFollow, NumbersFollow}
use Rattle.table_model.specs.Step.{without}
use Rattle.table_model.specs.TableState.{TableState, known_deliveries, run_of_delivery}
use Rattle.table_model.proofs.Counts.{are_counted}
use Rattle.table_model.proofs.ForgottenMore.{kept_length}
use Rattle.table_model.proofs.Found.{found_at}
use Rattle.table_model.proofs.Optional.{from_map}
use Rattle.settling_laws.proofs.Dropped.{get_dropped, run_dropped}

-- ---- the first elements and the others

pub taken_parts : {X : Type 0} (k m : ℕ) (xs : List X) → take (k + m) xs ≡ take k xs ++ take m (drop k xs)
taken_parts zero m xs = let at : 0 + m ≡ m = omega arith in ap (λ n. take n xs) at
taken_parts (suc k) m [] = take_all (suc k + m) [] (omega arith) ∙ sym (take_all m [] (omega arith))
taken_parts (suc k) m (x ∷ xs) =
    let at : suc k + m ≡ suc (k + m) = omega arith in
    ap (λ n. take n (x ∷ xs)) at ∙ ap (λ ys. x ∷ ys) (taken_parts k m xs)

pub workflow_parts : (event : Admitted) (xs ys : List RunState)
    → runs_of_workflow event (xs ++ ys) ≡ runs_of_workflow event xs + runs_of_workflow event ys
workflow_parts event xs ys = sum_by-append (λ (x : RunState). cond (same_workflow event x.admitted) 1 0) xs ys

-- ---- ids and numbers

module _ (k : ℕ) (forgotten : ForgottenRuns) (runs : List RunState) (fit : ForgottenFit forgotten) where
  abbrev more : ForgottenRuns
  more = with_forgotten forgotten (take k runs)

  -- the number of the next run is the same
  pub next_number_stays : (event : Admitted) → number_of_next more (drop k runs) event ≡ number_of_next forgotten runs event
  next_number_stays event =
      let counts = are_counted forgotten.counts (take k runs) fit.counts_in_order fit.each_counts in
      let its = counts.of_workflow event in
      let parts = ap (runs_of_workflow event) (sym (take-append-drop k runs)) ∙ workflow_parts event (take k runs) (drop k runs) in
      omega (arith, its, parts)

  pub numbers_dropped : NumbersFollow forgotten runs → NumbersFollow more (drop k runs)
  numbers_dropped follow r x at =
      let counts = are_counted forgotten.counts (take k runs) fit.counts_in_order fit.each_counts in
      let its = counts.of_workflow x.admitted in
      let was = follow (k + r) x (sym (run_dropped k runs r) ∙ at) in
      let order : k + r + 1 ≡ k + (r + 1) = omega arith in
      let parts : runs_of_workflow x.admitted (take (k + r + 1) runs)
      ≡ runs_of_workflow x.admitted (take k runs) + runs_of_workflow x.admitted (take (r + 1) (drop k runs))
      = ap (λ n. runs_of_workflow x.admitted (take n runs)) order ∙ ap (runs_of_workflow x.admitted) (taken_parts k (r + 1) runs)
      ∙ workflow_parts x.admitted (take k runs) (take (r + 1) (drop k runs)) in
      omega (arith, was, its, parts)

  pub ids_dropped : k ≤ length runs → IdsFollow forgotten runs → IdsFollow more (drop k runs)
  ids_dropped within follow r x at =
      let was = follow (k + r) x (sym (run_dropped k runs r) ∙ at) in
      let many = length-take-le k runs within in
      omega (arith, was, many)

-- ---- deliveries

module _ (k : ℕ) (t : TableState) (within : k ≤ length t.runs) where
  -- all deliveries of forgotten runs that were known or are of runs that are dropped
  abbrev gone : List (List ℕ)
  gone = t.forgotten.deliveries ++ deliveries_of (take k t.runs)

  abbrev past : ℕ
  past = length gone - max_kept_deliveries

  gone_length : length gone ≡ length t.forgotten.deliveries + k
  gone_length =
      length-append t.forgotten.deliveries (deliveries_of (take k t.runs))
      ∙ ap (λ n. length t.forgotten.deliveries + n) (length-map (take k t.runs) (λ x. x.admitted.delivery) ∙ length-take-le k t.runs within)

  -- the first ones are no longer known
  pub known_dropped : known_deliveries (without k t) ≡ drop past (known_deliveries t)
  known_dropped =
      let less : past ≤ length gone = omega arith in
      sym (drop-append-le past gone (deliveries_of (drop k t.runs)) less)
      ∙ ap (drop past) (append_assoc t.forgotten.deliveries (deliveries_of (take k t.runs)) (deliveries_of (drop k t.runs))
      ∙ ap (λ ds. t.forgotten.deliveries ++ ds)
      (sym (map-append (λ x. x.admitted.delivery) (take k t.runs) (drop k t.runs)) ∙ ap deliveries_of (take-append-drop k t.runs)))

  pub deliveries_dropped : DeliveriesDiffer (known_deliveries t) → DeliveriesDiffer (known_deliveries (without k t))
  deliveries_dropped differ a b delivery at_a at_b =
      let there : (i : ℕ) → slice_get (known_deliveries (without k t)) i ≡ slice_get (known_deliveries t) (past + i)
      = λ i. ap (λ ds. slice_get ds i) known_dropped ∙ get_dropped past (known_deliveries t) i in
      let same = differ (past + a) (past + b) delivery (sym (there a) ∙ at_a) (sym (there b) ∙ at_b) in
      omega (arith, same)

-- ---- a delivery stays known

index_is : (b : Bool) (n i : ℕ) → (if b then Some n else None) ≡ Some i → n ≡ i
index_is true n i e = cc
index_is false n i e = cc

later_index : {X : Type 0} (test : X → Bool) (n : ℕ) (xs : List X) → n ≤ position_or_len test xs
    → n + position_or_len test (drop n xs) ≡ position_or_len test xs
later_index test zero xs le = omega arith
later_index test (suc n) [] le = absurd (omega (arith, le))
later_index test (suc n) (x ∷ xs) le =
    elim (test x) as (λ b. suc n ≤ cond (not b) (1 + position_or_len test xs) 0
    → suc n + position_or_len test (drop n xs) ≡ cond (not b) (1 + position_or_len test xs) 0) [
      | true ↦ λ low. absurd (omega (arith, low))
      | false ↦ λ low. let rest = later_index test n xs (omega (arith, low)) in omega (arith, rest)
    ] le

-- where an element is found without the first n
pub record FoundLater {X : Type 0} (test : X → Bool) (n i : ℕ) (xs : List X) : Type 0 where
  pub index : ℕ
  pub is : position test (drop n xs) ≡ Some index
  pub sum : n + index ≡ i

found_later : {X : Type 0} (test : X → Bool) (n i : ℕ) (xs : List X) → position test xs ≡ Some i → n ≤ i → FoundLater test n i xs
found_later test n i xs e le =
    let at = found_at test xs i e in
    let here : position_or_len test xs ≡ i = index_is (ltb (position_or_len test xs) (length xs)) (position_or_len test xs) i e in
    let there = later_index test n xs (omega (arith, here, le)) in
    let shorter = length-drop n xs in
    let lt = at.within in
    record {
      index = position_or_len test (drop n xs);
      is = elim (ltb (position_or_len test (drop n xs)) (length (drop n xs))) as
          (λ b. ltb (position_or_len test (drop n xs)) (length (drop n xs)) ≡ b
          → (if b then Some (position_or_len test (drop n xs)) else None) ≡ Some (position_or_len test (drop n xs))) [
            | true ↦ λ is. refl
            | false ↦ λ is.
                let past = ltb-false (position_or_len test (drop n xs)) (length (drop n xs)) is in
                absurd (omega (arith, past, shorter, there, here, lt))
          ] refl;
      sum = omega (arith, there, here);
    }

-- a run that is among the last so many forgotten ones, or is not forgotten
pub stays_known : (k : ℕ) (t : TableState) (delivery : List ℕ) (run : ℕ) → length t.forgotten.deliveries ≤ t.forgotten.through
    → k ≤ length t.runs → run_of_delivery t delivery ≡ Some run → t.forgotten.through + k < run + max_kept_deliveries
    → run_of_delivery (without k t) delivery ≡ Some run
stays_known k t delivery run fewer within e recent =
    let test : List ℕ → Bool = λ known. bytes_eq known delivery in
    let known = known_deliveries t in
    let n = past k t within in
    let left = gone_length k t within in
    let many = length-take-le k t.runs within in
    let kept = kept_length t.forgotten.deliveries (take k t.runs) in
    let at = from_map (λ i. t.forgotten.through - length t.forgotten.deliveries + i + 1) (position test known) run e in
    let gives = at.gives in
    let later = found_later test n at.value known at.is (omega (arith, left, gives, recent, fewer)) in
    let sum = later.sum in
    let next = without k t in
    let same : next.forgotten.through - length next.forgotten.deliveries + later.index + 1 ≡ run
    = omega (arith, left, many, kept, gives, sum, fewer) in
    ap (λ ds. option_map (λ i. next.forgotten.through - length next.forgotten.deliveries + i + 1) (position test ds)) (known_dropped k t within)
    ∙ ap (option_map (λ i. next.forgotten.through - length next.forgotten.deliveries + i + 1)) later.is
    ∙ ap Some same
