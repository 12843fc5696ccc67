-- A delivery that is known is a kept one of a forgotten run, or that of a run.
use Rattle.std.specs.Prelude.{◌≡◌, ◌+◌, ◌-◌, ◌≤◌, ◌<◌, ℕ, List, [], ◌∷◌, ◌++◌, length, map, cond, Bool, true, false, Option, Some, None, option_map, refl}
use Rattle.std.specs.List.{position, position_from}
use Rattle.std.specs.Option.{option_or}
use Rattle.std.specs.Str.{bytes_eq}
use Rattle.std.proofs.Common.{arith, ap, ap₂, sym, ◌∙◌}
use Rattle.std.proofs.lemmas.Iterator.Adapters.{position_from-zero}
use Rattle.forgotten_runs.proofs.FirstFound.{from_map}
use Rattle.table_model.specs.Forgotten.{ForgottenRuns, deliveries_of}
use Rattle.table_model.specs.Runs.{RunState, is_delivered_as}
use Rattle.table_model.specs.Sound.{IsSound}
use Rattle.table_model.specs.TableState.{TableState, last_id, run_of_delivery}
use Rattle.table_model.proofs.Found.{found_at}

-- ---- the first in two lists

module _ {X : Type 0} (test : X → Bool) where
  from_both : (n : ℕ) (xs ys : List X)
      → position_from test n (xs ++ ys) ≡ option_or (position_from test n xs) (position_from test (n + length xs) ys)
  from_both n [] ys = let at : n ≡ n + 0 = omega arith in ap (λ m. position_from test m ys) at
  from_both n (x ∷ xs) ys = by (test x) (from_both (n + 1) xs ys)
    where
      by : (b : Bool)
          → position_from test (n + 1) (xs ++ ys) ≡ option_or (position_from test (n + 1) xs) (position_from test ((n + 1) + length xs) ys)
          → cond b (Some n) (position_from test (n + 1) (xs ++ ys))
          ≡ option_or (cond b (Some n) (position_from test (n + 1) xs)) (position_from test (n + length (x ∷ xs)) ys)
      by true later = refl
      by false later =
          let at : (n + 1) + length xs ≡ n + length (x ∷ xs) = omega arith in
          later ∙ ap (λ m. option_or (position_from test (n + 1) xs) (position_from test m ys)) at

  from_later : (n m : ℕ) (ys : List X) → position_from test (n + m) ys ≡ option_map (λ i. n + i) (position_from test m ys)
  from_later n m [] = refl
  from_later n m (y ∷ ys) = by (test y) (from_later n (m + 1) ys)
    where
      by : (b : Bool) → position_from test (n + (m + 1)) ys ≡ option_map (λ i. n + i) (position_from test (m + 1) ys)
          → cond b (Some (n + m)) (position_from test ((n + m) + 1) ys)
          ≡ option_map (λ i. n + i) (cond b (Some m) (position_from test (m + 1) ys))
      by true later = refl
      by false later = let at : (n + m) + 1 ≡ n + (m + 1) = omega arith in ap (λ k. position_from test k ys) at ∙ later

  position_in_both : (xs ys : List X)
      → position test (xs ++ ys) ≡ option_or (position test xs) (option_map (λ i. length xs + i) (position test ys))
  position_in_both xs ys =
      let at : 0 + length xs ≡ length xs + 0 = omega arith in
      position_from-zero test (xs ++ ys) ∙ from_both 0 xs ys
      ∙ ap₂ option_or (sym (position_from-zero test xs))
      (ap (λ m. position_from test m ys) at ∙ from_later (length xs) 0 ys
      ∙ ap (option_map (λ i. length xs + i)) (sym (position_from-zero test ys)))

-- ---- of runs

by_delivery : (delivery : List ℕ) (runs : List RunState)
    → position (λ known. bytes_eq known delivery) (deliveries_of runs) ≡ position (is_delivered_as delivery) runs
by_delivery delivery runs =
    position_from-zero (λ known. bytes_eq known delivery) (deliveries_of runs)
    ∙ from_map (λ known. bytes_eq known delivery) (λ (x : RunState). x.admitted.delivery) 0 runs
    ∙ sym (position_from-zero (is_delivered_as delivery) runs)

-- the id of a forgotten run by its kept delivery
abbrev pub of_forgotten : ForgottenRuns → List ℕ → Option ℕ
of_forgotten forgotten delivery =
    option_map (λ i. forgotten.through - length forgotten.deliveries + i + 1)
    (position (λ known. bytes_eq known delivery) forgotten.deliveries)

numbered : (through long : ℕ) (o u : Option ℕ) → long ≤ through
    → option_map (λ i. through - long + i + 1) (option_or o (option_map (λ i. long + i) u))
    ≡ option_or (option_map (λ i. through - long + i + 1) o) (option_map (λ i. through + i + 1) u)
numbered through long None None le = refl
numbered through long None (Some i) le =
    let at : through - long + (long + i) + 1 ≡ through + i + 1 = omega (arith, le) in ap Some at
numbered through long (Some i) u le = refl

pub known_as : (t : TableState) (delivery : List ℕ) → IsSound t
    → run_of_delivery t delivery
    ≡ option_or (of_forgotten t.forgotten delivery) (option_map (λ i. t.forgotten.through + i + 1) (position (is_delivered_as delivery) t.runs))
known_as t delivery s =
    let test : List ℕ → Bool = λ known. bytes_eq known delivery in
    let kept = s.forgotten_fit.last_are_kept in
    ap (option_map (λ i. t.forgotten.through - length t.forgotten.deliveries + i + 1))
    (position_in_both test t.forgotten.deliveries (deliveries_of t.runs)
    ∙ ap (λ o. option_or (position test t.forgotten.deliveries) (option_map (λ i. length t.forgotten.deliveries + i) o)) (by_delivery delivery t.runs))
    ∙ numbered t.forgotten.through (length t.forgotten.deliveries) (position test t.forgotten.deliveries)
    (position (is_delivered_as delivery) t.runs) (omega (arith, kept))

-- the id of a run by its delivery
abbrev pub of_runs : TableState → List ℕ → Option ℕ
of_runs t delivery = option_map (λ i. t.forgotten.through + i + 1) (position (is_delivered_as delivery) t.runs)

pub known_of_forgotten : (t : TableState) (delivery : List ℕ) (forgotten : ForgottenRuns) (found : ℕ) → IsSound t
    → forgotten ≡ t.forgotten → Some found ≡ of_forgotten forgotten delivery → Some found ≡ run_of_delivery t delivery
known_of_forgotten t delivery forgotten found s same is =
    ap (λ o. option_or o (of_runs t delivery)) (is ∙ ap (λ (f : ForgottenRuns). of_forgotten f delivery) same) ∙ sym (known_as t delivery s)

pub known_of_runs : (t : TableState) (delivery : List ℕ) (forgotten : ForgottenRuns) (runs : List RunState) (o : Option ℕ) → IsSound t
    → forgotten ≡ t.forgotten → runs ≡ t.runs → None ≡ of_forgotten forgotten delivery → o ≡ position (is_delivered_as delivery) runs
    → option_map (λ i. t.forgotten.through + i + 1) o ≡ run_of_delivery t delivery
known_of_runs t delivery forgotten runs o s same are none found =
    ap (option_map (λ i. t.forgotten.through + i + 1)) (found ∙ ap (λ (rs : List RunState). position (is_delivered_as delivery) rs) are)
    ∙ ap (λ known. option_or known (of_runs t delivery)) (none ∙ ap (λ (f : ForgottenRuns). of_forgotten f delivery) same)
    ∙ sym (known_as t delivery s)

-- a run that is found has an id up to the last
pub found_id_within : (t : TableState) (delivery : List ℕ) (index : ℕ) → IsSound t → position (is_delivered_as delivery) t.runs ≡ Some index
    → t.forgotten.through + index < 999999999
found_id_within t delivery index s found =
    let at = found_at (is_delivered_as delivery) t.runs index found in
    let lt = at.within in
    let range = s.last_id_in_range in
    omega (arith, lt, range)
