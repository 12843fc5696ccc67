-- The first value of a partial function in a list, found index by index, and the first site that passes a test.
use Rattle.std.specs.Prelude.{◌≡◌, ℕ, zero, suc, ◌+◌, ◌<◌, ◌≤◌, List, [], ◌∷◌, map, flat_map, find, length, Bool, true, false}
use Rattle.std.specs.Prelude.{is_some, Option, Some, None, option_and_then, slice_get, if◌then◌else◌, refl}
use Rattle.std.specs.List.{enumerate_from, AllByRecursion}
use Rattle.std.specs.Option.{option_or}
use Rattle.std.proofs.Common.{arith, ap, subst, sym, ◌∙◌, below_more, get_or}
use Rattle.std.proofs.lemmas.Option.{slice_get-get_or, slice_get-map}
use Rattle.std.proofs.lemmas.List.Folds.{find-append}
use Rattle.table_model.specs.inner.Cells.{JobCells, states}
use Rattle.table_model.specs.Runs.{first_some, placed, JobState}
use Rattle.table_model.specs.inner.Resuming.{apply_at, NoneBefore}
use Rattle.table_model.proofs.Found.{all_weaken, placed_get}
use Rattle.table_model.proofs.Optional.{and_then-option_map}

-- ---- two functions with the same values

pub first_some_same : {X Y : Type 0} (f g : X → Option Y) (xs : List X) → AllByRecursion (λ x. f x ≡ g x) xs
    → first_some f xs ≡ first_some g xs
first_some_same f g [] h = refl
first_some_same f g (x ∷ xs) h = ap (λ o. option_or o (first_some f xs)) h.0 ∙ ap (option_or (g x)) (first_some_same f g xs h.1)

-- two functions with the same values at each element with its index
pub first_same_placed : {X Y : Type 0} (f g : ℕ × X → Option Y) (xs : List X)
    → ((i : ℕ) (x : X) → slice_get xs i ≡ Some x → f (i, x) ≡ g (i, x)) → first_some f (placed xs) ≡ first_some g (placed xs)
first_same_placed {X} f g xs h =
    first_some_same f g (placed xs)
    (all_weaken (λ (e : ℕ × X). slice_get xs e.0 ≡ Some e.1) (λ e. f e ≡ g e) (λ e at. h e.0 e.1 at) (placed xs) (placed_get xs))

-- the elements of a mapped list
placed_from-map : {X Y Z : Type 0} (f : ℕ → Y → Option Z) (h : X → Y) (xs : List X) (n : ℕ)
    → first_some (λ e. f e.0 e.1) (enumerate_from n (map h xs)) ≡ first_some (λ e. f e.0 (h e.1)) (enumerate_from n xs)
placed_from-map f h [] n = refl
placed_from-map f h (x ∷ xs) n = ap (option_or (f n (h x))) (placed_from-map f h xs (n + 1))

pub first_placed-map : {X Y Z : Type 0} (f : ℕ → Y → Option Z) (h : X → Y) (xs : List X)
    → first_some (λ e. f e.0 e.1) (placed (map h xs)) ≡ first_some (λ e. f e.0 (h e.1)) (placed xs)
first_placed-map f h xs = placed_from-map f h xs 0

-- ---- the first site that passes a test, in a concatenation of lists

pub find-flat_map : {X P : Type 0} (test : P → Bool) (sites_of : X → List P) (xs : List X)
    → find test (flat_map sites_of xs) ≡ first_some (λ x. find test (sites_of x)) xs
find-flat_map test sites_of [] = refl
find-flat_map test sites_of (x ∷ xs) =
    find-append test (sites_of x) (flat_map sites_of xs) ∙ ap (option_or (find test (sites_of x))) (find-flat_map test sites_of xs)

pub find-map : {X P : Type 0} (test : P → Bool) (site_of : X → P) (xs : List X)
    → find test (map site_of xs) ≡ first_some (λ x. if test (site_of x) then Some (site_of x) else None) xs
find-map test site_of [] = refl
find-map test site_of (x ∷ xs) =
    elim (test (site_of x)) as
    (λ b. (if b then Some (site_of x) else find test (map site_of xs))
    ≡ option_or (if b then Some (site_of x) else None) (first_some (λ y. if test (site_of y) then Some (site_of y) else None) xs)) [
      | true ↦ refl
      | false ↦ find-map test site_of xs
    ]

-- ---- index by index

found_from : {X Y : Type 0} (f : ℕ → X → Option Y) (xs : List X) (n i : ℕ) (y : Y)
    → ((k : ℕ) → k < i → option_and_then (f (n + k)) (slice_get xs k) ≡ None) → option_and_then (f (n + i)) (slice_get xs i) ≡ Some y
    → first_some (λ e. f e.0 e.1) (enumerate_from n xs) ≡ Some y
found_from f [] n i y before here = cc
found_from f (x ∷ xs) n zero y before here =
    let at : n + 0 ≡ n = omega arith in
    let now : f n x ≡ Some y = subst (λ m. f m x ≡ Some y) at here in
    ap (λ o. option_or o (first_some (λ e. f e.0 e.1) (enumerate_from (n + 1) xs))) now
found_from f (x ∷ xs) n (suc i) y before here =
    let at : n + 0 ≡ n = omega arith in
    let now : f n x ≡ None = subst (λ m. f m x ≡ None) at (before 0 (omega arith)) in
    let later : (k : ℕ) → n + suc k ≡ (n + 1) + k = λ k. omega arith in
    ap (λ o. option_or o (first_some (λ e. f e.0 e.1) (enumerate_from (n + 1) xs))) now
    ∙ found_from f xs (n + 1) i y
    (λ k lt. subst (λ m. option_and_then (f m) (slice_get xs k) ≡ None) (later k) (before (suc k) (omega arith)))
    (subst (λ m. option_and_then (f m) (slice_get xs i) ≡ Some y) (later i) here)

none_from : {X Y : Type 0} (f : ℕ → X → Option Y) (xs : List X) (n : ℕ)
    → ((k : ℕ) → k < length xs → option_and_then (f (n + k)) (slice_get xs k) ≡ None)
    → first_some (λ e. f e.0 e.1) (enumerate_from n xs) ≡ None
none_from f [] n none = refl
none_from f (x ∷ xs) n none =
    let at : n + 0 ≡ n = omega arith in
    let now : f n x ≡ None = subst (λ m. f m x ≡ None) at (none 0 (omega arith)) in
    let later : (k : ℕ) → n + suc k ≡ (n + 1) + k = λ k. omega arith in
    ap (λ o. option_or o (first_some (λ e. f e.0 e.1) (enumerate_from (n + 1) xs))) now
    ∙ none_from f xs (n + 1) (λ k lt. subst (λ m. option_and_then (f m) (slice_get xs k) ≡ None) (later k) (none (suc k) (omega arith)))

-- the first index with a value gives it
pub found_at : {X Y : Type 0} (f : ℕ → X → Option Y) (xs : List X) (i : ℕ) (y : Y) → NoneBefore f xs i → apply_at f xs i ≡ Some y
    → first_some (λ e. f e.0 e.1) (placed xs) ≡ Some y
found_at f xs i y before here =
    let zero_first : (k : ℕ) → k ≡ 0 + k = λ k. omega arith in
    found_from f xs 0 i y (λ k lt. subst (λ m. option_and_then (f m) (slice_get xs k) ≡ None) (zero_first k) (before k lt))
    (subst (λ m. option_and_then (f m) (slice_get xs i) ≡ Some y) (zero_first i) here)

-- if no index has a value, there is none
pub none_found : {X Y : Type 0} (f : ℕ → X → Option Y) (xs : List X) (i : ℕ) → NoneBefore f xs i → length xs ≤ i
    → first_some (λ e. f e.0 e.1) (placed xs) ≡ None
none_found f xs i before le =
    let zero_first : (k : ℕ) → k ≡ 0 + k = λ k. omega arith in
    none_from f xs 0 (λ k lt. subst (λ m. option_and_then (f m) (slice_get xs k) ≡ None) (zero_first k) (before k (omega arith)))

-- the value at an element that is read
apply_at_read : {X Y : Type 0} (f : ℕ → X → Option Y) (xs : List X) (i : ℕ) (d : X) → i < length xs → apply_at f xs i ≡ f i (get_or xs i d)
apply_at_read f xs i d lt = ap (option_and_then (f i)) (slice_get-get_or xs i d lt)

-- ---- a search that ends at the first value

pub answer_found : {X Y : Type 0} (f : ℕ → X → Option Y) (xs : List X) (i : ℕ) (x : X) (o : Option Y) → NoneBefore f xs i → i < length xs
    → x ≡ get_or xs i x → o ≡ f i x → is_some o ≡ true → first_some (λ e. f e.0 e.1) (placed xs) ≡ o
answer_found f xs i x None before lt is h some = cc
answer_found f xs i x (Some y) before lt is h some = found_at f xs i y before (apply_at_read f xs i x lt ∙ ap (f i) (sym is) ∙ sym h)

pub answer_passed : {X Y : Type 0} (f : ℕ → X → Option Y) (xs : List X) (i : ℕ) (x : X) (o : Option Y) → i < length xs → x ≡ get_or xs i x
    → o ≡ f i x → is_some o ≡ false → apply_at f xs i ≡ None
answer_passed f xs i x None lt is h none = apply_at_read f xs i x lt ∙ ap (f i) (sym is) ∙ sym h
answer_passed f xs i x (Some y) lt is h none = cc

-- among the jobs of a run, by their states
module _ {Y : Type 0} (f : ℕ → JobState → Option Y) (jobs : List JobCells) (j : ℕ) where
  pub job_answers : (x : JobCells) (o : Option Y) → NoneBefore (λ k job. f k job.state) jobs j → j < length jobs → x ≡ get_or jobs j x
      → o ≡ f j x.state → is_some o ≡ true → o ≡ first_some (λ e. f e.0 e.1) (placed (states jobs))
  job_answers x o before lt is h some =
      sym (first_placed-map f (λ (y : JobCells). y.state) jobs ∙ answer_found (λ k job. f k job.state) jobs j x o before lt is h some)

  pub job_passed : (x : JobCells) (o : Option Y) → NoneBefore (λ k job. f k job.state) jobs j → j < length jobs → x ≡ get_or jobs j x
      → o ≡ f j x.state → is_some o ≡ false → NoneBefore (λ k job. f k job.state) jobs (j + 1)
  job_passed x o before lt is h none = below_more _ _ before (answer_passed (λ k job. f k job.state) jobs j x o lt is h none)

  pub no_job_answers : NoneBefore (λ k job. f k job.state) jobs j → length jobs ≤ j
      → None ≡ first_some (λ e. f e.0 e.1) (placed (states jobs))
  no_job_answers before le =
      sym (first_placed-map f (λ (y : JobCells). y.state) jobs ∙ none_found (λ k job. f k job.state) jobs j before le)

-- ---- where the first answer comes from

-- the index of the first value, counted from n
record FirstFrom {X Y : Type 0} (f : ℕ → X → Option Y) (n : ℕ) (xs : List X) (y : Y) : Type 0 where
  at : ℕ
  before : (k : ℕ) → k < at → option_and_then (f (n + k)) (slice_get xs k) ≡ None
  here : option_and_then (f (n + at)) (slice_get xs at) ≡ Some y

none_after : {X Y : Type 0} (f : ℕ → X → Option Y) (n : ℕ) (x : X) (xs : List X) (i : ℕ) → f n x ≡ None
    → ((k : ℕ) → k < i → option_and_then (f ((n + 1) + k)) (slice_get xs k) ≡ None) → (k : ℕ) → k < suc i
    → option_and_then (f (n + k)) (slice_get (x ∷ xs) k) ≡ None
none_after f n x xs i now rest zero lt = let at : n ≡ n + 0 = omega arith in subst (λ m. f m x ≡ None) at now
none_after f n x xs i now rest (suc k) lt =
    let at : (n + 1) + k ≡ n + suc k = omega arith in
    subst (λ m. option_and_then (f m) (slice_get xs k) ≡ None) at (rest k (omega arith))

first_from : {X Y : Type 0} (f : ℕ → X → Option Y) (n : ℕ) (xs : List X) (y : Y)
    → first_some (λ e. f e.0 e.1) (enumerate_from n xs) ≡ Some y → FirstFrom f n xs y
first_from f n [] y e = cc
first_from f n (x ∷ xs) y e =
    elim (f n x) as
    (λ o. f n x ≡ o → option_or o (first_some (λ e. f e.0 e.1) (enumerate_from (n + 1) xs)) ≡ Some y → FirstFrom f n (x ∷ xs) y) [
      | None ↦ λ is e.
          let later = first_from f (n + 1) xs y e in
          let at : (n + 1) + later.at ≡ n + suc later.at = omega arith in
          record {
            at = suc later.at;
            before = none_after f n x xs later.at is later.before;
            here = subst (λ m. option_and_then (f m) (slice_get xs later.at) ≡ Some y) at later.here;
          }
      | Some z ↦ λ is e.
          let at : n ≡ n + 0 = omega arith in
          record { at = 0; before = (λ k lt. absurd (omega arith)); here = subst (λ m. f m x ≡ Some y) at (is ∙ e) }
    ] refl e

-- the first value in a list, with its index
pub record FirstAt {X Y : Type 0} (f : ℕ → X → Option Y) (xs : List X) (y : Y) : Type 0 where
  pub at : ℕ
  pub before : NoneBefore f xs at
  pub here : apply_at f xs at ≡ Some y

pub first_at : {X Y : Type 0} (f : ℕ → X → Option Y) (xs : List X) (y : Y) → first_some (λ e. f e.0 e.1) (placed xs) ≡ Some y
    → FirstAt f xs y
first_at f xs y e =
    let first = first_from f 0 xs y e in
    let from_zero : (k : ℕ) → 0 + k ≡ k = λ k. omega arith in
    record {
      at = first.at;
      before = (λ k lt. subst (λ m. option_and_then (f m) (slice_get xs k) ≡ None) (from_zero k) (first.before k lt));
      here = subst (λ m. option_and_then (f m) (slice_get xs first.at) ≡ Some y) (from_zero first.at) first.here;
    }

-- no value before an index of a mapped list
pub none_before-map : {X Y Z : Type 0} (f : ℕ → Y → Option Z) (h : X → Y) (xs : List X) (i : ℕ) → NoneBefore f (map h xs) i
    → NoneBefore (λ k x. f k (h x)) xs i
none_before-map f h xs i before k lt =
    sym (ap (option_and_then (f k)) (slice_get-map h xs k) ∙ and_then-option_map (f k) h (slice_get xs k)) ∙ before k lt
