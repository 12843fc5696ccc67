-- The groups of a job's legs, decided one by one, and how many arrivals are to come before and after that.
use Rattle.std.specs.Prelude.{◌≡◌, ℕ, zero, suc, ◌+◌, ◌<◌, List, [], ◌∷◌, ◌++◌, length, map, take, drop, slice_get, slice_set, sum_by, count_by, Bool}
use Rattle.std.specs.Prelude.{Option, None, Some, if◌then◌else◌, refl}
use Rattle.std.specs.Option.{option_map_or}
use Rattle.std.proofs.Common.{arith, ap, get_or}
use Rattle.std.proofs.lemmas.List.Sums.{sum_by-cons}
use Rattle.std.proofs.lemmas.Option.{same_Some}
use Rattle.wf_expr.specs.Bound.{Results}
use Rattle.group_name.specs.BoundGroup.{group_at as bound_group_at}
use Rattle.group_name.specs.Group.{Group}
use Rattle.table_model.specs.Runs.{changed_at}
use Rattle.table_bindings.specs.BoundGroups.{is_set_by}
use Rattle.table_bindings.specs.GroupKeys.{AreLater, IsLater, arrivals_in, arrivals_of, arrivals_of_legs, decided, has_no_group, known_as}
use Rattle.table_bindings.specs.declared.group_keys.HolderKey.{HolderKey}
use Rattle.table_bindings.specs.declared.group_keys.HolderKey.TheVariants.{Known, Later, NoGroup}
use Rattle.table_bindings.specs.declared.groups.GroupRequest.{GroupRequest}

-- ---- one more is decided

-- the first ones come from another list
pub one_more_from : {X Y : Type 0} (f : X → Y) (xs : List X) (old : List Y) (i : ℕ) (d : X) → length old ≡ length xs → i < length xs
    → slice_set (map f (take i xs) ++ drop i old) i (f (get_or xs i d)) ≡ map f (take (suc i) xs) ++ drop (suc i) old
one_more_from f [] old i d many lt = absurd (omega arith)
one_more_from f (x ∷ xs) [] i d many lt = absurd (omega (arith, many))
one_more_from f (x ∷ xs) (y ∷ old) zero d many lt = refl
one_more_from f (x ∷ xs) (y ∷ old) (suc i) d many lt =
    ap (λ ys. f x ∷ ys) (one_more_from f xs old i d (omega (arith, many)) (omega arith))

-- the next one is as it was
pub next_as_before : {X Y : Type 0} (f : X → Y) (xs : List X) (old : List Y) (i : ℕ) (d : Y) → length old ≡ length xs → i < length xs
    → get_or (map f (take i xs) ++ drop i old) i d ≡ get_or old i d
next_as_before f [] old i d many lt = absurd (omega arith)
next_as_before f (x ∷ xs) [] i d many lt = absurd (omega (arith, many))
next_as_before f (x ∷ xs) (y ∷ old) zero d many lt = refl
next_as_before f (x ∷ xs) (y ∷ old) (suc i) d many lt = next_as_before f xs old i d (omega (arith, many)) (omega arith)

-- ---- arrivals to come

later_is_one : (request : GroupRequest) (key : HolderKey) → IsLater request key → arrivals_in key ≡ 1
later_is_one request (Later room ticket) later = refl
later_is_one request NoGroup later = absurd later
later_is_one request (Known known) later = absurd later

pub arrivals_later : (requests : List GroupRequest) (legs : List HolderKey) → AreLater requests legs → arrivals_of_legs legs ≡ length requests
arrivals_later [] [] are = refl
arrivals_later [] (key ∷ legs) are = absurd (omega (arith, are.as_many))
arrivals_later (request ∷ requests) [] are = absurd (omega (arith, are.as_many))
arrivals_later (request ∷ requests) (key ∷ legs) are =
    let rest : AreLater requests legs = record { as_many = omega (arith, are.as_many); each = λ l. are.each (suc l) } in
    let one : arrivals_in key ≡ 1 = later_is_one request key (are.each zero request key refl refl) in
    omega (arith, sum_by-cons arrivals_in key legs, one, arrivals_later requests legs rest)

abbrev one_if : Bool → ℕ
one_if b = if b then 1 else 0

-- it has no group, or it is to arrive
decided_is_one : (results : Results) (request : GroupRequest)
    → arrivals_in (decided results request) + one_if (has_no_group (decided results request)) ≡ 1
decided_is_one results request = by (bound_group_at results request.group)
  where
    by : (o : Option Group)
        → arrivals_in (option_map_or (λ g. known_as g (is_set_by results request.cancels)) o NoGroup)
        + one_if (has_no_group (option_map_or (λ g. known_as g (is_set_by results request.cancels)) o NoGroup))
        ≡ 1
    by None = refl
    by (Some g) = refl

pub arrivals_decided : (results : Results) (requests : List GroupRequest)
    → arrivals_of_legs (map (decided results) requests) + count_by has_no_group (map (decided results) requests) ≡ length requests
arrivals_decided results [] = refl
arrivals_decided results (request ∷ requests) =
    let key = decided results request in
    let keys = map (decided results) requests in
    omega (
      arith,
      sum_by-cons arrivals_in key keys,
      sum_by-cons (λ (k : HolderKey). one_if (has_no_group k)) key keys,
      decided_is_one results request,
      arrivals_decided results requests,
    )

-- one list of a list of lists
pub sum_changed : {X : Type 0} (f : X → ℕ) (xs : List X) (i : ℕ) (x y : X) (n : ℕ) → slice_get xs i ≡ Some x → f y + n ≡ f x
    → sum_by f (changed_at i (λ _. y) xs) + n ≡ sum_by f xs
sum_changed f [] i x y n at is = cc
sum_changed f (z ∷ xs) zero x y n at is =
    let same : f z ≡ f x = ap f (same_Some z x at) in
    omega (arith, sum_by-cons f z xs, sum_by-cons f y xs, same, is)
sum_changed f (z ∷ xs) (suc i) x y n at is =
    omega (arith, sum_by-cons f z xs, sum_by-cons f z (changed_at i (λ _. y) xs), sum_changed f xs i x y n at is)

pub arrivals_after : (results : Results) (requests : List GroupRequest) (legs : List HolderKey) (jobs : List (List HolderKey)) (own : HolderKey) (j n : ℕ)
    → slice_get jobs j ≡ Some legs → AreLater requests legs → n ≡ count_by has_no_group (map (decided results) requests)
    → arrivals_of (record { own = own; jobs = changed_at j (λ _. map (decided results) requests) jobs }) + n
    ≡ arrivals_of (record { own = own; jobs = jobs })
arrivals_after results requests legs jobs own j n at later is =
    let keys = map (decided results) requests in
    let part : arrivals_of_legs keys + n ≡ arrivals_of_legs legs =
    omega (arith, arrivals_decided results requests, arrivals_later requests legs later, is) in
    omega (arith, sum_changed arrivals_of_legs jobs j legs keys n at part)
