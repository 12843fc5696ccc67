-- Mapping the elements of a list with their indices to lists, if only the element at one index gives a list that is not empty.
use Rattle.std.specs.Prelude.{◌≡◌, ℕ, zero, suc, ◌+◌, ◌≤◌, List, [], ◌∷◌, ◌++◌, map, flat_map, filter, Bool, true, false}
use Rattle.std.specs.Prelude.{slice_get, if◌then◌else◌, refl}
use Rattle.std.specs.List.{enumerate_from, list_any}
use Rattle.std.specs.Option.{option_map_or}
use Rattle.std.proofs.Common.{arith, ap, ap₂, sym, ◌∙◌, ◌||◌}
use Rattle.std.proofs.lemmas.Bool.{true≢false}
use Rattle.std.proofs.lemmas.List.{append-nil}
use Rattle.std.proofs.lemmas.List.Elements.{filter-append}
use Rattle.table_model.specs.Runs.{placed}

-- ---- one index

nothing_from : {X Y : Type 0} (f : ℕ × X → List Y) (n : ℕ) (xs : List X) → ((k : ℕ) (x : X) → n ≤ k → f (k, x) ≡ [])
    → flat_map f (enumerate_from n xs) ≡ []
nothing_from f n [] none = refl
nothing_from f n (x ∷ xs) none =
    ap₂ (λ a b. a ++ b) (none n x (omega arith)) (nothing_from f (n + 1) xs (λ k y le. none k y (omega (arith, le))))

one_from : {X Y : Type 0} (f : ℕ × X → List Y) (n i : ℕ) (xs : List X) → ((k : ℕ) (x : X) → (k ≡ n + i → ⊥) → f (k, x) ≡ [])
    → flat_map f (enumerate_from n xs) ≡ option_map_or (λ x. f (n + i, x)) (slice_get xs i) []
one_from f n i [] none = refl
one_from f n zero (x ∷ xs) none =
    let here : n ≡ n + 0 = omega arith in
    ap₂ (λ a b. a ++ b) (ap (λ m. f (m, x)) here)
    (nothing_from f (n + 1) xs (λ k y le. none k y (λ e. absurd (omega (arith, le, e)))))
    ∙ append-nil (f (n + 0, x))
one_from f n (suc i) (x ∷ xs) none =
    let next : (n + 1) + i ≡ n + suc i = omega arith in
    ap₂ (λ a b. a ++ b) (none n x (λ e. absurd (omega (arith, e))))
    (one_from f (n + 1) i xs (λ k y other. none k y (λ e. other (e ∙ sym next))))
    ∙ ap (λ m. option_map_or (λ y. f (m, y)) (slice_get xs i) []) next

pub one_of_placed : {X Y : Type 0} (f : ℕ × X → List Y) (i : ℕ) (xs : List X) → ((k : ℕ) (x : X) → (k ≡ i → ⊥) → f (k, x) ≡ [])
    → flat_map f (placed xs) ≡ option_map_or (λ x. f (i, x)) (slice_get xs i) []
one_of_placed f i xs none =
    let at : 0 + i ≡ i = omega arith in
    one_from f 0 i xs (λ k x other. none k x (λ e. other (e ∙ sym at))) ∙ ap (λ m. option_map_or (λ x. f (m, x)) (slice_get xs i) []) at

pub none_of_all : {X Y : Type 0} (f : X → List Y) (xs : List X) → ((x : X) → f x ≡ []) → flat_map f xs ≡ []
none_of_all f [] none = refl
none_of_all f (x ∷ xs) none = ap₂ (λ a b. a ++ b) (none x) (none_of_all f xs none)

-- ---- filters

pub filter_flat_map : {X Y : Type 0} (test : Y → Bool) (f : X → List Y) (xs : List X)
    → filter test (flat_map f xs) ≡ flat_map (λ x. filter test (f x)) xs
filter_flat_map test f [] = refl
filter_flat_map test f (x ∷ xs) =
    filter-append test (f x) (flat_map f xs) ∙ ap (λ ys. filter test (f x) ++ ys) (filter_flat_map test f xs)

pub filter_of_map : {X Y : Type 0} (test : Y → Bool) (f : X → Y) (xs : List X)
    → filter test (map f xs) ≡ map f (filter (λ x. test (f x)) xs)
filter_of_map test f [] = refl
filter_of_map test f (x ∷ xs) =
    elim (test (f x)) as
    (λ b. (if b then f x ∷ filter test (map f xs) else filter test (map f xs))
    ≡ map f (if b then x ∷ filter (λ y. test (f y)) xs else filter (λ y. test (f y)) xs)) [
      | true ↦ ap (λ ys. f x ∷ ys) (filter_of_map test f xs)
      | false ↦ filter_of_map test f xs
    ]

pub filter_to_none : {X : Type 0} (test : X → Bool) (xs : List X) → ((x : X) → test x ≡ false) → filter test xs ≡ []
filter_to_none test [] none = refl
filter_to_none test (x ∷ xs) none =
    ap (λ b. if b then x ∷ filter test xs else filter test xs) (none x) ∙ filter_to_none test xs none

-- filtering what a weaker test leaves
pub filter_twice : {X : Type 0} (p q : X → Bool) (xs : List X) → ((x : X) → p x ≡ true → q x ≡ true) → filter p (filter q xs) ≡ filter p xs
filter_twice p q [] weaker = refl
filter_twice p q (x ∷ xs) weaker =
    elim (q x) as
    (λ b. q x ≡ b → filter p (if b then x ∷ filter q xs else filter q xs) ≡ (if p x then x ∷ filter p xs else filter p xs)) [
      | true ↦ λ is. ap (λ ys. if p x then x ∷ ys else ys) (filter_twice p q xs weaker)
      | false ↦ λ is. elim (p x) as (λ c. p x ≡ c → filter p (filter q xs) ≡ (if c then x ∷ filter p xs else filter p xs)) [
        | true ↦ λ at. absurd (true≢false (sym (weaker x at) ∙ is))
        | false ↦ λ at. filter_twice p q xs weaker
      ] refl
    ] refl

-- filtering what a disjoint test leaves
pub filter_apart : {X : Type 0} (p q : X → Bool) (xs : List X) → ((x : X) → p x ≡ true → q x ≡ false) → filter p (filter q xs) ≡ []
filter_apart p q [] other = refl
filter_apart p q (x ∷ xs) other =
    elim (q x) as (λ b. q x ≡ b → filter p (if b then x ∷ filter q xs else filter q xs) ≡ []) [
      | false ↦ λ is. filter_apart p q xs other
      | true ↦ λ is. elim (p x) as (λ c. p x ≡ c → (if c then x ∷ filter p (filter q xs) else filter p (filter q xs)) ≡ []) [
        | true ↦ λ at. absurd (true≢false (sym is ∙ other x at))
        | false ↦ λ at. filter_apart p q xs other
      ] refl
    ] refl

-- some element passes a test exactly if some element that a weaker test leaves passes it
pub any_filtered : {X : Type 0} (test p : X → Bool) (xs : List X) → ((x : X) → test x ≡ true → p x ≡ true)
    → list_any test (filter p xs) ≡ list_any test xs
any_filtered test p [] weaker = refl
any_filtered test p (x ∷ xs) weaker =
    elim (p x) as
    (λ b. p x ≡ b → list_any test (if b then x ∷ filter p xs else filter p xs) ≡ (test x || list_any test xs)) [
      | true ↦ λ is. ap (λ b. test x || b) (any_filtered test p xs weaker)
      | false ↦ λ is. elim (test x) as (λ c. test x ≡ c → list_any test (filter p xs) ≡ (c || list_any test xs)) [
        | true ↦ λ at. absurd (true≢false (sym (weaker x at) ∙ is))
        | false ↦ λ at. any_filtered test p xs weaker
      ] refl
    ] refl
