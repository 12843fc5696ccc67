-- Visiting a list with the index of each element, one element at a time.
use Rattle.std.proofs.Common.{◌≡◌, ◌∙◌, ℕ, zero, suc, ◌+◌, ◌<◌, List, [], ◌∷◌, ◌++◌, length, map, take, get_or, sym, ap, arith}
use Rattle.std.proofs.Common.{append_assoc, append-nil}
use Rattle.std.specs.List.{flat_map, enumerate_from}
use Rattle.table_model.specs.Runs.{placed}

-- ---- what each element gives with its index

more_from : {X Y : Type 0} (f : ℕ × X → List Y) (m n : ℕ) (xs : List X) (x : X) → n < length xs → get_or xs n x ≡ x
    → flat_map f (enumerate_from m (take (suc n) xs)) ≡ flat_map f (enumerate_from m (take n xs)) ++ f (m + n, x)
more_from f m n [] x lt is = absurd (omega (arith, lt))
more_from f m zero (y ∷ ys) x lt is =
    append-nil (f (m, y)) ∙ ap (λ z. f (m, z)) is ∙ ap (λ k. f (k, x)) (let e : m ≡ m + 0 = omega arith in e)
more_from f m (suc n) (y ∷ ys) x lt is =
    ap (λ zs. f (m, y) ++ zs)
    (more_from f (m + 1) n ys x (omega (arith, lt)) is
    ∙ ap (λ k. flat_map f (enumerate_from (m + 1) (take n ys)) ++ f (k, x)) (let e : m + 1 + n ≡ m + suc n = omega arith in e))
    ∙ sym (append_assoc (f (m, y)) (flat_map f (enumerate_from (m + 1) (take n ys))) (f (m + suc n, x)))

pub one_more : {X Y : Type 0} (f : ℕ × X → List Y) (n : ℕ) (xs : List X) (x : X) → n < length xs → get_or xs n x ≡ x
    → flat_map f (placed (take (n + 1) xs)) ≡ flat_map f (placed (take n xs)) ++ f (n, x)
one_more f n xs x lt is =
    let step : n + 1 ≡ suc n = omega arith in
    let start : 0 + n ≡ n = omega arith in
    ap (λ k. flat_map f (placed (take k xs))) step ∙ more_from f 0 n xs x lt is
    ∙ ap (λ k. flat_map f (placed (take n xs)) ++ f (k, x)) start

map_from : {X Y : Type 0} (g : ℕ → Y) (m n : ℕ) (xs : List X) → n < length xs
    → map (λ (x : ℕ × X). g x.0) (enumerate_from m (take (suc n) xs))
    ≡ map (λ (x : ℕ × X). g x.0) (enumerate_from m (take n xs)) ++ g (m + n) ∷ []
map_from {X} g m n [] lt = absurd (omega (arith, lt))
map_from {X} g m zero (y ∷ ys) lt = ap (λ k. g k ∷ []) (let e : m ≡ m + 0 = omega arith in e)
map_from {X} g m (suc n) (y ∷ ys) lt =
    ap (λ zs. g m ∷ zs)
    (map_from g (m + 1) n ys (omega (arith, lt))
    ∙ ap (λ k. map (λ (x : ℕ × X). g x.0) (enumerate_from (m + 1) (take n ys)) ++ g k ∷ [])
    (let e : m + 1 + n ≡ m + suc n = omega arith in e))

pub one_place_more : {X Y : Type 0} (g : ℕ → Y) (n : ℕ) (xs : List X) → n < length xs
    → map (λ (x : ℕ × X). g x.0) (placed (take (n + 1) xs)) ≡ map (λ (x : ℕ × X). g x.0) (placed (take n xs)) ++ g n ∷ []
one_place_more {X} g n xs lt =
    let step : n + 1 ≡ suc n = omega arith in
    let start : 0 + n ≡ n = omega arith in
    ap (λ k. map (λ (x : ℕ × X). g x.0) (placed (take k xs))) step ∙ map_from g 0 n xs lt
    ∙ ap (λ k. map (λ (x : ℕ × X). g x.0) (placed (take n xs)) ++ g k ∷ []) start

pub added_more : {Y : Type 0} (old so_far part mid new : List Y) → mid ≡ old ++ so_far → new ≡ mid ++ part → new ≡ old ++ (so_far ++ part)
added_more old so_far part mid new is more = more ∙ ap (λ ys. ys ++ part) is ∙ append_assoc old so_far part

-- ---- one value of each element with its index

map_more : {X Y : Type 0} (f : ℕ × X → Y) (m n : ℕ) (xs : List X) (x : X) → n < length xs → get_or xs n x ≡ x
    → map f (enumerate_from m (take (suc n) xs)) ≡ map f (enumerate_from m (take n xs)) ++ f (m + n, x) ∷ []
map_more f m n [] x lt is = absurd (omega (arith, lt))
map_more f m zero (y ∷ ys) x lt is = ap (λ z. f (m, z) ∷ []) is ∙ ap (λ k. f (k, x) ∷ []) (let e : m ≡ m + 0 = omega arith in e)
map_more f m (suc n) (y ∷ ys) x lt is =
    ap (λ zs. f (m, y) ∷ zs)
    (map_more f (m + 1) n ys x (omega (arith, lt)) is
    ∙ ap (λ k. map f (enumerate_from (m + 1) (take n ys)) ++ f (k, x) ∷ []) (let e : m + 1 + n ≡ m + suc n = omega arith in e))

pub one_value_more : {X Y : Type 0} (f : ℕ × X → Y) (n : ℕ) (xs : List X) (x : X) → n < length xs → get_or xs n x ≡ x
    → map f (placed (take (n + 1) xs)) ≡ map f (placed (take n xs)) ++ f (n, x) ∷ []
one_value_more f n xs x lt is =
    let step : n + 1 ≡ suc n = omega arith in
    let start : 0 + n ≡ n = omega arith in
    ap (λ k. map f (placed (take k xs))) step ∙ map_more f 0 n xs x lt is
    ∙ ap (λ k. map f (placed (take n xs)) ++ f (k, x) ∷ []) start
