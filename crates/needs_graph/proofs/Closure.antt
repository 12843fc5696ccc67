-- The closure over paths through more and more jobs contains exactly the ends of walks.
use Rattle.std.proofs.Common.{◌≡◌, ◌⊎◌, ℕ, zero, suc, ◌<◌, ◌≤◌, List, [], ◌∷◌, Bool, true, false, cond, ◌&&◌, ◌||◌, length, get_or, sym}
use Rattle.std.proofs.Common.{refl, ap, ◌∙◌, ⊎_elim, arith}
use Rattle.std.proofs.lemmas.Bool.{and_parts, or_cases, or_left, or_right, and_from, cases_lt}
use Rattle.std.proofs.lemmas.List.{get_or-map, length-map}
use Rattle.needs_graph.specs.inner.JobBitmap.{is_marked, either, through, passed, closed}

pub length-either : (xs ys : List Bool) → length (either xs ys) ≡ length xs
length-either [] ys = refl
length-either (x ∷ xs) [] = refl
length-either (x ∷ xs) (y ∷ ys) = ap suc (length-either xs ys)

-- a union contains what one of the two sets contains
either_at : (xs ys : List Bool) (i : ℕ) → length ys ≡ length xs → is_marked (either xs ys) i ≡ (is_marked xs i || is_marked ys i)
either_at [] [] i e = refl
either_at [] (y ∷ ys) i e = absurd (omega arith)
either_at (x ∷ xs) [] i e = absurd (omega arith)
either_at (x ∷ xs) (y ∷ ys) zero e = refl
either_at (x ∷ xs) (y ∷ ys) (suc i) e = either_at xs ys i (omega arith)

pub length-through : (k : ℕ) (others marks : List Bool) → length (through k others marks) ≡ length marks
length-through k others marks =
    elim (is_marked marks k) as (λ v. length (cond v (either marks others) marks) ≡ length marks)
    [ true ↦ length-either marks others | false ↦ refl ]

pub or_false : (x : Bool) → x ≡ (x || false)
or_false true = refl
or_false false = refl

through_at : (k : ℕ) (others marks : List Bool) (i : ℕ) → length others ≡ length marks
    → is_marked (through k others marks) i ≡ (is_marked marks i || (is_marked marks k && is_marked others i))
through_at k others marks i e =
    elim (is_marked marks k) as (λ v. is_marked (cond v (either marks others) marks) i ≡ (is_marked marks i || (v && is_marked others i)))
    [ true ↦ either_at marks others i e | false ↦ or_false (is_marked marks i) ]

-- ---- rows of equal width

abbrev pub row_at : List (List Bool) → ℕ → List Bool
row_at rows j = get_or rows j []

-- whether the job j reaches the job i
abbrev pub bit : List (List Bool) → ℕ → ℕ → Bool
bit rows j i = is_marked (row_at rows j) i

abbrev pub IsWide : ℕ → List (List Bool) → Type 0
IsWide n rows = (j : ℕ) → j < length rows → length (row_at rows j) ≡ n

row_at-passed : (k : ℕ) (rows : List (List Bool)) (j : ℕ) → j < length rows
    → row_at (passed k rows) j ≡ through k (row_at rows k) (row_at rows j)
row_at-passed k rows j below = get_or-map (through k (row_at rows k)) rows j [] [] below

pub length-closed : (k : ℕ) (rows : List (List Bool)) → length (closed k rows) ≡ length rows
length-closed zero rows = refl
length-closed (suc k) rows = length-map (closed k rows) (through k (row_at (closed k rows) k)) ∙ length-closed k rows

pub IsWide-closed : (n k : ℕ) (rows : List (List Bool)) → IsWide n rows → IsWide n (closed k rows)
IsWide-closed n zero rows wide = wide
IsWide-closed n (suc k) rows wide = λ j below.
    let inner : j < length (closed k rows) = omega (arith, length-closed (suc k) rows, length-closed k rows) in
    ap length (row_at-passed k (closed k rows) j inner) ∙ (length-through k _ _ ∙ IsWide-closed n k rows wide j inner)

bit-closed : (n k : ℕ) (rows : List (List Bool)) → IsWide n rows → k < length rows → (j i : ℕ) → j < length rows
    → bit (closed (suc k) rows) j i ≡ (bit (closed k rows) j i || (bit (closed k rows) j k && bit (closed k rows) k i))
bit-closed n k rows wide k_below j i below =
    let now = closed k rows in
    let j_in : j < length now = omega (arith, length-closed k rows) in
    let k_in : k < length now = omega (arith, length-closed k rows) in
    ap (λ row. is_marked row i) (row_at-passed k now j j_in)
    ∙ through_at k (row_at now k) (row_at now j) i (IsWide-closed n k rows wide k k_in ∙ sym (IsWide-closed n k rows wide j j_in))

-- ---- the closure is contained in any transitive relation that contains the rows

pub sound : (n : ℕ) (rows : List (List Bool)) → IsWide n rows → (R : ℕ → ℕ → Type 0) → ((j i : ℕ) → bit rows j i ≡ true → R j i)
    → ((j m i : ℕ) → R j m → R m i → R j i) → (k : ℕ) → k ≤ length rows → (j i : ℕ) → j < length rows → bit (closed k rows) j i ≡ true
    → R j i
sound n rows wide R base join zero k_in j i below h = base j i h
sound n rows wide R base join (suc k) k_in j i below h =
    let k_below : k < length rows = omega arith in
    let before : (j' i' : ℕ) → j' < length rows → bit (closed k rows) j' i' ≡ true → R j' i' = sound n rows wide R base join k (omega arith)
    in
    ⊎_elim (λ e. before j i below e)
    (λ e. let parts = and_parts _ _ e in join j k i (before j k below parts.0) (before k i k_below parts.1))
    (or_cases _ _ (sym (bit-closed n k rows wide k_below j i below) ∙ h))

-- ---- the closure contains the end of one more step

bit_kept : (n : ℕ) (rows : List (List Bool)) → IsWide n rows → (k : ℕ) → k ≤ length rows → (j i : ℕ) → j < length rows → bit rows j i ≡ true
    → bit (closed k rows) j i ≡ true
bit_kept n rows wide zero k_in j i below h = h
bit_kept n rows wide (suc k) k_in j i below h =
    let k_below : k < length rows = omega arith in
    bit-closed n k rows wide k_below j i below ∙ or_left _ _ (bit_kept n rows wide k (omega arith) j i below h)

step_first : (n : ℕ) (rows : List (List Bool)) → IsWide n rows → (k : ℕ) → k ≤ length rows → (j m i : ℕ) → j < length rows → m < k
    → bit rows j m ≡ true → bit (closed k rows) m i ≡ true → bit (closed k rows) j i ≡ true
step_first n rows wide zero k_in j m i below m_below e h = absurd (omega arith)
step_first n rows wide (suc k) k_in j m i below m_below e h =
    let k_below : k < length rows = omega arith in
    let m_in : m < length rows = omega arith in
    let now = closed k rows in
    let before : (to : ℕ) → m < k → bit now m to ≡ true → bit now j to ≡ true = λ to less g. step_first n rows wide k (omega arith) j m to
    below less e g in
    let on_from_k : bit now j k ≡ true → bit now k i ≡ true → (bit now j i || (bit now j k && bit now k i)) ≡ true = λ a b. or_right _ _
    (and_from _ _ a b) in
    let cases : (bit now m i ≡ true) ⊎ ((bit now m k && bit now k i) ≡ true) = or_cases _ _ (sym (bit-closed n k rows wide k_below m i m_in)
    ∙ h) in
    let rest : (bit now j i || (bit now j k && bit now k i)) ≡ true =
    ⊎_elim
    (λ less. ⊎_elim (λ c. or_left _ _ (before i less c)) (λ c. let parts = and_parts _ _ c in on_from_k (before k less parts.0) parts.1)
    cases)
    (λ not_less.
    let same : m ≡ k = omega arith in
    let to_k : bit now j k ≡ true = bit_kept n rows wide k (omega arith) j k below (ap (λ x. bit rows j x) (sym same) ∙ e) in
    ⊎_elim (λ c. on_from_k to_k (ap (λ x. bit now x i) (sym same) ∙ c)) (λ c. on_from_k to_k (and_parts _ _ c).1) cases)
    (cases_lt m k) in
    bit-closed n k rows wide k_below j i below ∙ rest

pub complete_step : (n : ℕ) (rows : List (List Bool)) → IsWide n rows → (j m i : ℕ) → j < length rows → m < length rows
    → bit rows j m ≡ true → bit (closed (length rows) rows) m i ≡ true → bit (closed (length rows) rows) j i ≡ true
complete_step n rows wide j m i below m_below e h = step_first n rows wide (length rows) (omega arith) j m i below m_below e h

pub complete_start : (n : ℕ) (rows : List (List Bool)) → IsWide n rows → (j i : ℕ) → j < length rows → bit rows j i ≡ true
    → bit (closed (length rows) rows) j i ≡ true
complete_start n rows wide j i below e = bit_kept n rows wide (length rows) (omega arith) j i below e
