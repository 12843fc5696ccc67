-- An element that a search finds belongs to the list and passes the test.
use Rattle.std.specs.Prelude.{◌≡◌, ℕ, zero, suc, ◌+◌, ◌<◌, List, [], ◌∷◌, ◌++◌, map, flat_map, length, find, Bool, true, false}
use Rattle.std.specs.Prelude.{if◌then◌else◌, Some, None, slice_get, refl}
use Rattle.std.specs.List.{enumerate_from, position, position_or_len, AllByRecursion}
use Rattle.std.proofs.Common.{arith, ap, subst, ◌∙◌, ltb, append_assoc, length-append}
use Rattle.std.proofs.lemmas.Bool.{ltb-true, ltb-false}
use Rattle.std.proofs.lemmas.List.Folds.{find_at}
use Rattle.std.proofs.lemmas.Option.{slice_get_past}
use Rattle.table_model.specs.Runs.{placed}

-- the element that `find` returns
pub record Found {X : Type 0} (P : X → Type 0) (test : X → Bool) (y : X) : Type 0 where
  pub is_element : P y
  pub passes : test y ≡ true

pub found : {X : Type 0} (P : X → Type 0) (test : X → Bool) (xs : List X) (y : X) → AllByRecursion P xs → find test xs ≡ Some y
    → Found P test y
found P test [] y all e = cc
found P test (x ∷ xs) y all e =
    elim (test x) as (λ b. test x ≡ b → (if b then Some x else find test xs) ≡ Some y → Found P test y) [
      | true ↦ λ is e. let same : x ≡ y = cc in record { is_element = subst P same all.0; passes = subst (λ z. test z ≡ true) same is }
      | false ↦ λ is e. found P test xs y all.1 e
    ] refl e

-- ---- a property of all elements of a list

pub all_weaken : {X : Type 0} (P Q : X → Type 0) → ((x : X) → P x → Q x) → (xs : List X) → AllByRecursion P xs → AllByRecursion Q xs
all_weaken P Q w [] h = tt
all_weaken P Q w (x ∷ xs) h = (w x h.0, all_weaken P Q w xs h.1)

pub all_of : {X : Type 0} (P : X → Type 0) → ((x : X) → P x) → (xs : List X) → AllByRecursion P xs
all_of P p [] = tt
all_of P p (x ∷ xs) = (p x, all_of P p xs)

pub all_append : {X : Type 0} (P : X → Type 0) (xs ys : List X) → AllByRecursion P xs → AllByRecursion P ys → AllByRecursion P (xs ++ ys)
all_append P [] ys h k = k
all_append P (x ∷ xs) ys h k = (h.0, all_append P xs ys h.1 k)

pub all_map : {X Y : Type 0} (P : Y → Type 0) (f : X → Y) → ((x : X) → P (f x)) → (xs : List X) → AllByRecursion P (map f xs)
all_map P f h [] = tt
all_map P f h (x ∷ xs) = (h x, all_map P f h xs)

pub all_flat_map : {X Y : Type 0} (P : Y → Type 0) (f : X → List Y) (xs : List X) → AllByRecursion (λ x. AllByRecursion P (f x)) xs
    → AllByRecursion P (flat_map f xs)
all_flat_map P f [] h = tt
all_flat_map P f (x ∷ xs) h = all_append P (f x) (flat_map f xs) h.0 (all_flat_map P f xs h.1)

-- ---- elements with their indices

get_at_seam : {X : Type 0} (xs : List X) (y : X) (ys : List X) → slice_get (xs ++ y ∷ ys) (length xs) ≡ Some y
get_at_seam [] y ys = refl
get_at_seam (x ∷ xs) y ys = get_at_seam xs y ys

placed_after : {X : Type 0} (prefix xs : List X)
    → AllByRecursion (λ e. slice_get (prefix ++ xs) e.0 ≡ Some e.1) (enumerate_from (length prefix) xs)
placed_after prefix [] = tt
placed_after prefix (x ∷ xs) =
    let tail = placed_after (prefix ++ x ∷ []) xs in
    (get_at_seam prefix x xs, simp (append_assoc, length-append) at tail)

-- each element is found at its index
pub placed_get : {X : Type 0} (xs : List X) → AllByRecursion (λ e. slice_get xs e.0 ≡ Some e.1) (placed xs)
placed_get xs = placed_after [] xs

-- ---- from all elements to each

pub each_of_append : {X : Type 0} (P : X → Type 0) (xs ys : List X) → AllByRecursion P (xs ++ ys)
    → AllByRecursion P xs × AllByRecursion P ys
each_of_append P [] ys h = (tt, h)
each_of_append P (x ∷ xs) ys h = let rest = each_of_append P xs ys h.1 in ((h.0, rest.0), rest.1)

pub each_of_flat_map : {X Y : Type 0} (P : Y → Type 0) (f : X → List Y) (xs : List X) → AllByRecursion P (flat_map f xs)
    → AllByRecursion (λ x. AllByRecursion P (f x)) xs
each_of_flat_map P f [] h = tt
each_of_flat_map P f (x ∷ xs) h = let both = each_of_append P (f x) (flat_map f xs) h in (both.0, each_of_flat_map P f xs both.1)

pub each_of_map : {X Y : Type 0} (P : Y → Type 0) (f : X → Y) (xs : List X) → AllByRecursion P (map f xs) → AllByRecursion (λ x. P (f x)) xs
each_of_map P f [] h = tt
each_of_map P f (x ∷ xs) h = (h.0, each_of_map P f xs h.1)

each_from : {X : Type 0} (P : ℕ × X → Type 0) (n : ℕ) (xs : List X) (k : ℕ) (x : X) → AllByRecursion P (enumerate_from n xs)
    → slice_get xs k ≡ Some x → P (n + k, x)
each_from P n [] k x h e = cc
each_from {X} P n (y ∷ ys) zero x h e =
    let same : y ≡ x = cc in
    let at : n ≡ n + 0 = omega arith in
    subst (λ (v : X). P (n + 0, v)) same (subst (λ (m : ℕ). P (m, y)) at h.0)
each_from P n (y ∷ ys) (suc k) x h e =
    let at : (n + 1) + k ≡ n + suc k = omega arith in
    subst (λ (m : ℕ). P (m, x)) at (each_from P (n + 1) ys k x h.1 e)

-- an element with its index
pub each_of_placed : {X : Type 0} (P : ℕ × X → Type 0) (xs : List X) (k : ℕ) (x : X) → AllByRecursion P (placed xs)
    → slice_get xs k ≡ Some x → P (k, x)
each_of_placed P xs k x h e =
    let at : 0 + k ≡ k = omega arith in
    subst (λ (m : ℕ). P (m, x)) at (each_from P 0 xs k x h e)

-- ---- if nothing is found, no element passes

pub none_found : {X : Type 0} (test : X → Bool) (xs : List X) → find test xs ≡ None → AllByRecursion (λ x. test x ≡ false) xs
none_found test [] e = tt
none_found test (x ∷ xs) e =
    elim (test x) as
    (λ b. test x ≡ b → (if b then Some x else find test xs) ≡ None → (test x ≡ false) × AllByRecursion (λ y. test y ≡ false) xs) [
      | true ↦ λ is e. cc
      | false ↦ λ is e. (is, none_found test xs e)
    ] refl e

pub each_at : {X : Type 0} (P : X → Type 0) (xs : List X) (k : ℕ) (x : X) → AllByRecursion P xs → slice_get xs k ≡ Some x → P x
each_at P [] k x h e = cc
each_at P (y ∷ ys) zero x h e = let same : y ≡ x = cc in subst P same h.0
each_at P (y ∷ ys) (suc k) x h e = each_at P ys k x h.1 e

-- the element that `find` returns passes the test
pub find_passes : {X : Type 0} (test : X → Bool) (xs : List X) (y : X) → find test xs ≡ Some y → test y ≡ true
find_passes test xs y e = (found (λ _. Unit {0}) test xs y (all_of (λ _. Unit {0}) (λ _. tt) xs) e).passes

-- ---- one more element at the end

pub at_the_end : {X : Type 0} (xs : List X) (y : X) → slice_get (xs ++ y ∷ []) (length xs) ≡ Some y
at_the_end xs y = get_at_seam xs y []

pub before_the_end : {X : Type 0} (xs : List X) (y : X) (k : ℕ) → (k ≡ length xs → ⊥) → slice_get (xs ++ y ∷ []) k ≡ slice_get xs k
before_the_end [] y zero n = absurd (n refl)
before_the_end [] y (suc k) n = refl
before_the_end (x ∷ xs) y zero n = refl
before_the_end (x ∷ xs) y (suc k) n = before_the_end xs y k (λ e. n (ap suc e))

-- ---- the index at which an element is found

pub record FoundAt {X : Type 0} (test : X → Bool) (xs : List X) (i : ℕ) : Type 0 where
  pub within : i < length xs
  pub is : find test xs ≡ slice_get xs i

place_cases : (b : Bool) (n i : ℕ) → (if b then Some n else None) ≡ Some i → (b ≡ true) × (n ≡ i)
place_cases true n i e = (refl, cc)
place_cases false n i e = cc

pub found_at : {X : Type 0} (test : X → Bool) (xs : List X) (i : ℕ) → position test xs ≡ Some i → FoundAt test xs i
found_at test xs i e =
    let place = place_cases (ltb (position_or_len test xs) (length xs)) (position_or_len test xs) i e in
    let lt = ltb-true (position_or_len test xs) (length xs) place.0 in
    let at = place.1 in
    record { within = omega (arith, lt, at); is = find_at test xs ∙ ap (slice_get xs) at }

no_place_cases : (b : Bool) (n : ℕ) → (if b then Some n else None) ≡ None → b ≡ false
no_place_cases true n e = cc
no_place_cases false n e = refl

pub found_nowhere : {X : Type 0} (test : X → Bool) (xs : List X) → position test xs ≡ None → find test xs ≡ None
found_nowhere test xs e =
    let no = no_place_cases (ltb (position_or_len test xs) (length xs)) (position_or_len test xs) e in
    find_at test xs ∙ slice_get_past xs (position_or_len test xs) (ltb-false (position_or_len test xs) (length xs) no)
