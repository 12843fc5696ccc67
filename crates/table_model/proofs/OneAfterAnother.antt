-- Walks over a list that stop at the first element that fails a test.
use Rattle.std.specs.Prelude.{◌≡◌, ℕ, ◌+◌, ◌<◌, ◌≤◌, List, [], ◌∷◌, ◌++◌, length, map, take, Bool, true, false}
use Rattle.std.specs.Prelude.{◌&&◌, suc, Some, option_map, slice_get, refl}
use Rattle.std.specs.List.{list_all}
use Rattle.std.specs.Bool.{Decides}
use Rattle.std.proofs.Common.{arith, ap, ap₂, sym, subst, ◌∙◌, get_or, below_more}
use Rattle.std.proofs.lemmas.Bool.{true≢false}
use Rattle.std.proofs.lemmas.List.{map-append, take_more}
use Rattle.std.proofs.lemmas.Option.{get_or_from_slice_get, same_Some, slice_get-get_or, slice_get-map, slice_get_within}
use Rattle.table_model.proofs.Optional.{from_map}

-- ---- tests

pub yes : {P : Type 0} → P → Decides true P
yes p = ((λ e. p), (λ h. refl))

pub no : {P : Type 0} → (P → ⊥) → Decides false P
no n = ((λ e. absurd (true≢false (sym e))), (λ p. absurd (n p)))

pub not_so : {P : Type 0} (b : Bool) → Decides b P → b ≡ false → P → ⊥
not_so b d is p = true≢false (sym (d.1 p) ∙ is)

-- ---- element by element

-- a property of each element that the walk has passed
abbrev pub SoFar : {X : Type 0} → (ℕ → X → Type 0) → List X → ℕ → Type 0
SoFar P xs n = (k : ℕ) → k < n → (x : _) → slice_get xs k ≡ Some x → P k x

abbrev pub OfEach : {X : Type 0} → (ℕ → X → Type 0) → List X → Type 0
OfEach P xs = (k : ℕ) (x : _) → slice_get xs k ≡ Some x → P k x

pub none_yet : {X : Type 0} (P : ℕ → X → Type 0) (xs : List X) → SoFar P xs 0
none_yet P xs k lt = absurd (omega arith)

pub read_at : {X : Type 0} (xs : List X) (i : ℕ) (y : X) → i < length xs → y ≡ get_or xs i y → slice_get xs i ≡ Some y
read_at xs i y lt is = slice_get-get_or xs i y lt ∙ ap Some (sym is)

pub one_passed : {X : Type 0} (P : ℕ → X → Type 0) (xs : List X) (i : ℕ) (y : X) → SoFar P xs i → i < length xs → y ≡ get_or xs i y → P i y
    → SoFar P xs (i + 1)
one_passed {X} P xs i y before lt is p =
    below_more (λ k. (x : X) → slice_get xs k ≡ Some x → P k x) i before
    (λ x at. subst (P i) (same_Some y x (sym (read_at xs i y lt is) ∙ at)) p)

pub all_passed : {X : Type 0} (P : ℕ → X → Type 0) (xs : List X) (n : ℕ) → SoFar P xs n → length xs ≤ n → OfEach P xs
all_passed P xs n before le k x at = let lt = slice_get_within xs k x at in before k (omega arith) x at

pub passed : {X : Type 0} (P : ℕ → X → Type 0) (xs : List X) (n : ℕ) → SoFar P xs n → length xs ≤ n → Decides true (OfEach P xs)
passed P xs n before le = yes (all_passed P xs n before le)

pub stopped_at : {X : Type 0} (P : ℕ → X → Type 0) (xs : List X) (i : ℕ) (y : X) (b : Bool) → i < length xs → y ≡ get_or xs i y
    → Decides b (P i y) → b ≡ false → Decides false (OfEach P xs)
stopped_at P xs i y b lt is d isnt = no (λ each. not_so b d isnt (each i y (read_at xs i y lt is)))

-- a property of elements that are each made from another
pub each_mapped : {X Y : Type 0} (P : ℕ → Y → Type 0) (f : X → Y) (xs : List X) → OfEach (λ k x. P k (f x)) xs → OfEach P (map f xs)
each_mapped P f xs each k y at =
    let from = from_map f (slice_get xs k) y (sym (slice_get-map f xs k) ∙ at) in
    subst (P k) from.gives (each k from.value from.is)

pub each_unmapped : {X Y : Type 0} (P : ℕ → Y → Type 0) (f : X → Y) (xs : List X) → OfEach P (map f xs) → OfEach (λ k x. P k (f x)) xs
each_unmapped P f xs each k x at = each k (f x) (slice_get-map f xs k ∙ ap (option_map f) at)

-- ---- a test that all elements pass

pub all_pass : {X : Type 0} (p : X → Bool) (xs : List X) → OfEach (λ k x. p x ≡ true) xs → list_all p xs ≡ true
all_pass p [] each = refl
all_pass p (x ∷ xs) each =
    ap (λ b. b && list_all p xs) (each 0 x refl) ∙ all_pass p xs (λ k y at. each (suc k) y at)

-- ---- results that may be an error

pub grown : {X Y : Type 0} (f : X → Y) (xs : List X) (x : X) (ys : List Y) (i : ℕ) (y : Y) → map f xs ≡ take i ys → f x ≡ y
    → slice_get ys i ≡ Some y → map f (xs ++ x ∷ []) ≡ take (i + 1) ys
grown f xs x ys i y so_far here at =
    map-append f xs (x ∷ [])
    ∙ ap₂ (λ zs z. zs ++ z ∷ []) so_far (here ∙ sym (get_or_from_slice_get ys i y y at))
    ∙ sym (take_more ys i y (slice_get_within ys i y at))

pub grown_same : {X : Type 0} (xs ys : List X) (i : ℕ) (y : X) → xs ≡ take i ys → slice_get ys i ≡ Some y → xs ++ y ∷ [] ≡ take (i + 1) ys
grown_same xs ys i y so_far at =
    ap₂ (λ zs z. zs ++ z ∷ []) so_far (sym (get_or_from_slice_get ys i y y at)) ∙ sym (take_more ys i y (slice_get_within ys i y at))
