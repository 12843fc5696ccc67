-- The elements of a list after a change at one index.
use Rattle.std.specs.Prelude.{◌≡◌, ◌⊎◌, ℕ, zero, suc, List, [], ◌∷◌, length, Option, Some, option_map, option_and_then, slice_get, refl}
use Rattle.std.proofs.Common.{arith, ap, sym, ◌∙◌, inl, inr, subst}
use Rattle.std.proofs.lemmas.Bool.{cases_eq}
use Rattle.table_model.specs.Runs.{changed_at}

-- the element from which an element of the changed list comes
pub record Came {X : Type 0} (i : ℕ) (f : X → X) (xs : List X) (k : ℕ) (y : X) : Type 0 where
  pub old : X
  pub was : slice_get xs k ≡ Some old
  pub how : ((k ≡ i) × (y ≡ f old)) ⊎ ((k ≡ i → ⊥) × (y ≡ old))

pub came : {X : Type 0} (i : ℕ) (f : X → X) (xs : List X) (k : ℕ) (y : X) → slice_get (changed_at i f xs) k ≡ Some y → Came i f xs k y
came i f [] k y h = cc
came zero f (x ∷ xs) zero y h = record { old = x; was = refl; how = inl (refl, cc) }
came zero f (x ∷ xs) (suc k) y h = record { old = y; was = h; how = inr ((λ e. omega arith), refl) }
came (suc i) f (x ∷ xs) zero y h = record { old = x; was = refl; how = inr ((λ e. omega arith), cc) }
came (suc i) f (x ∷ xs) (suc k) y h =
    let c = came i f xs k y h in
    record {
      old = c.old;
      was = c.was;
      how = elim (c.how) [
        | inl e ↦ inl (ap suc e.0, e.1)
        | inr e ↦ inr ((λ n. e.0 (omega arith)), e.1)
      ];
    }

pub at_changed : {X : Type 0} (i : ℕ) (f : X → X) (xs : List X) → slice_get (changed_at i f xs) i ≡ option_map f (slice_get xs i)
at_changed i f [] = refl
at_changed zero f (x ∷ xs) = refl
at_changed (suc i) f (x ∷ xs) = at_changed i f xs

pub at_another : {X : Type 0} (i : ℕ) (f : X → X) (xs : List X) (k : ℕ) → (k ≡ i → ⊥) → slice_get (changed_at i f xs) k ≡ slice_get xs k
at_another i f [] k n = refl
at_another zero f (x ∷ xs) zero n = absurd (n refl)
at_another zero f (x ∷ xs) (suc k) n = refl
at_another (suc i) f (x ∷ xs) zero n = refl
at_another (suc i) f (x ∷ xs) (suc k) n = at_another i f xs k (λ e. n (ap suc e))

pub length-changed_at : {X : Type 0} (i : ℕ) (f : X → X) (xs : List X) → length (changed_at i f xs) ≡ length xs
length-changed_at i f [] = refl
length-changed_at zero f (x ∷ xs) = refl
length-changed_at (suc i) f (x ∷ xs) = ap suc (length-changed_at i f xs)

-- if a reading of the changed element stays the same, so does the reading at every index
pub reads_same : {X Y : Type 0} (i : ℕ) (f : X → X) (xs : List X) (x : X) (g : X → Option Y) → slice_get xs i ≡ Some x → g (f x) ≡ g x
    → (k : ℕ) → option_and_then g (slice_get (changed_at i f xs) k) ≡ option_and_then g (slice_get xs k)
reads_same i f xs x g was same k =
    elim (cases_eq k i) [
      | inl e ↦
          ap (λ n. option_and_then g (slice_get (changed_at i f xs) n)) e
          ∙ ap (option_and_then g) (at_changed i f xs ∙ ap (option_map f) was) ∙ same
          ∙ sym (ap (option_and_then g) was) ∙ ap (λ n. option_and_then g (slice_get xs n)) (sym e)
      | inr n ↦ ap (option_and_then g) (at_another i f xs k n)
    ]

-- if a value read from the changed element is still read from it, the value read at every index is still read
pub reads_stay : {X Y : Type 0} (i : ℕ) (f : X → X) (xs : List X) (x : X) (g : X → Option Y) (a : Y) → slice_get xs i ≡ Some x
    → (g x ≡ Some a → g (f x) ≡ Some a) → (k : ℕ) → option_and_then g (slice_get xs k) ≡ Some a
    → option_and_then g (slice_get (changed_at i f xs) k) ≡ Some a
reads_stay i f xs x g a was keeps k e =
    elim (cases_eq k i) [
      | inl s ↦
          ap (λ n. option_and_then g (slice_get (changed_at i f xs) n)) s
          ∙ ap (option_and_then g) (at_changed i f xs ∙ ap (option_map f) was)
          ∙ keeps (sym (ap (option_and_then g) (ap (slice_get xs) s ∙ was)) ∙ e)
      | inr n ↦ ap (option_and_then g) (at_another i f xs k n) ∙ e
    ]

-- a property of each element still holds of each if it holds of the changed one
pub holds_of_each : {X : Type 0} (i : ℕ) (f : X → X) (xs : List X) (x : X) (P : ℕ → X → Type 0) → slice_get xs i ≡ Some x → P i (f x)
    → ((k : ℕ) (y : X) → slice_get xs k ≡ Some y → P k y) → (k : ℕ) (y : X) → slice_get (changed_at i f xs) k ≡ Some y → P k y
holds_of_each {X} i f xs x P was now each k y e =
    let c = came i f xs k y e in
    elim (c.how) [
      | inl h ↦
          let is_x : c.old ≡ x = let two : Some c.old ≡ Some x = sym c.was ∙ ap (slice_get xs) h.0 ∙ was in cc in
          let is_y : f x ≡ y = sym (h.1 ∙ ap f is_x) in
          subst (λ (n : ℕ). P n y) (sym h.0) (subst (P i) is_y now)
      | inr h ↦ subst (P k) (sym h.1) (each k c.old c.was)
    ]
