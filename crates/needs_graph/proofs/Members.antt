-- Membership in a list of numbers, as a test and as a proposition.
use Rattle.std.proofs.Common.{◌≡◌, ◌⊎◌, ℕ, List, [], ◌∷◌, ◌++◌, true, eqb, sym, refl, subst, ◌∙◌, inl, inr, ⊎_elim}
use Rattle.std.specs.List.{Contains, list_any, flat_map}
use Rattle.std.proofs.lemmas.Bool.{or_cases, or_left, or_right, eqb-true, eq-eqb, false≢true}
use Rattle.std.proofs.lemmas.List.Folds.{list_any-append, Any-from_list_any}
use Rattle.std.proofs.lemmas.Map.Views.{list_any-from_Contains}
use Rattle.std.proofs.lemmas.List.{get_or_default}
use Rattle.std.proofs.lemmas.Cmp.{nat_eq_equiv}

-- the test finds the number
abbrev pub Has : List ℕ → ℕ → Type 0
Has xs x = list_any (eqb x) xs ≡ true

pub Contains-from_Has : (xs : List ℕ) (x : ℕ) → Has xs x → Contains xs x
Contains-from_Has xs x h =
    let a = Any-from_list_any (eqb x) xs h in
    (a.0, a.2, get_or_default xs a.0 x a.1 a.2 ∙ (a.3 ∙ sym (eqb-true x a.1 a.4)))

pub Has-from_Contains : (xs : List ℕ) (x : ℕ) → Contains xs x → Has xs x
Has-from_Contains xs x h = list_any-from_Contains nat_eq_equiv x xs h

pub Has-append : (xs ys : List ℕ) (x : ℕ) → Has xs x ⊎ Has ys x → Has (xs ++ ys) x
Has-append xs ys x (inl h) = list_any-append (eqb x) xs ys ∙ or_left _ _ h
Has-append xs ys x (inr h) = list_any-append (eqb x) xs ys ∙ or_right _ _ h

pub Has-append_cases : (xs ys : List ℕ) (x : ℕ) → Has (xs ++ ys) x → Has xs x ⊎ Has ys x
Has-append_cases xs ys x h = or_cases _ _ (sym (list_any-append (eqb x) xs ys) ∙ h)

-- an element of one of the lists is in their concatenation
pub Has-flat_map : (f : ℕ → List ℕ) (xs : List ℕ) (x y : ℕ) → Has xs x → Has (f x) y → Has (flat_map f xs) y
Has-flat_map f [] x y h g = absurd (false≢true h)
Has-flat_map f (z ∷ zs) x y h g =
    Has-append (f z) (flat_map f zs) y
    (⊎_elim (λ e. inl (let P : ℕ → Type 0 = λ n. Has (f n) y in subst P (eqb-true x z e) g)) (λ r. inr (Has-flat_map f zs x y r g))
    (or_cases _ _ h))

-- the converse
pub Has-flat_map_from : (f : ℕ → List ℕ) (xs : List ℕ) (y : ℕ) → Has (flat_map f xs) y → (x : ℕ) × Has xs x × Has (f x) y
Has-flat_map_from f [] y h = absurd (false≢true h)
Has-flat_map_from f (z ∷ zs) y h =
    ⊎_elim (λ g. (z, or_left _ _ (eq-eqb z z refl), g)) (λ g. let w = Has-flat_map_from f zs y g in (w.0, or_right _ _ w.1, w.2))
    (Has-append_cases (f z) (flat_map f zs) y h)
