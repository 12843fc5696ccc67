-- Pieces joined by commas are the first, then each other one after a comma.
use Rattle.std.proofs.Common.{◌≡◌, ◌≤◌, ℕ, List, [], ◌∷◌, ◌++◌, map, length, take, ap, sym, append_assoc}
use Rattle.std.proofs.lemmas.List.{append-nil, take_all}
use Rattle.std.specs.Prelude.{codes}
use Rattle.std.specs.List.{flat_map, join_with_byte}

pub joined_by_commas : {X : Type 0} (f : X → List ℕ) (x : X) (xs : List X)
    → join_with_byte 44 (map f (x ∷ xs)) ≡ f x ++ flat_map (λ y. codes "," ++ f y) xs
joined_by_commas f x [] = sym (append-nil (f x))
joined_by_commas f x (y ∷ xs) = ap (λ t. f x ++ 44 ∷ t) (joined_by_commas f y xs)

-- the first piece was added, then each other one after a comma
pub all_joined : {X : Type 0} (f : X → List ℕ) (all others : List X) (x : X) (i : ℕ) (old middle new : List ℕ) → all ≡ x ∷ others
    → length others ≤ i → middle ≡ old ++ f x → new ≡ middle ++ flat_map (λ y. codes "," ++ f y) (take i others)
    → new ≡ old ++ join_with_byte 44 (map f all)
all_joined f all others x i old middle new is-all past is-middle is-new =
    rw (is-new, is-middle, is-all, joined_by_commas f x others, take_all i others past)
    (append_assoc old (f x) (flat_map (λ y. codes "," ++ f y) others))
