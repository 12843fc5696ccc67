-- Texts joined by commas are the first, then each other one after a comma.
use Rattle.std.proofs.Common.{◌≡◌, ◌≤◌, ℕ, List, [], ◌∷◌, ◌++◌, length, take, ap, sym, append_assoc}
use Rattle.std.proofs.lemmas.List.{append-nil, take_all}
use Rattle.std.specs.Prelude.{codes}
use Rattle.std.specs.List.{flat_map, join_with_byte}

abbrev pub after_comma : List ℕ → List ℕ
after_comma text = codes "," ++ text

joined_by_commas : (x : List ℕ) (xs : List (List ℕ)) → join_with_byte 44 (x ∷ xs) ≡ x ++ flat_map after_comma xs
joined_by_commas x [] = sym (append-nil x)
joined_by_commas x (y ∷ xs) = ap (λ t. x ++ 44 ∷ t) (joined_by_commas y xs)

-- the first text was added, then each other one after a comma
pub all_joined : (all others : List (List ℕ)) (x : List ℕ) (i : ℕ) (old middle new : List ℕ) → all ≡ x ∷ others
    → length others ≤ i → middle ≡ old ++ x → new ≡ middle ++ flat_map after_comma (take i others)
    → new ≡ old ++ join_with_byte 44 all
all_joined all others x i old middle new is-all past is-middle is-new =
    rw (is-new, is-middle, is-all, joined_by_commas x others, take_all i others past)
    (append_assoc old x (flat_map after_comma others))
