-- What a loop has added so far, and one element more.
use Rattle.std.proofs.Common.{◌≡◌, ◌∙◌, ℕ, ◌+◌, ◌<◌, List, [], ◌∷◌, ◌++◌, length, map, take, get_or, sym, ap, append-nil, append_assoc}
use Rattle.std.proofs.lemmas.List.{map-append, map_more, take_more}
use Rattle.std.proofs.lemmas.List.Elements.{filter_more}
use Rattle.std.proofs.lemmas.Grind.{flat_map-append}
use Rattle.std.specs.Prelude.{Bool, true, false, cond}
use Rattle.std.specs.List.{filter, flat_map}

-- a part after all that was added before it
pub after : (old mid new added part : List ℕ) → mid ≡ old ++ added → new ≡ mid ++ part → new ≡ old ++ (added ++ part)
after old mid new added part before more = more ∙ ap (λ (s : List ℕ). s ++ part) before ∙ append_assoc old added part

module _ {X Y : Type 0} (ys : List Y) (xs : List X) (i : ℕ) (x : X) (lt : i < length xs) (is : x ≡ get_or xs i x) where
  pub mapped_more : (f : X → Y) → (ys ++ map f (take i xs)) ++ f x ∷ [] ≡ ys ++ map f (take (i + 1) xs)
  mapped_more f =
      append_assoc ys (map f (take i xs)) (f x ∷ [])
      ∙ ap (λ (z : X). ys ++ (map f (take i xs) ++ f z ∷ [])) is ∙ ap (λ zs. ys ++ zs) (sym (map_more f xs i x lt))

  pub joined_more : (f : X → List Y) → (ys ++ flat_map f (take i xs)) ++ f x ≡ ys ++ flat_map f (take (i + 1) xs)
  joined_more f =
      append_assoc ys (flat_map f (take i xs)) (f x)
      ∙ ap (λ (z : X). ys ++ (flat_map f (take i xs) ++ f z)) is
      ∙ ap (λ zs. ys ++ (flat_map f (take i xs) ++ zs)) (sym (append-nil (f (get_or xs i x))))
      ∙ ap (λ zs. ys ++ zs) (sym (ap (flat_map f) (take_more xs i x lt) ∙ flat_map-append f (take i xs) (get_or xs i x ∷ [])))

  filtered : (p : X → Bool) (b : Bool) → p x ≡ b → filter p (take (i + 1) xs) ≡ filter p (take i xs) ++ cond b (x ∷ []) []
  filtered p b passes =
      filter_more p xs i x lt ∙ ap (λ (z : X). filter p (take i xs) ++ cond (p z) (z ∷ []) []) (sym is)
      ∙ ap (λ c. filter p (take i xs) ++ cond c (x ∷ []) []) passes

  pub kept_more : (p : X → Bool) (f : X → Y) → p x ≡ true
      → (ys ++ map f (filter p (take i xs))) ++ f x ∷ [] ≡ ys ++ map f (filter p (take (i + 1) xs))
  kept_more p f passes =
      append_assoc ys (map f (filter p (take i xs))) (f x ∷ [])
      ∙ ap (λ zs. ys ++ zs) (sym (ap (map f) (filtered p true passes) ∙ map-append f (filter p (take i xs)) (x ∷ [])))

  pub left_out : (p : X → Bool) (f : X → Y) → p x ≡ false → ys ++ map f (filter p (take i xs)) ≡ ys ++ map f (filter p (take (i + 1) xs))
  left_out p f fails =
      ap (λ zs. ys ++ map f zs) (sym (filtered p false fails ∙ append-nil (filter p (take i xs))))
