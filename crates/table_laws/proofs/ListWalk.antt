-- A property of every move of a list, with the moves before it and after it, by recursion.
use Rattle.std.proofs.Common.{◌≡◌, List, [], ◌∷◌, ◌++◌, refl, ap, sym, subst, append_assoc}
use Rattle.std.proofs.lemmas.List.{append-nil}

-- P holds at each element of a list that follows others
abbrev pub AtEach : {X : Type 0} → (List X → X → List X → Type 0) → List X → List X → Type 0
AtEach {X} P start xs = (before after : List X) (x : X) → xs ≡ before ++ x ∷ after → P (start ++ before) x after

abbrev pub Walk : {X : Type 0} → (List X → X → List X → Type 0) → List X → List X → Type 0
Walk P start [] = Unit {0}
Walk P start (x ∷ xs) = P start x xs × Walk P (start ++ x ∷ []) xs

pub walk_of : {X : Type 0} (P : List X → X → List X → Type 0) (start xs : List X) → AtEach P start xs → Walk P start xs
walk_of P start [] each = tt
walk_of P start (x ∷ xs) each = (
  subst (λ s. P s x xs) (append-nil start) (each [] xs x refl),
  walk_of P (start ++ x ∷ []) xs (λ before after y e.
      subst (λ s. P s y after) (sym (append_assoc start (x ∷ []) before)) (each (x ∷ before) after y (ap (λ ys. x ∷ ys) e))),
)

pub nil_is_no_cons : {X : Type 0} (before after : List X) (x : X) → [] ≡ before ++ x ∷ after → ⊥
nil_is_no_cons [] after x e = cc
nil_is_no_cons (y ∷ before) after x e = cc

pub each_of : {X : Type 0} (P : List X → X → List X → Type 0) (start xs : List X) → Walk P start xs → AtEach P start xs
each_of P start [] walk before after y e = absurd (nil_is_no_cons before after y e)
each_of P start (x ∷ xs) walk [] after y e =
    let same : x ≡ y = cc in
    let rest : xs ≡ after = cc in
    subst (λ s. P s y after) (sym (append-nil start)) (subst (λ ys. P start y ys) rest (subst (λ z. P start z xs) same walk.0))
each_of P start (x ∷ xs) walk (z ∷ before) after y e =
    let same : x ≡ z = cc in
    let rest : xs ≡ before ++ y ∷ after = cc in
    subst (λ s. P s y after) (append_assoc start (z ∷ []) before)
    (subst (λ w. P ((start ++ w ∷ []) ++ before) y after) same (each_of P (start ++ x ∷ []) xs walk.1 before after y rest))

-- a property of both parts holds of the whole, if it is stable under appending moves
pub walk_on : {X : Type 0} (P : List X → X → List X → Type 0) → ((before after more : List X) (x : X) → P before x after
    → P before x (after ++ more)) → (start xs ys : List X) → Walk P start xs → Walk P (start ++ xs) ys → Walk P start (xs ++ ys)
walk_on P more start [] ys first second = subst (λ s. Walk P s ys) (append-nil start) second
walk_on P more start (x ∷ xs) ys first second = (
  more start xs ys x first.0,
  walk_on P more (start ++ x ∷ []) xs ys first.1 (subst (λ s. Walk P s ys) (sym (append_assoc start (x ∷ []) xs)) second),
)
