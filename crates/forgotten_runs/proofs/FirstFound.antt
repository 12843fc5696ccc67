-- The first element of a list that passes a test, with one more element at its end; and what is found in a copy.
use Rattle.std.specs.Prelude.{◌≡◌, ℕ, suc, ◌+◌, List, [], ◌∷◌, ◌++◌, length, map, Bool, true, false, cond, unwrap_or, refl}
use Rattle.std.specs.Prelude.{IsSomeAnd, MatchOption, Option, Some, None}
use Rattle.std.specs.List.{position, position_from}
use Rattle.std.specs.Option.{option_or}
use Rattle.std.proofs.Common.{arith, ap, sym, ◌∙◌}
use Rattle.std.proofs.lemmas.Iterator.Adapters.{position_from-zero}

-- ---- the first of a list with one more

one_behind : (n m : ℕ) → (n + 1) + m ≡ n + suc m
one_behind n m = omega arith

from_more : {X : Type 0} (test : X → Bool) (n : ℕ) (xs : List X) (x : X)
    → position_from test n (xs ++ x ∷ []) ≡ option_or (position_from test n xs) (cond (test x) (Some (n + length xs)) None)
from_more test n [] x = ap (λ k. cond (test x) (Some k) None) (none n)
  where
    none : (k : ℕ) → k ≡ k + 0
    none k = omega arith
from_more test n (y ∷ ys) x = by (test y) (from_more test (n + 1) ys x)
  where
    by : (b : Bool)
        → position_from test (n + 1) (ys ++ x ∷ []) ≡ option_or (position_from test (n + 1) ys) (cond (test x) (Some ((n + 1) + length ys)) None)
        → cond b (Some n) (position_from test (n + 1) (ys ++ x ∷ []))
        ≡ option_or (cond b (Some n) (position_from test (n + 1) ys)) (cond (test x) (Some (n + length (y ∷ ys))) None)
    by true later = refl
    by false later =
        later ∙ ap (λ k. option_or (position_from test (n + 1) ys) (cond (test x) (Some k) None)) (one_behind n (length ys))

pub from_map : {X Y : Type 0} (test : Y → Bool) (f : X → Y) (n : ℕ) (xs : List X)
    → position_from test n (map f xs) ≡ position_from (λ x. test (f x)) n xs
from_map test f n [] = refl
from_map test f n (x ∷ xs) = ap (λ o. cond (test (f x)) (Some n) o) (from_map test f (n + 1) xs)

pub more : {X : Type 0} (test : X → Bool) (xs : List X) (x : X)
    → position test (xs ++ x ∷ []) ≡ option_or (position test xs) (cond (test x) (Some (length xs)) None)
more test xs x =
    position_from-zero test (xs ++ x ∷ []) ∙ from_more test 0 xs x
    ∙ ap (λ k. option_or (position_from test 0 xs) (cond (test x) (Some k) None)) (none_before (length xs))
    ∙ ap (λ o. option_or o (cond (test x) (Some (length xs)) None)) (sym (position_from-zero test xs))
  where
    none_before : (n : ℕ) → 0 + n ≡ n
    none_before n = omega arith

pub kept_or : (o : Option ℕ) (r : ℕ) → Some (unwrap_or o r) ≡ option_or o (Some r)
kept_or None r = refl
kept_or (Some i) r = refl

pub kept_alone : (o : Option ℕ) → o ≡ option_or o None
kept_alone None = refl
kept_alone (Some i) = refl

-- ---- a copy finds the same

pub same_found : {X : Type 0} (D : X → X → Type 0) → ((m n : X) → D m n → n ≡ m) → (old new : Option X)
    → MatchOption old (new ≡ None) (λ v. IsSomeAnd new (D v)) → new ≡ old
same_found D is None new h = h
same_found D is (Some v) (Some w) h = ap Some (is v w h)
same_found D is (Some v) None h = absurd h
