-- The value from which an `Option` was made.
use Rattle.std.specs.Prelude.{◌≡◌, ℕ, List, [], ◌∷◌, suc, zero, Bool, true, false, Option, Some, None, option_map, option_and_then}
use Rattle.std.specs.Prelude.{is_some, slice_get, if◌then◌else◌, refl}
use Rattle.std.specs.List.{list_all}
use Rattle.std.proofs.Common.{ap, sym, ◌∙◌}
use Rattle.std.proofs.lemmas.Bool.{and_parts}

-- the value from which an answer was made
pub record From {X Y : Type 0} (f : X → Option Y) (o : Option X) (y : Y) : Type 0 where
  pub value : X
  pub is : o ≡ Some value
  pub gives : f value ≡ Some y

pub from_and_then : {X Y : Type 0} (f : X → Option Y) (o : Option X) (y : Y) → option_and_then f o ≡ Some y → From f o y
from_and_then f None y h = cc
from_and_then f (Some x) y h = record { value = x; is = refl; gives = h }

pub record Mapped {X Y : Type 0} (f : X → Y) (o : Option X) (y : Y) : Type 0 where
  pub value : X
  pub is : o ≡ Some value
  pub gives : f value ≡ y

pub from_map : {X Y : Type 0} (f : X → Y) (o : Option X) (y : Y) → option_map f o ≡ Some y → Mapped f o y
from_map f None y h = cc
from_map f (Some x) y h = record { value = x; is = refl; gives = cc }

pub and_then-option_map : {X Y Z : Type 0} (f : Y → Option Z) (g : X → Y) (o : Option X)
    → option_and_then f (option_map g o) ≡ option_and_then (λ x. f (g x)) o
and_then-option_map f g None = refl
and_then-option_map f g (Some x) = refl

-- a value that is present only if a test holds
pub if_some : {Y : Type 0} (b : Bool) (x y : Y) → (if b then Some x else None) ≡ Some y → (b ≡ true) × (x ≡ y)
if_some true x y h = (refl, cc)
if_some false x y h = cc

pub if_none : {Y : Type 0} (b : Bool) (x : Y) → (if b then Some x else None) ≡ None → b ≡ false
if_none true x h = cc
if_none false x h = refl

pub some_of : {X : Type 0} (o : Option X) → is_some o ≡ true → (x : X) × (o ≡ Some x)
some_of None some = cc
some_of (Some x) some = (x, refl)

-- an element of a list whose elements all pass a test
pub each_passes : {X : Type 0} (p : X → Bool) (xs : List X) (k : ℕ) (x : X) → list_all p xs ≡ true → slice_get xs k ≡ Some x → p x ≡ true
each_passes p [] k x h e = cc
each_passes p (y ∷ ys) zero x h e = let same : y ≡ x = cc in ap p (sym same) ∙ (and_parts (p y) (list_all p ys) h).0
each_passes p (y ∷ ys) (suc k) x h e = each_passes p ys k x (and_parts (p y) (list_all p ys) h).1 e
