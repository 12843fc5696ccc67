-- The next attempt of a run, which replaces it.
use Rattle.std.specs.Prelude.{◌≡◌, ℕ, zero, suc, ◌<◌, List, [], ◌∷◌, length, Some, None, option_map, slice_get, slice_set, refl}
use Rattle.std.proofs.Common.{ap, sym, get_or}
use Rattle.std.proofs.lemmas.Option.{same_Some, slice_get_within}
use Rattle.table_model.specs.Runs.{changed_at, again, with_run, RunState}
use Rattle.table_model.proofs.Doors.{changed_within}
use Rattle.table_model.proofs.Optional.{from_map}

pub record NextOf (runs : List RunState) (r : ℕ) (next : RunState) : Type 0 where
  pub was : RunState
  pub there : slice_get runs r ≡ Some was
  pub is : next ≡ again was
  pub within : r < length runs
  pub read : was ≡ get_or runs r was

read_there : (xs : List RunState) (r : ℕ) (x : RunState) → slice_get xs r ≡ Some x → x ≡ get_or xs r x
read_there [] r x e = cc
read_there (y ∷ xs) zero x e = sym (same_Some y x e)
read_there (y ∷ xs) (suc r) x e = read_there xs r x e

pub next_of : (runs : List RunState) (r : ℕ) (next : RunState) → Some next ≡ option_map again (slice_get runs r) → NextOf runs r next
next_of runs r next e =
    let from = from_map again (slice_get runs r) next (sym e) in
    record {
      was = from.value;
      there = from.is;
      is = sym from.gives;
      within = slice_get_within runs r from.value from.is;
      read = read_there runs r from.value from.is;
    }

pub put : (runs : List RunState) (r : ℕ) (next : RunState) → NextOf runs r next → slice_set runs r next ≡ with_run r again runs
put runs r next from = changed_within again runs r from.was next from.within from.read from.is

pub not_there : {X : Type 0} (f : X → X) (xs : List X) (r : ℕ) → None ≡ option_map f (slice_get xs r) → changed_at r f xs ≡ xs
not_there f [] r e = refl
not_there f (x ∷ xs) zero e = let no : None ≡ Some (f x) = e in cc
not_there f (x ∷ xs) (suc r) e = ap (λ ys. x ∷ ys) (not_there f xs r e)
