-- A question that is put to each element of a list with its place, and has no answer at any.
use Rattle.std.specs.Prelude.{◌≡◌, ℕ, zero, suc, ◌+◌, List, [], ◌∷◌, Option, Some, None, option_and_then, slice_get, refl}
use Rattle.std.specs.List.{enumerate_from}
use Rattle.std.proofs.Common.{arith, ap, sym, ◌∙◌}
use Rattle.table_model.specs.Runs.{first_some, placed}
use Rattle.table_model.proofs.OneAfterAnother.{OfEach}
use Rattle.wf_value.proofs.OptionOr.{or_nothing}

each_none_from : {X Y : Type 0} (f : ℕ → X → Option Y) (xs : List X) (n : ℕ) → first_some (λ e. f e.0 e.1) (enumerate_from n xs) ≡ None
    → (k : ℕ) (x : X) → slice_get xs k ≡ Some x → f (n + k) x ≡ None
each_none_from f [] n e k x at = cc
each_none_from f (y ∷ ys) n e zero x at =
    let same : y ≡ x = cc in
    let here : n + 0 ≡ n = omega arith in
    ap (λ m. f m x) here ∙ ap (f n) (sym same) ∙ (or_nothing (f n y) (first_some (λ e. f e.0 e.1) (enumerate_from (n + 1) ys)) e).0
each_none_from f (y ∷ ys) n e (suc k) x at =
    let there : n + suc k ≡ (n + 1) + k = omega arith in
    ap (λ m. f m x) there
    ∙ each_none_from f ys (n + 1) (or_nothing (f n y) (first_some (λ e. f e.0 e.1) (enumerate_from (n + 1) ys)) e).1 k x at

-- the question has no answer at any element
abbrev pub NoneAt : {X Y : Type 0} → (ℕ → X → Option Y) → ℕ → X → Type 0
NoneAt f k x = f k x ≡ None

pub each_none : {X Y : Type 0} (f : ℕ → X → Option Y) (xs : List X) → first_some (λ e. f e.0 e.1) (placed xs) ≡ None → OfEach (NoneAt f) xs
each_none f xs e k x at =
    let here : k ≡ 0 + k = omega arith in ap (λ m. f m x) here ∙ each_none_from f xs 0 e k x at

pub requested_none : {X Y : Type 0} (f : ℕ → X → Option Y) (xs : List X) → OfEach (NoneAt f) xs → (k : ℕ) (o : Option X) → slice_get xs k ≡ o
    → option_and_then (f k) o ≡ None
requested_none f xs each k None at = refl
requested_none f xs each k (Some x) at = each k x at
