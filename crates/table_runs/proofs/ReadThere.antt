-- Reading a borrowed list at an index gives the element of the list itself.
use Rattle.std.specs.Prelude.{◌≡◌, ◌<◌, ℕ, List, Some, length, slice_get, get_or, refl}
use Rattle.std.proofs.Common.{ap, sym, ◌∙◌}
use Rattle.std.proofs.lemmas.Option.{slice_get_read}

pub read_there : {X : Type 0} (items seen : List X) (index at : ℕ) (x : X) → at ≡ index → seen ≡ items → at < length seen
    → x ≡ get_or seen at x
    → slice_get items index ≡ Some x
read_there items seen index at x is same within found =
    ap (λ i. slice_get items i) (sym is) ∙ ap (λ xs. slice_get xs at) (sym same) ∙ slice_get_read seen (length seen) at x refl within found
