-- The entries of a seat in a history with one more entry.
use Rattle.std.proofs.Common.{◌≡◌, ℕ, ◌+◌, ◌==◌, List, [], ◌∷◌, ◌++◌, take, Some, slice_get, ap, ◌∙◌}
use Rattle.std.proofs.lemmas.List.{take_more}
use Rattle.std.proofs.lemmas.List.Elements.{filter-append}
use Rattle.std.proofs.lemmas.Option.{get_or_from_slice_get, slice_get_within}
use Rattle.act_store.specs.declared.entry.Entry.{Entry}
use Rattle.act_desk.specs.Settled.{part_of}

take_get : (xs : List Entry) (i : ℕ) (x : Entry) → slice_get xs i ≡ Some x → take (i + 1) xs ≡ take i xs ++ x ∷ []
take_get xs i x at =
    take_more xs i x (slice_get_within xs i x at) ∙ ap (λ (y : Entry). take i xs ++ y ∷ []) (get_or_from_slice_get xs i x x at)

pub part_more : (seat : ℕ) (history : List Entry) (i : ℕ) (e : Entry) → slice_get history i ≡ Some e
    → part_of seat (take (i + 1) history) ≡ part_of seat (take i history) ++ part_of seat (e ∷ [])
part_more seat history i e at = ap (part_of seat) (take_get history i e at) ∙ filter-append (λ (x : Entry). x.seat == seat) (take i history) (e ∷ [])
