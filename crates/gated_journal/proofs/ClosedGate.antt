-- The bytes after the first closed gate do not affect what an area reads as.
use Rattle.std.proofs.Common.{◌≡◌, ℕ, ◌+◌, List, [], ◌∷◌, ◌++◌, length, take, drop, sym, ◌∙◌, ap, append_assoc}
use Rattle.std.proofs.Common.{length-append, take-append-drop}
use Rattle.std.proofs.lemmas.List.{take_at}
use Rattle.definitions.specs.Area.{Head, opened, IsClosed, Reads}

suffix : (start rest other : List ℕ) → IsClosed rest → take (length start + 1) other ≡ take (length start + 1) (start ++ rest)
    → (tail : List ℕ) × (other ≡ start ++ tail) × IsClosed tail
suffix start [] other closed same = absurd closed
suffix start (gate ∷ rest) other closed same =
    let n = length start + 1 in
    let prefix : take n other ≡ start ++ gate ∷ [] =
    same ∙ ap (λ (l : List ℕ). take n l) (sym (append_assoc start (gate ∷ []) rest))
    ∙ take_at (start ++ gate ∷ []) rest n (length-append start (gate ∷ [])) in (
      gate ∷ drop n other,
      sym (take-append-drop n other) ∙ ap (λ (l : List ℕ). l ++ drop n other) prefix ∙ append_assoc start (gate ∷ []) (drop n other),
      closed,
    )

pub same_reading : (area other : List ℕ) (head : Head) (bodies : List (List ℕ)) → Reads area head bodies
    → take (length (opened head bodies) + 1) other ≡ take (length (opened head bodies) + 1) area → Reads other head bodies
same_reading area other head bodies reads same =
    let n = length (opened head bodies) + 1 in
    let tail = suffix (opened head bodies) reads.rest other reads.closed (same ∙ ap (λ (l : List ℕ). take n l) reads.split) in
    record { rest = tail.0; split = tail.1; closed = tail.2; fits = reads.fits }
