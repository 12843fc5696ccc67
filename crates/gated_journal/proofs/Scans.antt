-- A scan returns exactly what the area encodes.
use Rattle.std.proofs.Common.{◌≡◌, ℕ, List, ◌∷◌, ◌++◌, refl, sym, ◌∙◌, ap, subst, append_assoc}
use Rattle.definitions.specs.Area.{Head, head_bytes, record_bytes, IsClosed, Reads, ReadsNothing}
use Rattle.gated_journal.specs.Scanned.{Parts, HasHead, HasPrefix}
use Rattle.gated_journal.proofs.Heads.{one_head}

-- an area that reads as this head and these bodies begins with that head
prefix_of_reading : (area : List ℕ) (head : Head) (bodies : List (List ℕ)) (reads : Reads area head bodies)
    → HasPrefix area head (record_bytes bodies ++ reads.rest)
prefix_of_reading area head bodies reads = record {
  suffix = head_bytes head ++ (record_bytes bodies ++ reads.rest);
  split = reads.split ∙ ap (λ (l : List ℕ). 0xA5 ∷ l) (append_assoc (head_bytes head) (record_bytes bodies) reads.rest);
  headed = record { split = refl; generation = reads.fits.generation; text = reads.fits.text };
}

pub nothing_without_prefix : (area : List ℕ) → ((head : Head) (rest : List ℕ) → HasPrefix area head rest → ⊥) → ReadsNothing area
nothing_without_prefix area none head bodies reads =
    none head (record_bytes bodies ++ reads.rest) (prefix_of_reading area head bodies reads)

-- an area has at most one header
one_prefix : (area : List ℕ) (one two : Head) (x y : List ℕ) → HasPrefix area one x → HasPrefix area two y → (one ≡ two) × (x ≡ y)
one_prefix area one two x y first second =
    let same : first.suffix ≡ second.suffix = cc (sym first.split ∙ second.split) in
    one_head second.suffix one two x y (subst (λ (l : List ℕ). HasHead l one x) same first.headed) second.headed

pub nothing_without_end : (area : List ℕ) (head : Head) (rest : List ℕ) → HasPrefix area head rest
    → ((bodies : List (List ℕ)) (end : List ℕ) → Parts rest bodies end → IsClosed end → ⊥) → ReadsNothing area
nothing_without_end area head rest prefix none other bodies reads =
    let same = one_prefix area head other rest (record_bytes bodies ++ reads.rest) prefix (prefix_of_reading area other bodies reads) in
    none bodies reads.rest (record { split = same.1; short = reads.fits.each }) reads.closed
