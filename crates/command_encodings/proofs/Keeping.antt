-- Bytes that are still a prefix after a write that failed.
use Rattle.std.proofs.Common.{append_assoc, ◌≡◌, ◌++◌, ◌∙◌, ℕ, List, ap, drop, length, sym, take}
use Rattle.std.proofs.Math.Seq.{take-length, take-append_seam}
use Rattle.std.proofs.lemmas.List.{take-append-drop}
use Rattle.command_encodings.specs.inner.Writing.{Keeps}

-- nothing was appended
pub unchanged : (before after : List ℕ) → after ≡ before → Keeps before after
unchanged before after same = ap (take (length before)) same ∙ take-length before

-- a part was appended, and then more, but not all
pub longer : (before more middle after : List ℕ) → middle ≡ before ++ more → Keeps middle after → Keeps before after
longer before more middle after grown kept =
    let rest = drop (length middle) after in
    let stands : before ++ (more ++ rest) ≡ after =
    sym (append_assoc before more rest) ∙ ap (λ (prefix : List ℕ). prefix ++ rest) (sym grown ∙ sym kept)
    ∙ take-append-drop (length middle) after in
    ap (take (length before)) (sym stands) ∙ take-append_seam before (more ++ rest)
