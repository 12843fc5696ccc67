-- What a write leaves unchanged, and what it makes of a file.
use Rattle.std.proofs.Common.{◌≡◌, ◌⊎◌, inl, inr, ℕ, ◌+◌, ◌-◌, ◌≤◌, min, List, ◌++◌, length, take, drop, sym, ◌∙◌, ap, arith}
use Rattle.std.proofs.lemmas.List.{take-take, drop-take, drop-drop, take-append-drop}
use Rattle.definitions.specs.Disk.{Torn, IsWritten}

-- the same bytes in this range
abbrev pub SameRange : ℕ → ℕ → List ℕ → List ℕ → Type 0
SameRange from count old new = take count (drop from new) ≡ take count (drop from old)

module _ (at n : ℕ) (old new : List ℕ) (torn : Torn at n old new) where
  -- the bytes before the write, up to the old end
  pub prefix_kept : (count : ℕ) → count ≤ length old → count ≤ at → take count new ≡ take count old
  prefix_kept count within below =
      let m = min at (length old) in
      sym (take-take count m new (omega arith)) ∙ ap (λ (l : List ℕ). take count l) torn.before ∙ take-take count m old (omega arith)

  -- the bytes after the write
  pub rest_kept : (from : ℕ) → at + n ≤ from → drop from new ≡ drop from old
  rest_kept from above =
      let more = from - (at + n) in
      let reach : from ≡ (at + n) + more = omega arith in
      ap (λ (k : ℕ). drop k new) reach ∙ sym (drop-drop more (at + n) new) ∙ ap (λ (l : List ℕ). drop more l) torn.after
      ∙ drop-drop more (at + n) old
      ∙ ap (λ (k : ℕ). drop k old) (sym reach)

  -- a range within the old file that the write does not overlap
  pub range_kept : (from count : ℕ) → from + count ≤ length old → (from + count ≤ at) ⊎ (at + n ≤ from) → SameRange from count old new
  range_kept from count within (inl below) =
      sym (drop-take from count new) ∙ ap (λ (l : List ℕ). drop from l) (prefix_kept (from + count) within below) ∙ drop-take from count old
  range_kept from count within (inr above) = ap (λ (l : List ℕ). take count l) (rest_kept from above)

-- a completed write that begins within the file, as one equation
pub written_is : (at : ℕ) (bytes old new : List ℕ) → at ≤ length old → IsWritten at bytes old new
    → new ≡ take at old ++ (bytes ++ drop (at + length bytes) old)
written_is at bytes old new within written =
    let n = length bytes in
    sym (take-append-drop at new)
    ∙ ap (λ (l : List ℕ). l ++ drop at new) (prefix_kept at n old new written.torn at within (omega arith))
    ∙ ap (λ (l : List ℕ). take at old ++ l) (
    sym (take-append-drop n (drop at new)) ∙ ap (λ (l : List ℕ). l ++ drop n (drop at new)) written.held
    ∙ ap (λ (l : List ℕ). bytes ++ l) (drop-drop n at new ∙ written.torn.after))
