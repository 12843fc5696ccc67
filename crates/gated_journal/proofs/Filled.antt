-- What follows an area's gate once all of it is written.
use Rattle.std.proofs.Common.{◌≡◌, inl, ℕ, ◌+◌, ◌≤◌, List, [], ◌∷◌, ◌++◌, length, take, drop, sym, ◌∙◌, ap, subst, arith, append_assoc}
use Rattle.std.proofs.Common.{take-append-drop, take-add, drop-drop, length-append}
use Rattle.definitions.specs.Disk.{Holds, IsWritten}
use Rattle.act_disk.proofs.Kept.{range_kept}
use Rattle.definitions.specs.Area.{Head, head_bytes, record_bytes, Fits, WouldRead}
use Rattle.gated_journal.specs.TwoAreas.{start_of, other, area_on, after_gate, Completes}
use Rattle.gated_journal.specs.declared.side.Side.{Side}
use Rattle.gated_journal.proofs.Frames.{part_held, length-part}
use Rattle.gated_journal.proofs.TwoAreas.{within}

-- two adjacent texts are one text
holds_both : (file : List ℕ) (at : ℕ) (x y : List ℕ) → Holds file at x → Holds file (at + length x) y → Holds file at (x ++ y)
holds_both file at x y first second =
    ap (λ (n : ℕ). take n (drop at file)) (length-append x y) ∙ take-add (length x) (length y) (drop at file)
    ∙ ap (λ (l : List ℕ). l ++ take (length y) (drop (length x) (drop at file))) first
    ∙ ap (λ (l : List ℕ). x ++ l) (ap (λ (l : List ℕ). take (length y) l) (drop-drop (length x) at file) ∙ second)

-- one more text, written after those already there
pub holds_more : (start at : ℕ) (prefix bytes old new : List ℕ) → at ≡ 1 + length prefix → start + at ≤ length old
    → Holds old (start + 1) prefix → IsWritten (start + at) bytes old new → Holds new (start + 1) (prefix ++ bytes)
holds_more start at prefix bytes old new place long held written =
    let next : start + at ≡ (start + 1) + length prefix = omega (arith, place) in
    holds_both new (start + 1) prefix bytes
    (range_kept (start + at) (length bytes) old new written.torn (start + 1) (length prefix) (omega (arith, next, long))
    (inl (omega (arith, next))) ∙ held)
    (subst (λ (k : ℕ). Holds new k bytes) next written.held)

parted : (suffix rest : List ℕ) (head : Head) (bodies : List (List ℕ)) → suffix ≡ after_gate head bodies ++ rest
    → 0xA5 ∷ suffix ≡ (0xA5 ∷ head_bytes head ++ record_bytes bodies) ++ 0 ∷ rest
parted suffix rest head bodies is =
    ap (λ (l : List ℕ). 0xA5 ∷ l) (is ∙ append_assoc (head_bytes head ++ record_bytes bodies) (0 ∷ []) rest)

pub would_of : (area text : List ℕ) (head : Head) (bodies : List (List ℕ)) → 1 ≤ length area → Holds area 1 text
    → text ≡ after_gate head bodies → Fits head bodies → WouldRead area head bodies
would_of [] text head bodies some held is fits = absurd (omega (arith, some))
would_of (gate ∷ suffix) text head bodies some held is fits =
    let rest = drop (length text) suffix in
    record {
      rest = 0 ∷ rest;
      split = parted suffix rest head bodies (sym (take-append-drop (length text) suffix) ∙ ap (λ (l : List ℕ). l ++ rest) (held ∙ is));
      closed = omega arith;
      fits = fits;
    }

module _ (len : ℕ) (side : Side) (old mid : List ℕ) (at : ℕ) (bytes : List ℕ) (head next : Head) (others : List (List ℕ)) where
  pub completed : len + len ≤ length old → at + length bytes ≤ len → Completes len side old at bytes head next others
      → IsWritten (start_of len (other side) + at) bytes old mid → WouldRead (area_on len (other side) mid) next others
  completed long inside completes written =
      let start = start_of len (other side) in
      let prefix = completes.prefix in
      let lies = within len (other side) old long in
      let lies_on = within len (other side) mid (omega (arith, long, written.torn.no_shorter)) in
      let all = length-append prefix bytes in
      let held = part_held start len old mid lies 1 (prefix ++ bytes) (omega (arith, all, inside, completes.place))
      (holds_more start at prefix bytes old mid completes.place (omega (arith, lies, inside)) completes.held written) in
      would_of (area_on len (other side) mid) (prefix ++ bytes) next others
      (omega (arith, inside, completes.place, length-part start len mid lies_on)) held completes.whole completes.fits
