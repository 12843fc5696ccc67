-- A write of a disk, as seen from one of its areas.
use Rattle.std.proofs.Common.{◌≡◌, ◌⊎◌, inl, inr, ℕ, ◌+◌, ◌-◌, ◌≤◌, min, List, length, take, drop, sym, ◌∙◌, ap, subst, arith}
use Rattle.std.proofs.lemmas.List.{take-take, drop-take, drop-drop, length-take, length-drop}
use Rattle.definitions.specs.Disk.{Torn, Holds}
use Rattle.act_disk.proofs.Kept.{rest_kept, range_kept}
use Rattle.gated_journal.specs.Appends.{Appends, IsWhole}
use Rattle.gated_journal.specs.Choice.{part}

module _ (start len : ℕ) where
  pub length-part : (disk : List ℕ) → start + len ≤ length disk → length (part start len disk) ≡ len
  length-part disk within = omega (arith, length-take len (drop start disk), length-drop start disk, within)

  -- the end of an area
  drop-part : (from : ℕ) (disk : List ℕ) → from ≤ len → drop from (part start len disk) ≡ take (len - from) (drop (start + from) disk)
  drop-part from disk below =
      let reach : len ≡ from + (len - from) = omega (arith, below) in
      ap (λ (k : ℕ). drop from (take k (drop start disk))) reach ∙ drop-take from (len - from) (drop start disk)
      ∙ ap (λ (l : List ℕ). take (len - from) l) (drop-drop from start disk)

  module _ (d c : List ℕ) (within : start + len ≤ length d) where
    -- a write outside the area
    pub part_kept : (at n : ℕ) → Torn at n d c → (start + len ≤ at) ⊎ (at + n ≤ start) → part start len c ≡ part start len d
    part_kept at n torn beside = range_kept at n d c torn start len within beside

    -- a write inside the area
    pub part_torn : (at n : ℕ) → at + n ≤ len → Torn (start + at) n d c → Torn at n (part start len d) (part start len c)
    part_torn at n inside torn =
        let long_d = length-part d within in
        let long_c = length-part c (omega (arith, within, torn.no_shorter)) in
        let m = min at (length (part start len d)) in
        let below : m ≤ len = omega (arith, inside) in
        record {
          no_shorter = omega (arith, long_d, long_c);
          no_longer = omega (arith, long_d, long_c);
          before = take-take m len (drop start c) below
              ∙ range_kept (start + at) n d c torn start m (omega (arith, within, below)) (inl (omega (arith, inside)))
              ∙ sym (take-take m len (drop start d) below);
          after = drop-part (at + n) c inside
              ∙ ap (λ (l : List ℕ). take (len - (at + n)) l) (rest_kept (start + at) n d c torn (start + (at + n)) (omega arith))
              ∙ sym (drop-part (at + n) d inside);
        }

    pub part_held : (at : ℕ) (bytes : List ℕ) → at + length bytes ≤ len → Holds c (start + at) bytes → Holds (part start len c) at bytes
    part_held at bytes inside held =
        ap (λ (l : List ℕ). take (length bytes) l) (drop-part at c (omega (arith, inside)))
        ∙ take-take (length bytes) (len - at) (drop (start + at) c) (omega (arith, inside)) ∙ held

    pub part_whole : (gate : ℕ) (bytes : List ℕ) → gate + (length bytes + 1) ≤ len → IsWhole (start + gate) bytes d c
        → IsWhole gate bytes (part start len d) (part start len c)
    part_whole gate bytes inside whole =
        let place : (start + gate) + 1 ≡ start + (gate + 1) = omega arith in
        record {
          torn = part_torn gate (length bytes + 1) inside whole.torn;
          held = part_held (gate + 1) bytes (omega (arith, inside)) (ap (λ (k : ℕ). take (length bytes) (drop k c)) (sym place)
              ∙ whole.held);
        }

    pub part_appends : (gate : ℕ) (bytes : List ℕ) → gate + (length bytes + 1) ≤ len → Appends (start + gate) bytes d c
        → Appends gate bytes (part start len d) (part start len c)
    part_appends gate bytes inside (inl torn) =
        let place : (start + gate) + 1 ≡ start + (gate + 1) = omega arith in
        inl (part_torn (gate + 1) (length bytes) (omega (arith, inside)) (subst (λ (k : ℕ). Torn k (length bytes) d c) place torn))
    part_appends gate bytes inside (inr whole) = inr (part_whole gate bytes inside whole)
