-- Which area is active, from the first bytes of each.
use Rattle.std.proofs.Common.{◌≡◌, inl, inr, ℕ, suc, ◌+◌, ◌-◌, ◌<◌, ◌≤◌, List, [], ◌∷◌, length, take, drop, sym, ◌∙◌, ap, subst, arith}
use Rattle.std.proofs.Common.{Option, Some, None, if◌then◌else◌, eqb}
use Rattle.std.proofs.lemmas.Bool.{cases_eq, eq-eqb, ne_eqb}
use Rattle.std.proofs.lemmas.List.{take_all, take-take, drop-take}
use Rattle.std.specs.Int.{from_be_bytes, w64}
use Rattle.gated_journal.specs.Choice.{newer, open_generation, part}
use Rattle.gated_journal.specs.Lengths.{prefix_length}
use Rattle.gated_journal.specs.TwoAreas.{start_of, other, area_on, IsGate}
use Rattle.gated_journal.specs.Whole.{IsChosen, IsChosenFrom, gate_of, beside}
use Rattle.gated_journal.specs.declared.chosen.Chosen.{Chosen}
use Rattle.gated_journal.specs.declared.side.Side.{Side}
use Rattle.gated_journal.specs.declared.side.Side.TheVariants.{First, Second}
use Rattle.gated_journal.proofs.Frames.{length-part}
use Rattle.gated_journal.proofs.TwoAreas.{within}

-- the generation lies within the first bytes
prefix_generation : (n : ℕ) (area : List ℕ) → prefix_length ≤ n → open_generation (take n area) ≡ open_generation area
prefix_generation n [] long = ap (λ (l : List ℕ). open_generation l) (take_all n [] (omega arith))
prefix_generation n (gate ∷ suffix) long =
    let k = n - 2 in
    let first : n ≡ suc (1 + k) = omega (arith, long) in
    let eight : take 8 (drop 1 (take (1 + k) suffix)) ≡ take 8 (drop 1 suffix) =
    ap (λ (l : List ℕ). take 8 l) (drop-take 1 k suffix) ∙ take-take 8 k (drop 1 suffix) (omega (arith, long)) in
    ap (λ (m : ℕ). open_generation (take m (gate ∷ suffix))) first
    ∙ ap (λ (l : List ℕ). if eqb gate 0xA5 then Some (from_be_bytes w64 l) else None) eight

pub same_generation : (start len : ℕ) (disk : List ℕ) → prefix_length ≤ len
    → open_generation (part start prefix_length disk) ≡ open_generation (part start len disk)
same_generation start len disk long =
    prefix_generation prefix_length (drop start disk) (omega arith) ∙ sym (prefix_generation len (drop start disk) long)

-- an area has a generation exactly if its gate is open
gate_told : (area : List ℕ) → 0 < length area → IsGate (gate_of (open_generation area)) area
gate_told [] some = absurd (omega (arith, some))
gate_told (gate ∷ suffix) some =
    let number = from_be_bytes w64 (take 8 (drop 1 suffix)) in
    let told = λ (b : _). gate_of (if b then Some number else None) in
    elim (cases_eq gate 0xA5) [
      | inl is ↦ subst (λ b. IsGate (told b) (gate ∷ suffix)) (sym (eq-eqb gate 0xA5 is)) is
      | inr isnt ↦ subst (λ b. IsGate (told b) (gate ∷ suffix)) (sym (ne_eqb gate 0xA5 isnt)) isnt
    ]

module _ (len : ℕ) (disk : List ℕ) (some : 0 < len) (long : len + len ≤ length disk) where
  beside_told : (side : Side) → beside (open_generation (area_on len First disk)) (open_generation (area_on len Second disk)) side
      ≡ open_generation (area_on len (other side) disk)
  beside_told First = λ _. open_generation (area_on len Second disk)
  beside_told Second = λ _. open_generation (area_on len First disk)

  pub chosen_told : (first second : Option ℕ) (found : Option Chosen) → first ≡ open_generation (area_on len First disk)
      → second ≡ open_generation (area_on len Second disk) → IsChosenFrom first second found → IsChosen len found disk
  chosen_told first second None one two between =
      sym (ap (λ f. newer f second) one ∙ ap (λ s. newer (open_generation (area_on len First disk)) s) two) ∙ between
  chosen_told first second (Some chosen) one two between =
      let there = area_on len (other chosen.side) disk in
      let gate : chosen.other ≡ gate_of (open_generation there) =
      between.1 ∙ ap (λ f. gate_of (beside f second chosen.side)) one
      ∙ ap (λ s. gate_of (beside (open_generation (area_on len First disk)) s chosen.side)) two ∙ ap gate_of (beside_told chosen.side) in (
        sym (ap (λ f. newer f second) one ∙ ap (λ s. newer (open_generation (area_on len First disk)) s) two) ∙ between.0,
        subst (λ w. IsGate w there) (sym gate) (gate_told there
            (omega (arith, some, length-part (start_of len (other chosen.side)) len disk (within len (other chosen.side) disk long)))),
      )
