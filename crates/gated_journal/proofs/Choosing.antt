-- Which area is active, from the gates and the generations.
use Rattle.std.proofs.Common.{◌≡◌, ℕ, ◌<◌, ◌^◌, List, [], ◌∷◌, ◌++◌, length, take, drop, refl, ◌∙◌, ap, arith}
use Rattle.std.proofs.Common.{append_assoc, Some, None, if◌then◌else◌}
use Rattle.std.proofs.lemmas.Bool.{ne_eqb, lt-ltb, le-ltb}
use Rattle.std.proofs.lemmas.List.{take_at}
use Rattle.std.specs.Int.{from_be_bytes, to_be_bytes, w64}
use Rattle.std.proofs.lemmas.Nat.{from_be_bytes-to_be_bytes_8}
use Rattle.gated_journal.specs.Choice.{open_generation, newer}
use Rattle.definitions.specs.Area.{Head, head_bytes, record_bytes, opened, IsClosed, Reads}
use Rattle.gated_journal.specs.TwoAreas.{area_on, other, active_side}
use Rattle.gated_journal.specs.declared.side.Side.{Side}
use Rattle.gated_journal.specs.declared.side.Side.TheVariants.{First, Second}
use Rattle.gated_journal.proofs.OneReading.{apart}

-- the generation of an area that reads as this head and these bodies
opened_generation : (head : Head) (bodies : List (List ℕ)) (rest : List ℕ) → head.generation < 2 ^ 64
    → open_generation (opened head bodies ++ rest) ≡ Some head.generation
opened_generation head bodies rest fits =
    let g = to_be_bytes w64 head.generation in
    let l = to_be_bytes w64 (length head.text) in
    let tail = l ++ (head.text ++ (record_bytes bodies ++ rest)) in
    let parted : (head_bytes head ++ record_bytes bodies) ++ rest ≡ head.version ∷ g ++ tail =
    append_assoc (head_bytes head) (record_bytes bodies) rest ∙ apart head (record_bytes bodies ++ rest) in
    ap (λ (suffix : List ℕ). Some (from_be_bytes w64 (take 8 (drop 1 suffix)))) parted
    ∙ ap (λ (prefix : List ℕ). Some (from_be_bytes w64 prefix)) (take_at g tail 8 refl)
    ∙ ap (λ (n : ℕ). Some n) (from_be_bytes-to_be_bytes_8 head.generation fits)

pub generation_read : (area : List ℕ) (head : Head) (bodies : List (List ℕ)) → Reads area head bodies
    → open_generation area ≡ Some head.generation
generation_read area head bodies reads =
    ap (λ (l : List ℕ). open_generation l) reads.split ∙ opened_generation head bodies reads.rest reads.fits.generation

pub closed_none : (area : List ℕ) → IsClosed area → open_generation area ≡ None
closed_none [] closed = absurd closed
closed_none (gate ∷ suffix) closed =
    ap (λ b. if b then Some (from_be_bytes w64 (take 8 (drop 1 suffix))) else None) (ne_eqb gate 0xA5 closed)

module _ (len : ℕ) where
  -- the only area with an open gate
  pub alone : (side : Side) (disk : List ℕ) (n : ℕ) → open_generation (area_on len side disk) ≡ Some n
      → open_generation (area_on len (other side) disk) ≡ None → active_side len disk ≡ Some side
  alone First disk n one none = ap (λ f. newer f (open_generation (area_on len Second disk))) one ∙ ap (λ f. newer (Some n) f) none
  alone Second disk n one none = ap (λ f. newer f (open_generation (area_on len Second disk))) none ∙ ap (λ f. newer None f) one

  -- the generations alone decide which area is active
  pub same_active_side : (side : Side) (old new : List ℕ)
      → open_generation (area_on len side new) ≡ open_generation (area_on len side old)
      → open_generation (area_on len (other side) new) ≡ open_generation (area_on len (other side) old)
      → active_side len new ≡ active_side len old
  same_active_side First old new one two =
      ap (λ f. newer f (open_generation (area_on len Second new))) one ∙ ap (λ f. newer (open_generation (area_on len First old)) f) two
  same_active_side Second old new one two =
      ap (λ f. newer f (open_generation (area_on len Second new))) two ∙ ap (λ f. newer (open_generation (area_on len First old)) f) one

  -- the area with the greater generation
  pub greater : (side : Side) (disk : List ℕ) (m n : ℕ) → open_generation (area_on len side disk) ≡ Some m
      → open_generation (area_on len (other side) disk) ≡ Some n → m < n → active_side len disk ≡ Some (other side)
  greater First disk m n one two less =
      ap (λ f. newer f (open_generation (area_on len Second disk))) one ∙ ap (λ f. newer (Some m) f) two
      ∙ ap (λ b. if b then Some Second else Some First) (lt-ltb m n less)
  greater Second disk m n one two less =
      ap (λ f. newer f (open_generation (area_on len Second disk))) two ∙ ap (λ f. newer (Some n) f) one
      ∙ ap (λ b. if b then Some Second else Some First) (le-ltb n m (omega (arith, less)))
