-- The effect of an append on what an area of a disk reads as.
use Rattle.std.proofs.Common.{inl, inr, ⊎_elim, ℕ, ◌+◌, ◌≤◌, List, [], ◌∷◌, ◌++◌, length, sym, subst, arith}
use Rattle.definitions.specs.Disk.{Holds, From}
use Rattle.gated_journal.specs.Appends.{record_of, Appends, IsWhole}
use Rattle.gated_journal.specs.Choice.{part}
use Rattle.definitions.specs.Area.{Head, opened}
use Rattle.gated_journal.specs.OnDisk.{ReadsAt, MayHaveGrown, Awaits}
use Rattle.gated_journal.proofs.Frames.{part_appends, part_whole, part_held}
use Rattle.gated_journal.proofs.Grown.{appends_reads, opened_reads}

no_shorter : (gate : ℕ) (bytes d c : List ℕ) → Appends gate bytes d c → length d ≤ length c
no_shorter gate bytes d c (inl torn) = torn.no_shorter
no_shorter gate bytes d c (inr whole) = whole.torn.no_shorter

module _ (start len at : ℕ) (bytes : List ℕ) (images : List ℕ → Type 0) (head : Head) (bodies : List (List ℕ)) (body : List ℕ)
    (inside : at + (length bytes + 1) ≤ len) (awaits : Awaits start len at bytes images head bodies body) where
  abbrev used : ℕ
  used = length (opened head bodies)

  pub may_have_grown : (c : List ℕ) → From (Appends (start + at) bytes) images c → MayHaveGrown start len head bodies body c
  may_have_grown c from =
      let d = from.0 in
      let here = awaits.each d from.1 in
      let in_part : Appends at bytes (part start len d) (part start len c) =
      part_appends start len d c here.within at bytes inside from.2 in
      let suffix : Appends used (record_of body) (part start len d) (part start len c) =
      subst (λ (l : List ℕ). Appends used l (part start len d) (part start len c)) awaits.framed
      (subst (λ (k : ℕ). Appends k bytes (part start len d) (part start len c)) (sym awaits.gate) in_part) in
      let within : start + len ≤ length c = omega (arith, here.within, no_shorter (start + at) bytes d c from.2) in
      ⊎_elim (λ same. inl (record { within = within; reads = same })) (λ more. inr (record { within = within; reads = more }))
      (appends_reads head bodies (part start len d) (part start len c) here.reads body awaits.short suffix)

  pub has_grown : (d c : List ℕ) → images d → IsWhole (start + at) bytes d c → Holds c (start + at) (0xA5 ∷ [])
      → ReadsAt start len c head (bodies ++ body ∷ [])
  has_grown d c image whole open_there =
      let here = awaits.each d image in
      let in_part : IsWhole at bytes (part start len d) (part start len c) = part_whole start len d c here.within at bytes inside whole in
      let suffix : IsWhole used (record_of body) (part start len d) (part start len c) =
      subst (λ (l : List ℕ). IsWhole used l (part start len d) (part start len c)) awaits.framed
      (subst (λ (k : ℕ). IsWhole k bytes (part start len d) (part start len c)) (sym awaits.gate) in_part) in
      let held : Holds (part start len c) at (0xA5 ∷ []) =
      part_held start len d c here.within at (0xA5 ∷ []) (omega (arith, inside)) open_there in
      record {
        within = omega (arith, here.within, whole.torn.no_shorter);
        reads = opened_reads head bodies (part start len d) (part start len c) here.reads body awaits.short suffix
            (subst (λ (k : ℕ). Holds (part start len c) k (0xA5 ∷ [])) (sym awaits.gate) held);
      }
