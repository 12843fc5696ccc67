-- Bytes written into a file that was first extended with zeros.
use Rattle.std.proofs.Common.{◌≡◌, ℕ, zero, suc, ◌+◌, ◌-◌, ◌≤◌, List, [], ◌∷◌, ◌++◌, length, take, drop, replicate, refl, sym, ◌∙◌, ap}
use Rattle.std.proofs.Common.{arith}
use Rattle.std.proofs.lemmas.List.{append-nil, length-replicate, drop_all, take_at, take-replicate}
use Rattle.act_disk.specs.Laid.{laid}

-- the file, extended with zeros to a length
abbrev pub grown : List ℕ → ℕ → List ℕ
grown file len = file ++ replicate (len - length file) 0

-- the prefix does not depend on how many zeros follow it
prefix_same : (file : List ℕ) (at z w : ℕ) → at ≤ length file + z → at ≤ length file + w
    → take at (file ++ replicate z 0) ≡ take at (file ++ replicate w 0)
prefix_same [] at z w le le' = take-replicate at z 0 (omega arith) ∙ sym (take-replicate at w 0 (omega arith))
prefix_same (x ∷ file) zero z w le le' = refl
prefix_same (x ∷ file) (suc at) z w le le' = ap (λ (l : List ℕ). x ∷ l) (prefix_same file at z w (omega arith) (omega arith))

rest_same : (file : List ℕ) (len : ℕ) → drop len (grown file len) ≡ drop len file
rest_same [] len =
    drop_all len (replicate (len - 0) 0) (omega (arith, length-replicate {A = ℕ} (len - 0) 0)) ∙ sym (drop_all len [] (omega arith))
rest_same (x ∷ file) zero =
    let none : 0 - length (x ∷ file) ≡ 0 = omega arith in
    ap (λ (k : ℕ). (x ∷ file) ++ replicate k 0) none ∙ append-nil (x ∷ file)
rest_same (x ∷ file) (suc len) =
    let less : suc len - length (x ∷ file) ≡ len - length file = omega arith in
    ap (λ (k : ℕ). drop len (file ++ replicate k 0)) less ∙ rest_same file len

-- Writing the bytes into the file extended to their end gives the same as writing them into the file.
laid_in : (at : ℕ) (bytes file : List ℕ)
    → take at (grown file (at + length bytes)) ++ bytes ++ drop (at + length bytes) (grown file (at + length bytes)) ≡ laid at bytes file
laid_in at bytes file =
    let len = at + length bytes in
    ap (λ (l : List ℕ). l ++ bytes ++ drop len (grown file len)) (prefix_same file at (len - length file) at (omega arith) (omega arith))
    ∙ ap (λ (l : List ℕ). take at (file ++ replicate at 0) ++ bytes ++ l) (rest_same file len)

-- what a `Vec` of n items holds once the slice of its items is `new`
pub laid_vec : (at n : ℕ) (bytes file old new rest : List ℕ) → old ≡ grown file (at + length bytes)
    → new ≡ take at old ++ bytes ++ drop (at + length bytes) old → n ≡ length new → take n (new ++ rest) ≡ laid at bytes file
laid_vec at n bytes file old new rest was is len =
    take_at new rest n (sym len) ∙ is ∙ ap (λ (l : List ℕ). take at l ++ bytes ++ drop (at + length bytes) l) was ∙ laid_in at bytes file
