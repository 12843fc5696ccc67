-- A file with bytes written into it, and the proof that this is a write of them.
use Rattle.std.specs.Prelude.{◌≡◌, ℕ, ◌+◌, ◌-◌, ◌≤◌, min, max, List, ◌++◌, length, take, drop, replicate}
use Rattle.std.proofs.Common.{refl, sym, ◌∙◌, ap, arith, append_assoc}
use Rattle.std.proofs.lemmas.List.{length-append, length-take-le, length-drop, length-replicate, take-append-le, take-take, take_at}
use Rattle.std.proofs.lemmas.List.{drop_at, drop-drop}
use Rattle.act_disk.specs.Laid.{laid}
use Rattle.definitions.specs.Disk.{Torn, Holds, IsWritten}

-- a write may leave the old bytes
pub torn_refl : (at n : ℕ) (file : List ℕ) → Torn at n file file
torn_refl at n file = record { no_shorter = omega arith; no_longer = omega arith; before = refl; after = refl }

module _ (at : ℕ) (bytes file : List ℕ) where
  abbrev prefix : List ℕ
  prefix = take at (file ++ replicate at 0)

  abbrev rest : List ℕ
  rest = drop (at + length bytes) file

  length-prefix : length prefix ≡ at
  length-prefix =
      length-take-le at (file ++ replicate at 0) (omega (arith, length-append file (replicate at 0), length-replicate {A = ℕ} at 0))

  length-written : length (prefix ++ bytes) ≡ at + length bytes
  length-written = omega (arith, length-append prefix bytes, length-prefix)

  split : laid at bytes file ≡ prefix ++ (bytes ++ rest)
  split = append_assoc prefix bytes rest

  pub length-laid : length (laid at bytes file) ≡ max (length file) (at + length bytes)
  length-laid = omega (arith, length-append (prefix ++ bytes) rest, length-written, length-drop (at + length bytes) file)

  pub laid_holds : Holds (laid at bytes file) at bytes
  laid_holds =
      ap (λ (l : List ℕ). take (length bytes) (drop at l)) split
      ∙ ap (λ (l : List ℕ). take (length bytes) l) (drop_at prefix (bytes ++ rest) at length-prefix)
      ∙ take_at bytes rest (length bytes) refl

  laid_before : take (min at (length file)) (laid at bytes file) ≡ take (min at (length file)) file
  laid_before =
      let m = min at (length file) in
      ap (λ (l : List ℕ). take m l) split
      ∙ take-append-le m prefix (bytes ++ rest) (omega (arith, length-prefix))
      ∙ take-take m at (file ++ replicate at 0) (omega arith)
      ∙ take-append-le m file (replicate at 0) (omega arith)

  laid_after : (n : ℕ) → length bytes ≤ n → drop (at + n) (laid at bytes file) ≡ drop (at + n) file
  laid_after n le =
      let more = n - length bytes in
      let reach : at + n ≡ (at + length bytes) + more = omega arith in
      ap (λ (k : ℕ). drop k (laid at bytes file)) reach
      ∙ sym (drop-drop more (at + length bytes) (laid at bytes file))
      ∙ ap (λ (l : List ℕ). drop more l) (drop_at (prefix ++ bytes) rest (at + length bytes) length-written)
      ∙ drop-drop more (at + length bytes) file
      ∙ ap (λ (k : ℕ). drop k file) (sym reach)

  -- bytes written within a range are a write of that range
  pub torn_laid : (n : ℕ) → length bytes ≤ n → Torn at n file (laid at bytes file)
  torn_laid n le = record {
    no_shorter = omega (arith, length-laid);
    no_longer = omega (arith, length-laid);
    before = laid_before;
    after = laid_after n le;
  }

  pub written_laid : IsWritten at bytes file (laid at bytes file)
  written_laid = record { len = length-laid; torn = torn_laid (length bytes) (omega arith); held = laid_holds }
