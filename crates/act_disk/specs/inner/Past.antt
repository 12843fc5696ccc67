-- What a crash might have left since an earlier moment, where `Left calls c` says that a crash after these calls may leave c. The calls
-- come newest first, and the moment is their number.
use Rattle.std.specs.Prelude.{◌≡◌, ◌⊎◌, ℕ, ◌+◌, ◌≤◌, List, [], ◌∷◌, ◌++◌, length}
use Rattle.std.proofs.Common.{inl, inr, ⊎_elim, refl, sym, ap, subst, arith}
use Rattle.std.proofs.lemmas.List.{length-append}
use Rattle.act_disk.specs.Past.{LeftSince}
use Rattle.definitions.specs.Disk.{Elapses}

module _ {X : Type 0} (Left : List X → List ℕ → Type 0) where
  pub left_now : (calls : List X) (t : ℕ) (c : List ℕ) → t ≤ length calls → Left calls c → LeftSince Left calls t c
  left_now calls t c le left = ([], calls, refl, le, left)

  last_left : (calls : List X) (c : List ℕ) (later earlier : List X) → calls ≡ later ++ earlier → length calls ≤ length earlier
      → Left earlier c → Left calls c
  last_left calls c [] earlier split le left = subst (λ (l : List X). Left l c) (sym split) left
  last_left calls c (x ∷ later) earlier split le left = absurd (omega (arith, ap length split, length-append later earlier))

  pub left_last : (calls : List X) (c : List ℕ) → LeftSince Left calls (length calls) c → Left calls c
  left_last calls c left = last_left calls c left.0 left.1 left.2 left.3 left.4

  -- no further call
  pub elapses_same : (n : ℕ) (calls : List X) → Elapses n n (LeftSince Left calls) (LeftSince Left calls) (Left calls)
  elapses_same n calls = record { later = omega arith; nothing_else = λ t c le left. inl left; keeps = λ t c le left. left }

  since_more : (x : X) (calls : List X) (t : ℕ) (c : List ℕ) (later earlier : List X) → x ∷ calls ≡ later ++ earlier → t ≤ length earlier
      → Left earlier c
      → LeftSince Left calls t c ⊎ Left (x ∷ calls) c
  since_more x calls t c [] earlier split le left = inr (subst (λ (l : List X). Left l c) (sym split) left)
  since_more x calls t c (y ∷ later) earlier split le left = inl (later, earlier, cc, le, left)

  -- one further call
  pub elapses_push : (x : X) (calls : List X) (n m : ℕ) → m ≡ n + 1
      → Elapses n m (LeftSince Left calls) (LeftSince Left (x ∷ calls)) (Left (x ∷ calls))
  elapses_push x calls n m next = record {
    later = omega arith;
    nothing_else = λ t c le left. since_more x calls t c left.0 left.1 left.2 left.3 left.4;
    keeps = λ t c le left. (x ∷ left.0, left.1, ap (λ (l : List X). x ∷ l) left.2, left.3, left.4);
  }

-- two sequences, one after the other, where the images of the first are among those of the second
pub elapses_then : (t0 t1 t2 : ℕ) (past mid since : ℕ → List ℕ → Type 0) (images images' : List ℕ → Type 0)
    → Elapses t0 t1 past mid images → Elapses t1 t2 mid since images' → ((c : List ℕ) → images c → images' c)
    → Elapses t0 t2 past since images'
elapses_then t0 t1 t2 past mid since images images' first second keeps = record {
  later = omega (arith, first.later, second.later);
  nothing_else =
      λ t c le left. ⊎_elim (λ earlier. ⊎_elim inl (λ now. inr (keeps c now)) (first.nothing_else t c le earlier)) inr
      (second.nothing_else t c (omega (arith, le, first.later)) left);
  keeps = λ t c le left. second.keeps t c (omega (arith, le, first.later)) (first.keeps t c le left);
}
