-- Sequences of calls: from a property of each call's images to one of every image since the start.
use Rattle.std.proofs.Common.{inl, inr, ⊎_elim, ℕ, List, arith}
use Rattle.definitions.specs.Disk.{Elapses, EachSince}

module _ {D : Type 0} (moment : D → ℕ) (images_since : D → ℕ → List ℕ → Type 0) where
  -- before the first call
  pub started : (old : D) (P : List ℕ → Type 0) → ((c : List ℕ) → images_since old (moment old) c → P c)
      → EachSince moment images_since old old P
  started old P here = record { later = omega arith; each = here; before = λ t c le left. inl left }

  -- one more call, after which a crash leaves an image with P
  pub goes_on : (old mid new : D) (P images : List ℕ → Type 0) → EachSince moment images_since old mid P
      → Elapses (moment mid) (moment new) (images_since mid) (images_since new) images → ((c : List ℕ) → images c → P c)
      → EachSince moment images_since old new P
  goes_on old mid new P images so_far time here = record {
    later = omega (arith, so_far.later, time.later);
    each = λ c left. ⊎_elim (so_far.each c) (here c) (time.nothing_else (moment old) c so_far.later left);
    before = λ t c le left. ⊎_elim (so_far.before t c le) (λ now. inr (here c now))
        (time.nothing_else t c (omega (arith, le, so_far.later)) left);
  }

  -- a sequence whose images have a stronger property
  pub weakened : (old new : D) (P Q : List ℕ → Type 0) → EachSince moment images_since old new P → ((c : List ℕ) → P c → Q c)
      → EachSince moment images_since old new Q
  weakened old new P Q since weaker = record {
    later = since.later;
    each = λ c left. weaker c (since.each c left);
    before = λ t c le left. ⊎_elim inl (λ holds. inr (weaker c holds)) (since.before t c le left);
  }

  -- two sequences, one after the other
  pub joined : (old mid new : D) (P Q : List ℕ → Type 0) → EachSince moment images_since old mid P → EachSince moment images_since mid new Q
      → ((c : List ℕ) → Q c → P c) → EachSince moment images_since old new P
  joined old mid new P Q first second weaker = record {
    later = omega (arith, first.later, second.later);
    each = λ c left. ⊎_elim (first.each c) (weaker c) (second.before (moment old) c first.later left);
    before = λ t c le left. ⊎_elim (first.before t c le) (λ now. inr (weaker c now))
        (second.before t c (omega (arith, le, first.later)) left);
  }
