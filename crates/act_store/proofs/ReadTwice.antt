-- Two calls in a row that only read a disk are one such call.
use Rattle.std.specs.Prelude.{ℕ, ◌≤◌, List}
use Rattle.std.proofs.Common.{arith, inl, inr, ◌∙◌}
use Rattle.gated_journal.specs.Reading.{OnlyRead}

module _ {D : Type 0} (honest : D → Type 0) (seen : D → List ℕ) (size moment : D → ℕ) (images : D → List ℕ → Type 0)
    (images_since : D → ℕ → List ℕ → Type 0)
    (counts_now : (d : D) → honest d → (t : ℕ) (c : List ℕ) → t ≤ moment d → images d c → images_since d t c) where
  pub read_twice : (d0 d1 d2 : D) → OnlyRead honest seen size moment images images_since d0 d1
      → OnlyRead honest seen size moment images images_since d1 d2 → OnlyRead honest seen size moment images images_since d0 d2
  read_twice d0 d1 d2 first second = record {
    any_moment = (λ honest2.
        let honest1 = second.was_honest honest2 in
        let one = first.any_moment honest1 in
        let two = second.any_moment honest2 in
        let still : (c : List ℕ) → images d1 c → images d0 c = λ c is. one.each c (counts_now d1 honest1 (moment d0) c one.later is) in
        record {
          later = omega (arith, one.later, two.later);
          each = (λ c is. elim (two.before (moment d0) c one.later is) [ inl earlier ↦ one.each c earlier | inr now ↦ still c now ]);
          before = (λ t c le is.
              elim (two.before t c (omega (arith, le, one.later)) is) [
                | inl earlier ↦ one.before t c le earlier
                | inr now ↦ inr (still c now)
              ]);
        });
    same_seen = (λ honest2. second.same_seen honest2 ∙ first.same_seen (second.was_honest honest2));
    same_size = second.same_size ∙ first.same_size;
    was_honest = (λ honest2. first.was_honest (second.was_honest honest2));
  }
