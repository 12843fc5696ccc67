-- Each image of an append comes from one earlier image.
use Rattle.std.proofs.Common.{inl, inr, ℕ, ◌+◌, min, List, length, ◌∙◌, subst, arith}
use Rattle.std.specs.Prelude.{Result, Ok, Err, OnOk}
use Rattle.definitions.specs.Disk.{Torn, IsWritten, From, Only, EachSince}
use Rattle.act_disk.proofs.Kept.{prefix_kept, rest_kept, range_kept}
use Rattle.act_disk.proofs.Moments.{weakened, joined}
use Rattle.gated_journal.specs.Appends.{Appends, IsWhole}

-- the write of the gate, on an image that already has the record
pub composed : (gate : ℕ) (bytes old mid new : List ℕ) → IsWritten (gate + 1) bytes old mid → Torn gate 1 mid new
    → IsWhole gate bytes old new
composed gate bytes old mid new written torn =
    let n = length bytes in
    let below = min gate (length old) in
    let t = written.torn in
    record {
      torn = record {
        no_shorter = omega (arith, t.no_shorter, torn.no_shorter);
        no_longer = omega (arith, t.no_longer, torn.no_longer);
        before = prefix_kept gate 1 mid new torn below (omega (arith, t.no_shorter)) (omega arith)
            ∙ prefix_kept (gate + 1) n old mid t below (omega arith) (omega arith);
        after = rest_kept gate 1 mid new torn (gate + (n + 1)) (omega arith)
            ∙ rest_kept (gate + 1) n old mid t (gate + (n + 1)) (omega arith);
      };
      held = range_kept gate 1 mid new torn (gate + 1) n (omega (arith, written.len)) (inr (omega arith)) ∙ written.held;
    }

-- weakens a statement about `Ok`
pub on_ok : {T E : Type 0} (r : Result T E) {P Q : Type 0} → OnOk r P → (P → Q) → OnOk r Q
on_ok (Ok x) p weaker = weaker p
on_ok (Err e) p weaker = _

pub both_ok : {T E : Type 0} (r : Result T E) {P Q R : Type 0} → OnOk r P → OnOk r Q → (P → Q → R) → OnOk r R
both_ok (Ok x) p q weaker = weaker p q
both_ok (Err e) p q weaker = _

pub three_ok : {T E : Type 0} (r : Result T E) {P Q R S : Type 0} → OnOk r P → OnOk r Q → OnOk r R → (P → Q → R → S) → OnOk r S
three_ok (Ok x) p q t weaker = weaker p q t
three_ok (Err e) p q t weaker = _

module _ {D : Type 0} (moment : D → ℕ) (images_since : D → ℕ → List ℕ → Type 0)
    (images : D → List ℕ → Type 0) (gate : ℕ) (bytes : List ℕ) where
  -- after the write of the record and its sync
  pub written_after : (old new : D) → EachSince moment images_since old new (From (Torn (gate + 1) (length bytes)) (images old))
      → EachSince moment images_since old new (From (Appends gate bytes) (images old))
  written_after old new first =
      weakened moment images_since old new (From (Torn (gate + 1) (length bytes)) (images old)) (From (Appends gate bytes) (images old))
      first (λ c p. (p.0, p.1, inl p.2))

  -- after the write of the gate and its sync
  pub opened_after : (old mid new : D) (seen_old seen_mid : List ℕ)
      → EachSince moment images_since old mid (From (Torn (gate + 1) (length bytes)) (images old))
      → EachSince moment images_since mid new (From (Torn gate 1) (images mid))
      → images old seen_old → IsWritten (gate + 1) bytes seen_old seen_mid → Only seen_mid (images mid)
      → EachSince moment images_since old new (From (Appends gate bytes) (images old))
  opened_after old mid new seen_old seen_mid first second here written only =
      joined moment images_since old mid new (From (Appends gate bytes) (images old)) (From (Torn gate 1) (images mid))
      (written_after old mid first) second
      (λ c q. (
        seen_old,
        here,
        inr (composed gate bytes seen_old seen_mid c written (subst (λ (l : List ℕ). Torn gate 1 l c)
            ((only q.0).0 q.1) q.2)),
      ))
