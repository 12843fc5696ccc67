-- The parts of a text of labels.
use Rattle.std.specs.Prelude.{◌≡◌, ◌==◌, ℕ, zero, suc, ◌<◌, List, [], ◌∷◌, length, Bool, true, nat_le, ◌&&◌}
use Rattle.std.specs.List.{list_all}
use Rattle.std.proofs.Common.{arith, get_or, refl}
use Rattle.std.proofs.lemmas.Bool.{and_parts, le-leb}
use Rattle.std.proofs.lemmas.List.Splits.{length-slice_split}
use Rattle.definitions.specs.Limits.{max_labels}
use Rattle.definitions.specs.SmallText.{are_labels, is_short, is_label_byte, split_at_commas}

-- a text has at least one part, so it is a list of labels if it has at most `max_labels` parts and each is a label
pub of_few : (text : List ℕ) → nat_le (length (split_at_commas text)) max_labels ≡ true
    → list_all (is_short is_label_byte) (split_at_commas text) ≡ are_labels (split_at_commas text)
of_few text few =
    let some : nat_le 1 (length (split_at_commas text)) ≡ true = rw (length-slice_split (λ b. b == 44) text) (le-leb 1 _ (omega arith)) in
    rw (some, few) refl

pub each_passes : (ps : List (List ℕ)) → are_labels ps ≡ true → list_all (is_short is_label_byte) ps ≡ true
each_passes ps h = (and_parts (nat_le 1 (length ps) && nat_le (length ps) max_labels) (list_all (is_short is_label_byte) ps) h).1

pub passes_at : (p : List ℕ → Bool) (ps : List (List ℕ)) (i : ℕ) (d : List ℕ)
    → list_all p ps ≡ true → i < length ps → p (get_or ps i d) ≡ true
passes_at p [] i d h lt = absurd (omega arith)
passes_at p (x ∷ xs) zero d h lt = (and_parts (p x) (list_all p xs) h).0
passes_at p (x ∷ xs) (suc i) d h lt = passes_at p xs i d (and_parts (p x) (list_all p xs) h).1 (omega arith)
