-- Open records at the start of some bytes, and the bytes after them.
use Rattle.std.proofs.Common.{◌≡◌, ℕ, ◌<◌, ◌^◌, List, [], ◌∷◌, ◌++◌, length, refl, sym, ◌∙◌, ap, subst, arith, append_assoc}
use Rattle.std.proofs.Common.{length-append, Some, None}
use Rattle.std.specs.List.{AllByRecursion, slice_get}
use Rattle.definitions.specs.Area.{framed, record_bytes, IsClosed}
use Rattle.gated_journal.specs.Scanned.{OpensWith, Parts}
use Rattle.gated_journal.proofs.Grown.{record_bytes-push, all_short-push}
use Rattle.gated_journal.proofs.OneReading.{same_frames}

-- one more record
pub parts_more : (bytes : List ℕ) (bodies : List (List ℕ)) (rest body past : List ℕ) → Parts bytes bodies rest → OpensWith rest body past
    → Parts bytes (bodies ++ body ∷ []) past
parts_more bytes bodies rest body past parts opens = record {
  split = parts.split ∙ ap (λ (l : List ℕ). record_bytes bodies ++ l) opens.split
      ∙ sym (append_assoc (record_bytes bodies) (0xA5 ∷ framed body) past)
      ∙ ap (λ (l : List ℕ). l ++ past) (sym (record_bytes-push bodies body));
  short = all_short-push bodies body parts.short opens.short;
}

pub shorter : (rest body past : List ℕ) → OpensWith rest body past → length past < length rest
shorter rest body past opens =
    omega (arith, ap (λ (l : List ℕ). length l) opens.split, length-append (framed body) past)

-- if no open record follows the first ones, and the whole list ends at a closed gate, the first ones end at that gate too
same_rest : (one two : List (List ℕ)) (r s : List ℕ) → AllByRecursion (λ b. length b < 2 ^ 32) one
    → AllByRecursion (λ b. length b < 2 ^ 32) two
    → IsClosed r → ((body past : List ℕ) → OpensWith s body past → ⊥) → record_bytes one ++ r ≡ record_bytes two ++ s → IsClosed s
same_rest [] [] r s f g closed last same = subst IsClosed same closed
same_rest [] (b ∷ two) r s f g closed last same = absurd ((subst IsClosed same closed) refl)
same_rest (a ∷ one) [] r s f g closed last same =
    absurd (last a (record_bytes one ++ r) (record {
      split = sym same ∙ ap (λ (l : List ℕ). 0xA5 ∷ l) (append_assoc (framed a) (record_bytes one) r);
      short = f.0;
    }))
same_rest (a ∷ one) (b ∷ two) r s f g closed last same =
    let tails : (framed a ++ record_bytes one) ++ r ≡ (framed b ++ record_bytes two) ++ s = cc same in
    let apart : framed a ++ (record_bytes one ++ r) ≡ framed b ++ (record_bytes two ++ s) =
    sym (append_assoc (framed a) (record_bytes one) r) ∙ tails ∙ append_assoc (framed b) (record_bytes two) s in
    let frames = same_frames a b (record_bytes one ++ r) (record_bytes two ++ s) f.0 g.0 apart in
    same_rest one two r s f.1 g.1 closed last frames.1

pub rest_closed : (bytes rest end : List ℕ) (found bodies : List (List ℕ)) → Parts bytes found rest
    → ((body past : List ℕ) → OpensWith rest body past → ⊥) → Parts bytes bodies end → IsClosed end → IsClosed rest
rest_closed bytes rest end found bodies so_far last parts closed =
    same_rest bodies found end rest parts.short so_far.short closed last (sym parts.split ∙ so_far.split)

pub shut_first : (rest : List ℕ) (gate : ℕ) → IsClosed rest → Some gate ≡ slice_get rest 0 → gate ≡ 0xA5 → ⊥
shut_first [] gate closed is same = closed
shut_first (x ∷ rest) gate closed is same = closed (cc (is, same))

pub none_first : (rest : List ℕ) → IsClosed rest → None ≡ slice_get rest 0 → ⊥
none_first [] closed is = closed
none_first (x ∷ rest) closed is = absurd (cc is)

-- if no open record follows the parsed ones, they are all the records
pub all_parted : (bodies parted : List (List ℕ)) (rest : List ℕ) → AllByRecursion (λ b. length b < 2 ^ 32) bodies
    → Parts (record_bytes bodies) parted rest → ((body past : List ℕ) → OpensWith rest body past → ⊥) → parted ≡ bodies
all_parted [] [] rest short parts last = refl
all_parted [] (p ∷ parted) rest short parts last = cc parts.split
all_parted (b ∷ bodies) [] rest short parts last =
    absurd (last b (record_bytes bodies) (record { split = sym parts.split; short = short.0 }))
all_parted (b ∷ bodies) (p ∷ parted) rest short parts last =
    let tails : framed b ++ record_bytes bodies ≡ (framed p ++ record_bytes parted) ++ rest = cc parts.split in
    let frames = same_frames b p (record_bytes bodies) (record_bytes parted ++ rest) short.0 parts.short.0
    (tails ∙ append_assoc (framed p) (record_bytes parted) rest) in
    let others = all_parted bodies parted rest short.1 (record { split = frames.1; short = parts.short.1 }) last in
    ap (λ (l : List ℕ). l ∷ parted) (sym frames.0) ∙ ap (λ (l : List (List ℕ)). b ∷ l) others
