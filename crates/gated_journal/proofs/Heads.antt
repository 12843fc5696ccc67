-- The head that is read from an area is the one encoded there.
use Rattle.std.proofs.Common.{◌≡◌, ℕ, suc, ◌+◌, ◌<◌, ◌≤◌, ◌^◌, List, [], ◌∷◌, ◌++◌, length, take, drop, refl, sym, ◌∙◌, ap, subst}
use Rattle.std.proofs.Common.{arith, length-append, take-append-drop}
use Rattle.std.specs.Prelude.{slice_index_or}
use Rattle.std.specs.Int.{from_be_bytes, to_be_bytes, w64}
use Rattle.std.proofs.lemmas.List.{length-take, length-drop, take_at, drop_at}
use Rattle.std.proofs.lemmas.Nat.{be_bytes_8, from_be_bytes-to_be_bytes_8}
use Rattle.definitions.specs.Area.{Head}
use Rattle.gated_journal.specs.Scanned.{HasNumber, HasText, HasHead, HasPrefix}
use Rattle.gated_journal.proofs.OneReading.{same_head, apart}
use Rattle.wf_value.proofs.Bytes.{AreBytes, AreBytes-take}

-- eight bytes encode the number that is read from them
pub has_number : (bytes : List ℕ) (n : ℕ) (rest : List ℕ) → AreBytes bytes → 8 ≤ length bytes → n < 2 ^ 64
    → n ≡ from_be_bytes w64 (take 8 bytes) → rest ≡ drop 8 bytes → HasNumber bytes n rest
has_number bytes n rest are long fits is rest_is = record {
  split = sym (take-append-drop 8 bytes)
      ∙ ap (λ (l : List ℕ). l ++ drop 8 bytes) (sym (be_bytes_8 (take 8 bytes) n (omega (arith, length-take 8 bytes, long))
      (AreBytes-take 8 bytes are) is))
      ∙ ap (λ (l : List ℕ). to_be_bytes w64 n ++ l) (sym rest_is);
  fits = fits;
}

pub no_number : (bytes : List ℕ) (n : ℕ) (rest : List ℕ) → length bytes < 8 → HasNumber bytes n rest → ⊥
no_number bytes n rest few has =
    let eight : length (to_be_bytes w64 n) ≡ 8 = refl in
    omega (arith, few, eight, ap (λ (l : List ℕ). length l) has.split, length-append (to_be_bytes w64 n) rest)

-- as many bytes as the number says, and the rest
pub has_text : (bytes : List ℕ) (n : ℕ) (suffix text rest : List ℕ) → HasNumber bytes n suffix → n ≤ length suffix
    → text ≡ take n suffix → rest ≡ drop n suffix → HasText bytes text rest
has_text bytes n suffix text rest has within text_is rest_is =
    let many : length text ≡ n = omega (arith, ap (λ (l : List ℕ). length l) text_is, length-take n suffix, within) in
    let parted : suffix ≡ text ++ rest = sym (take-append-drop n suffix) ∙ ap (λ (l : List ℕ). l ++ drop n suffix) (sym text_is)
    ∙ ap (λ (l : List ℕ). text ++ l) (sym rest_is) in
    record {
      split = has.split
          ∙ ap (λ (l : List ℕ). to_be_bytes w64 n ++ l) parted
          ∙ ap (λ (k : ℕ). to_be_bytes w64 k ++ text ++ rest) (sym many);
      fits = omega (arith, many, has.fits);
    }

text_number : (bytes text rest : List ℕ) → HasText bytes text rest → HasNumber bytes (length text) (text ++ rest)
text_number bytes text rest has = record { split = has.split; fits = has.fits }

pub no_text : (bytes text rest : List ℕ) → length bytes < 8 → HasText bytes text rest → ⊥
no_text bytes text rest few has = no_number bytes (length text) (text ++ rest) few (text_number bytes text rest has)

-- the number at the start is the one read
number_read : (bytes : List ℕ) (n : ℕ) (rest : List ℕ) → HasNumber bytes n rest
    → (from_be_bytes w64 (take 8 bytes) ≡ n) × (drop 8 bytes ≡ rest)
number_read bytes n rest has = (
  ap (λ (l : List ℕ). from_be_bytes w64 l) (ap (λ (l : List ℕ). take 8 l) has.split ∙ take_at (to_be_bytes w64 n) rest 8 refl)
      ∙ from_be_bytes-to_be_bytes_8 n has.fits,
  ap (λ (l : List ℕ). drop 8 l) has.split ∙ drop_at (to_be_bytes w64 n) rest 8 refl,
)

pub no_text_long : (bytes text rest : List ℕ) (n : ℕ) → n ≡ from_be_bytes w64 (take 8 bytes) → length (drop 8 bytes) < n
    → HasText bytes text rest → ⊥
no_text_long bytes text rest n is long has =
    let read = number_read bytes (length text) (text ++ rest) (text_number bytes text rest has) in
    omega (arith, is, long, read.0, ap (λ (l : List ℕ). length l) read.1, length-append text rest)

pub cut_long : (bytes : List ℕ) (n : ℕ) → n ≡ from_be_bytes w64 (take 8 bytes) → length (drop 8 bytes) < n → 8 ≤ length bytes
    → length bytes < 8 + from_be_bytes w64 (take 8 bytes)
cut_long bytes n is few long = omega (arith, is, few, long, length-drop 8 bytes)

-- a version, a number and a text form a head
pub has_head : (version : ℕ) (suffix : List ℕ) (n : ℕ) (past text rest : List ℕ) → HasNumber suffix n past → HasText past text rest
    → HasHead (version ∷ suffix) (record { version = version; generation = n; text = text }) rest
has_head version suffix n past text rest number has = record {
  split = ap (λ (l : List ℕ). version ∷ l) (number.split ∙ ap (λ (l : List ℕ). to_be_bytes w64 n ++ l) has.split)
      ∙ sym (apart (record { version = version; generation = n; text = text }) rest);
  generation = number.fits;
  text = has.fits;
}

pub has_head_there : (bytes suffix : List ℕ) (n : ℕ) (past text rest : List ℕ) → AreBytes bytes → 1 ≤ length bytes → suffix ≡ drop 1 bytes
    → 8 ≤ length suffix
    → n < 2 ^ 64
    → n ≡ from_be_bytes w64 (take 8 suffix) → past ≡ drop 8 suffix → HasText past text rest
    → HasHead bytes (record { version = slice_index_or bytes 0 0; generation = n; text = text }) rest
has_head_there [] suffix n past text rest are one is long fits number past_is has = absurd (omega (arith, one))
has_head_there (version ∷ tail) suffix n past text rest are one is long fits number past_is has =
    let bytes_after : AreBytes suffix = subst (λ (l : List ℕ). AreBytes l) (sym is) (λ i. are (suc i)) in
    subst (λ (l : List ℕ). HasHead (version ∷ l) (record { version = version; generation = n; text = text }) rest) is
    (has_head version suffix n past text rest (has_number suffix n past bytes_after long fits number past_is) has)

-- the same after an open gate
pub no_prefix : (area suffix : List ℕ) → suffix ≡ drop 1 area → ((head : Head) (rest : List ℕ) → HasHead suffix head rest → ⊥)
    → (head : Head) (rest : List ℕ) → HasPrefix area head rest → ⊥
no_prefix area suffix is none head rest prefix =
    let same : prefix.suffix ≡ suffix = sym (ap (λ (l : List ℕ). drop 1 l) prefix.split) ∙ sym is in
    none head rest (subst (λ (l : List ℕ). HasHead l head rest) same prefix.headed)

pub one_head : (bytes : List ℕ) (one two : Head) (x y : List ℕ) → HasHead bytes one x → HasHead bytes two y → (one ≡ two) × (x ≡ y)
one_head bytes one two x y first second =
    same_head one two x y first.generation second.generation first.text second.text (sym first.split ∙ second.split)
