-- A scan finds exactly the records that are encoded.
use Rattle.std.proofs.Common.{◌≡◌, ℕ, ◌+◌, ◌<◌, ◌≤◌, ◌^◌, List, ◌++◌, length, take, drop, refl, sym, ◌∙◌, ap}
use Rattle.std.proofs.Common.{arith, append_assoc, length-append, take-append-drop}
use Rattle.std.specs.Int.{from_be_bytes, to_be_bytes, w32}
use Rattle.std.proofs.lemmas.List.{take_at, length-take, length-drop}
use Rattle.std.proofs.lemmas.Nat.{from_be_bytes-to_be_bytes_4}
use Rattle.wf_value.proofs.Bytes.{AreBytes, spell_number}
use Rattle.definitions.specs.Area.{framed}
use Rattle.gated_journal.specs.Scanned.{Frames}

-- as many bytes as the number says, and the rest
pub frames : (bytes : List ℕ) (n : ℕ) (suffix body rest : List ℕ) → AreBytes bytes → 4 ≤ length bytes → n < 2 ^ 32
    → n ≡ from_be_bytes w32 (take 4 bytes) → suffix ≡ drop 4 bytes
    → n ≤ length suffix → body ≡ take n suffix → rest ≡ drop n suffix → Frames bytes body rest
frames bytes n suffix body rest are long fits is after_is within body_is rest_is =
    let many : length body ≡ n = omega (arith, ap (λ (l : List ℕ). length l) body_is, length-take n suffix, within) in
    let parted : suffix ≡ body ++ rest = sym (take-append-drop n suffix) ∙ ap (λ (l : List ℕ). l ++ drop n suffix) (sym body_is)
    ∙ ap (λ (l : List ℕ). body ++ l) (sym rest_is) in
    let encoded : bytes ≡ to_be_bytes w32 n ++ drop 4 bytes = spell_number bytes are long
    ∙ ap (λ (k : ℕ). to_be_bytes w32 k ++ drop 4 bytes) (sym is) in
    record {
      split = encoded
          ∙ ap (λ (l : List ℕ). to_be_bytes w32 n ++ l) (sym after_is ∙ parted)
          ∙ sym (append_assoc (to_be_bytes w32 n) body rest)
          ∙ ap (λ (k : ℕ). (to_be_bytes w32 k ++ body) ++ rest) (sym many);
      short = omega (arith, many, fits);
    }

-- the number at the start of a frame is the length of the body
pub framed_number : (bytes body rest : List ℕ) → Frames bytes body rest → from_be_bytes w32 (take 4 bytes) ≡ length body
framed_number bytes body rest f =
    let parted : bytes ≡ to_be_bytes w32 (length body) ++ (body ++ rest) = f.split
    ∙ append_assoc (to_be_bytes w32 (length body)) body rest in
    ap (λ (l : List ℕ). from_be_bytes w32 l) (ap (λ (l : List ℕ). take 4 l) parted
    ∙ take_at (to_be_bytes w32 (length body)) (body ++ rest) 4 refl)
    ∙ from_be_bytes-to_be_bytes_4 (length body) f.short

pub length-frame : (bytes body rest : List ℕ) → Frames bytes body rest → length bytes ≡ 4 + length body + length rest
length-frame bytes body rest f =
    let number : length (to_be_bytes w32 (length body)) ≡ 4 = refl in
    omega (
      arith,
      ap (λ (l : List ℕ). length l) f.split,
      length-append (framed body) rest,
      length-append (to_be_bytes w32
          (length body)) body,
      number,
    )

pub no_frame_short : (bytes body rest : List ℕ) → length bytes < 4 → Frames bytes body rest → ⊥
no_frame_short bytes body rest few f = omega (arith, few, length-frame bytes body rest f)

pub no_frame_long : (bytes body rest : List ℕ) (n : ℕ) → n ≡ from_be_bytes w32 (take 4 bytes) → length (drop 4 bytes) < n
    → Frames bytes body rest → ⊥
no_frame_long bytes body rest n is few f = omega
    (arith, few, is, framed_number bytes body rest f, length-frame bytes body rest f, length-drop 4 bytes)

pub cut_long : (bytes : List ℕ) (n : ℕ) → n ≡ from_be_bytes w32 (take 4 bytes) → length (drop 4 bytes) < n → 4 ≤ length bytes
    → length bytes < 4 + from_be_bytes w32 (take 4 bytes)
cut_long bytes n is few long = omega (arith, is, few, long, length-drop 4 bytes)
