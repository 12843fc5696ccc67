-- An area reads as at most one head and list of bodies.
use Rattle.std.proofs.Common.{◌≡◌, ℕ, ◌<◌, ◌^◌, List, [], ◌∷◌, ◌++◌, length, refl, sym, ◌∙◌, ap, subst, append_assoc}
use Rattle.std.specs.List.{AllByRecursion}
use Rattle.std.specs.Int.{to_be_bytes, from_be_bytes, w32, w64}
use Rattle.std.proofs.lemmas.Nat.{from_be_bytes-to_be_bytes_4, from_be_bytes-to_be_bytes_8}
use Rattle.definitions.specs.Area.{Head, head_bytes, framed, record_bytes, opened, IsClosed, Reads}
use Rattle.wf_value.proofs.Bytes.{same_parts}

same_number_4 : (m n : ℕ) (x y : List ℕ) → m < 2 ^ 32 → n < 2 ^ 32 → to_be_bytes w32 m ++ x ≡ to_be_bytes w32 n ++ y → (m ≡ n) × (x ≡ y)
same_number_4 m n x y fits_m fits_n same =
    let parts = same_parts (to_be_bytes w32 m) (to_be_bytes w32 n) x y refl same in (
      sym (from_be_bytes-to_be_bytes_4 m fits_m) ∙ ap (λ (l : List ℕ). from_be_bytes w32 l) parts.0
          ∙ from_be_bytes-to_be_bytes_4 n fits_n,
      parts.1,
    )

pub same_number_8 : (m n : ℕ) (x y : List ℕ) → m < 2 ^ 64 → n < 2 ^ 64 → to_be_bytes w64 m ++ x ≡ to_be_bytes w64 n ++ y → (m ≡ n) × (x ≡ y)
same_number_8 m n x y fits_m fits_n same =
    let parts = same_parts (to_be_bytes w64 m) (to_be_bytes w64 n) x y refl same in (
      sym (from_be_bytes-to_be_bytes_8 m fits_m) ∙ ap (λ (l : List ℕ). from_be_bytes w64 l) parts.0
          ∙ from_be_bytes-to_be_bytes_8 n fits_n,
      parts.1,
    )

-- one length-prefixed body at the start
pub same_frames : (a b x y : List ℕ) → length a < 2 ^ 32 → length b < 2 ^ 32 → framed a ++ x ≡ framed b ++ y → (a ≡ b) × (x ≡ y)
same_frames a b x y fits_a fits_b same =
    let apart : to_be_bytes w32 (length a) ++ (a ++ x) ≡ to_be_bytes w32 (length b) ++ (b ++ y) =
    sym (append_assoc (to_be_bytes w32 (length a)) a x) ∙ same ∙ append_assoc (to_be_bytes w32 (length b)) b y in
    let number = same_number_4 (length a) (length b) (a ++ x) (b ++ y) fits_a fits_b apart in
    same_parts a b x y number.0 number.1

abbrev pub AreShort : List (List ℕ) → Type 0
AreShort bodies = AllByRecursion (λ body. length body < 2 ^ 32) bodies

same_bodies : (one two : List (List ℕ)) (r s : List ℕ) → AreShort one → AreShort two → IsClosed r → IsClosed s
    → record_bytes one ++ r ≡ record_bytes two ++ s → one ≡ two
same_bodies [] [] r s fits_one fits_two cr cs same = refl
same_bodies [] (b ∷ two) r s fits_one fits_two cr cs same = absurd ((subst IsClosed same cr) refl)
same_bodies (a ∷ one) [] r s fits_one fits_two cr cs same = absurd ((subst IsClosed (sym same) cs) refl)
same_bodies (a ∷ one) (b ∷ two) r s fits_one fits_two cr cs same =
    let tails : (framed a ++ record_bytes one) ++ r ≡ (framed b ++ record_bytes two) ++ s = cc same in
    let apart : framed a ++ (record_bytes one ++ r) ≡ framed b ++ (record_bytes two ++ s) =
    sym (append_assoc (framed a) (record_bytes one) r) ∙ tails ∙ append_assoc (framed b) (record_bytes two) s in
    let frames = same_frames a b (record_bytes one ++ r) (record_bytes two ++ s) fits_one.0 fits_two.0 apart in
    let others = same_bodies one two r s fits_one.1 fits_two.1 cr cs frames.1 in
    ap (λ (l : List ℕ). l ∷ one) frames.0 ∙ ap (λ (l : List (List ℕ)). b ∷ l) others

-- a head and the bytes after it, with its number and its text apart
pub apart : (head : Head) (rest : List ℕ)
    → head_bytes head ++ rest ≡ head.version ∷ to_be_bytes w64 head.generation ++ (to_be_bytes w64 (length head.text) ++
    (head.text ++ rest))
apart head rest =
    let n = to_be_bytes w64 head.generation in
    let l = to_be_bytes w64 (length head.text) in
    ap (λ (tail : List ℕ). head.version ∷ tail)
    (append_assoc n (l ++ head.text) rest ∙ ap (λ (tail : List ℕ). n ++ tail) (append_assoc l head.text rest))

abbrev made : ℕ → ℕ → List ℕ → Head
made version generation text = record { version = version; generation = generation; text = text }

pub same_head : (one two : Head) (x y : List ℕ) → one.generation < 2 ^ 64 → two.generation < 2 ^ 64 → length one.text < 2 ^ 64
    → length two.text < 2 ^ 64
    → head_bytes one ++ x ≡ head_bytes two ++ y → (one ≡ two) × (x ≡ y)
same_head one two x y g1 g2 t1 t2 same =
    let parted = sym (apart one x) ∙ same ∙ apart two y in
    let version : one.version ≡ two.version = cc parted in
    let tails : to_be_bytes w64 one.generation ++ (to_be_bytes w64 (length one.text) ++
    (one.text ++ x)) ≡ to_be_bytes w64 two.generation ++ (to_be_bytes w64 (length two.text) ++ (two.text ++ y)) = cc parted in
    let generation = same_number_8 one.generation two.generation (to_be_bytes w64 (length one.text) ++ (one.text ++ x)) (to_be_bytes w64
    (length two.text) ++ (two.text ++ y)) g1 g2 tails in
    let long = same_number_8 (length one.text) (length two.text) (one.text ++ x) (two.text ++ y) t1 t2 generation.1 in
    let text = same_parts one.text two.text x y long.0 long.1 in (
      ap (λ (n : ℕ). made n one.generation one.text) version
          ∙ ap (λ (n : ℕ). made two.version n one.text) generation.0
          ∙ ap (λ (l : List ℕ). made two.version two.generation l) text.0,
      text.1,
    )

pub one_reading : (area : List ℕ) (head other : Head) (bodies others : List (List ℕ))
    → Reads area head bodies → Reads area other others → (head ≡ other) × (bodies ≡ others)
one_reading area head other bodies others first second =
    let same : opened head bodies ++ first.rest ≡ opened other others ++ second.rest = sym first.split ∙ second.split in
    let suffix : (head_bytes head ++ record_bytes bodies) ++ first.rest ≡
    (head_bytes other ++ record_bytes others) ++ second.rest = cc same in
    let parted = sym (append_assoc (head_bytes head) (record_bytes bodies) first.rest) ∙ suffix
    ∙ append_assoc (head_bytes other) (record_bytes others) second.rest in
    let heads = same_head head other (record_bytes bodies ++ first.rest) (record_bytes others ++ second.rest)
    first.fits.generation second.fits.generation first.fits.text second.fits.text parted in
    (heads.0, same_bodies bodies others first.rest second.rest first.fits.each second.fits.each first.closed second.closed heads.1)
