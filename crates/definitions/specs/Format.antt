-- Formats of bytes: which values have an encoding, and what it is. The formats are defined by this project.
use Rattle.std.specs.Prelude.{◌≡◌, ℕ, ◌<◌, ◌≤◌, ◌^◌, List, [], ◌∷◌, ◌++◌, length, flat_map, Bool, IsTrue, Option, Some, None, IsSomeAnd}
use Rattle.std.specs.List.{AllByRecursion}
use Rattle.std.specs.Int.{to_be_bytes, w32}
use Rattle.std.specs.Option.{option_map_or}

-- the values that have an encoding, and the encoding
pub record Format (A : Type 0) : Type 1 where
  pub Takes : A → Type 0
  pub encoding : A → List ℕ

-- The bytes are an encoding of the value.
abbrev pub Encodes : {A : Type 0} → Format A → List ℕ → A → Type 0
Encodes format bytes x = format.Takes x × (bytes ≡ format.encoding x)

-- The bytes are an encoding of the value followed by these.
abbrev pub OpensWith : {A : Type 0} → Format A → List ℕ → A → List ℕ → Type 0
OpensWith format bytes x rest = format.Takes x × (bytes ≡ format.encoding x ++ rest)

-- No encoding is a proper prefix of another: if bytes begin with two encodings, these are equal and encode the same
-- value.
abbrev pub NoneBeginsAnother : {A : Type 0} → Format A → Type 0
NoneBeginsAnother {A} format = (a b more other : List ℕ) (x y : A) → Encodes format a x → Encodes format b y → a ++ more ≡ b ++ other
    → (a ≡ b) × (x ≡ y)

-- Each value that can be encoded has exactly one encoding.
abbrev pub HasOneEncoding : {A : Type 0} → Format A → Type 0
HasOneEncoding {A} format = (x : A) → format.Takes x → (bytes : List ℕ) × Encodes format bytes x
    × ((other : List ℕ) → Encodes format other x → other ≡ bytes)

-- The value has an encoding, and it was appended.
abbrev pub Appends : {A : Type 0} → Format A → List ℕ → A → List ℕ → Type 0
Appends format before x after = format.Takes x × (after ≡ before ++ format.encoding x)

-- What a reader finds: a value and the bytes after its encoding, or nothing if no prefix is an encoding.
abbrev pub ReadsPrefix : {A : Type 0} → Format A → List ℕ → Option (A × List ℕ) → Type 0
ReadsPrefix format bytes (Some found) = OpensWith format bytes found.0 found.1
ReadsPrefix {A} format bytes None = (x : A) (rest : List ℕ) → OpensWith format bytes x rest → ⊥

-- ---- the building blocks of formats

-- a number in four bytes, the most significant first
unfoldable pub word_bytes : ℕ → List ℕ
word_bytes n = to_be_bytes w32 n

abbrev pub word : Format ℕ
word = record { Takes = λ n. n < 2 ^ 32; encoding = word_bytes }

-- a text or any bytes: their length in four bytes, then the bytes
unfoldable pub text_bytes : List ℕ → List ℕ
text_bytes bytes = word_bytes (length bytes) ++ bytes

abbrev pub text : Format (List ℕ)
text = record { Takes = λ t. length t < 2 ^ 32; encoding = text_bytes }

-- the values of a format that pass a test
abbrev pub only : {A : Type 0} → (A → Bool) → Format A → Format A
only test format = record { Takes = λ x. format.Takes x × IsTrue (test x); encoding = format.encoding }

-- two values, one after the other
abbrev pub pair : {A B : Type 0} → Format A → Format B → Format (A × B)
pair first second = record { Takes = λ p. first.Takes p.0 × second.Takes p.1; encoding = λ p. first.encoding p.0 ++ second.encoding p.1 }

-- a value, encoded as its parts in a format
abbrev pub parts : {A B : Type 0} → (B → A) → Format A → Format B
parts parts_of format = record { Takes = λ x. format.Takes (parts_of x); encoding = λ x. format.encoding (parts_of x) }

-- a list of `least` to `most` values: the count in four bytes, then the values
abbrev pub counted : {A : Type 0} → ℕ → ℕ → Format A → Format (List A)
counted least most item = record {
  Takes = λ xs. (least ≤ length xs) × (length xs ≤ most) × AllByRecursion item.Takes xs;
  encoding = λ xs. word_bytes (length xs) ++ flat_map item.encoding xs;
}

-- a number in one byte
abbrev pub byte : Format ℕ
byte = record { Takes = λ n. n < 256; encoding = λ n. n ∷ [] }

-- a value, and after it one whose format depends on the first
abbrev pub follow : {A B : Type 0} → Format A → (A → Format B) → Format (A × B)
follow first second = record {
  Takes = λ p. first.Takes p.0 × (second p.0).Takes p.1;
  encoding = λ p. first.encoding p.0 ++ (second p.0).encoding p.1;
}

-- an optional value that is there
abbrev pub present : {A : Type 0} → Format A → Format (Option A)
present format = record { Takes = λ o. IsSomeAnd o format.Takes; encoding = λ o. option_map_or format.encoding o [] }

-- exactly `n` values, one after another, without a count
abbrev pub row : {A : Type 0} → ℕ → Format A → Format (List A)
row n item = record { Takes = λ xs. (length xs ≡ n) × AllByRecursion item.Takes xs; encoding = λ xs. flat_map item.encoding xs }
