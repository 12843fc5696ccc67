-- Reading as a function: the value at the front of bytes and the bytes after it, if there is one.
use Rattle.std.specs.Prelude.{◌≡◌, ℕ, zero, suc, ◌∷◌, List, [], ◌++◌, length, take, drop, nat_lt, nat_le, ◌&&◌, if◌then◌else◌, Bool, Option}
use Rattle.std.specs.Prelude.{Some, None, Result, Ok, Err}
use Rattle.std.specs.Int.{from_be_bytes, w32}
use Rattle.command_encodings.specs.declared.decode_error.DecodeError.{DecodeError}
use Rattle.command_encodings.specs.declared.decode_error.DecodeError.TheVariants.{NoMemory, NoEncoding}

-- What a call found, seen through a view, is what reading finds, unless memory ran out.
abbrev pub Fails : {Y : Type 0} → DecodeError → Option Y → Type 0
Fails NoEncoding found = found ≡ None
Fails NoMemory found = Unit {0}

abbrev pub Finds : {X Y : Type 0} → (X → Y) → Result X DecodeError → Option Y → Type 0
Finds view (Ok x) found = found ≡ Some (view x)
Finds view (Err e) found = Fails e found

infixl 10 ◌>>=◌
abbrev pub ◌>>=◌ : {A B : Type 0} → Option A → (A → Option B) → Option B
None >>= f = None
(Some x) >>= f = f x

-- a function that finds a value at the front of bytes
abbrev pub Reader : Type 0 → Type 0
Reader A = List ℕ → Option (A × List ℕ)

unfoldable pub word_at : Reader ℕ
word_at bytes = if nat_lt (length bytes) 4 then None else Some (from_be_bytes w32 (take 4 bytes), drop 4 bytes)

abbrev pub bytes_at : ℕ → Reader (List ℕ)
bytes_at n bytes = if nat_lt (length bytes) n then None else Some (take n bytes, drop n bytes)

unfoldable pub text_at : Reader (List ℕ)
text_at bytes = word_at bytes >>= (λ n. bytes_at n.0 n.1)

-- the value, if it passes a test
abbrev pub kept : {A : Type 0} → (A → Bool) → A → Option A
kept test x = if test x then Some x else None

abbrev pub only_at : {A : Type 0} → (A → Bool) → Reader A → Reader A
only_at test at bytes = at bytes >>= (λ x. kept test x.0 >>= (λ y. Some (y, x.1)))

abbrev pub pair_at : {A B : Type 0} → Reader A → Reader B → Reader (A × B)
pair_at first second bytes = first bytes >>= (λ a. second a.1 >>= (λ b. Some ((a.0, b.0), b.1)))

abbrev pub parts_at : {A B : Type 0} → (A → B) → Reader A → Reader B
parts_at whole_of at bytes = at bytes >>= (λ a. Some (whole_of a.0, a.1))

abbrev pub items_at : {A : Type 0} → Reader A → ℕ → Reader (List A)
items_at item zero bytes = Some ([], bytes)
items_at item (suc n) bytes = item bytes >>= (λ x. items_at item n x.1 >>= (λ xs. Some (x.0 ∷ xs.0, xs.1)))

-- values that were found, followed by those that reading finds after them
abbrev pub with_prefix : {A : Type 0} → List A → Option (List A × List ℕ) → Option (List A × List ℕ)
with_prefix prefix None = None
with_prefix prefix (Some xs) = Some (prefix ++ xs.0, xs.1)

abbrev pub counted_at : {A : Type 0} → ℕ → ℕ → Reader A → Reader (List A)
counted_at least most item bytes = word_at bytes >>= (λ n. if nat_le least n.0 && nat_le n.0 most then items_at item n.0 n.1 else None)

unfoldable pub byte_at : Reader ℕ
byte_at [] = None
byte_at (b ∷ rest) = Some (b, rest)

-- the value with these parts, if there is one
abbrev pub some_at : {A B : Type 0} → (A → Option B) → Reader A → Reader B
some_at whole_of at bytes = at bytes >>= (λ a. whole_of a.0 >>= (λ b. Some (b, a.1)))

-- a value that is there
abbrev pub present_at : {A : Type 0} → Reader A → Reader (Option A)
present_at {A} at bytes = parts_at (λ (x : A). Some x) at bytes

abbrev pub follow_at : {A B : Type 0} → Reader A → (A → Reader B) → Reader (A × B)
follow_at first second bytes = first bytes >>= (λ a. second a.0 a.1 >>= (λ b. Some ((a.0, b.0), b.1)))
