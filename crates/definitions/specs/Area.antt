-- The layout of an area: a gate, a head, and records, each preceded by its own gate.
--
-- A gate is one byte: 0xA5 is open, any other value is closed. Numbers are big-endian. The bytes after the first closed gate of a record
-- are ignored.
use Rattle.std.specs.Prelude.{◌≡◌, ◌≢◌, ℕ, ◌<◌, ◌^◌, List, [], ◌∷◌, ◌++◌, length}
use Rattle.std.specs.List.{AllByRecursion}
use Rattle.std.specs.Int.{to_be_bytes, w32, w64}

-- what follows an area's gate: a version of one byte, a generation and a text
pub record Head : Type 0 where
  pub version : ℕ
  pub generation : ℕ
  pub text : List ℕ

-- the encoded head; the length of the text precedes the text
abbrev pub head_bytes : Head → List ℕ
head_bytes head = head.version ∷ to_be_bytes w64 head.generation ++ to_be_bytes w64 (length head.text) ++ head.text

-- a length-prefixed body
abbrev pub framed : List ℕ → List ℕ
framed body = to_be_bytes w32 (length body) ++ body

-- records with these bodies, each preceded by an open gate
abbrev pub record_bytes : List (List ℕ) → List ℕ
record_bytes [] = []
record_bytes (body ∷ bodies) = 0xA5 ∷ framed body ++ record_bytes bodies

-- an area up to the first closed gate
abbrev pub opened : Head → List (List ℕ) → List ℕ
opened head bodies = 0xA5 ∷ head_bytes head ++ record_bytes bodies

-- a closed gate, followed by any bytes
abbrev pub IsClosed : List ℕ → Type 0
IsClosed [] = ⊥
IsClosed (gate ∷ rest) = gate ≢ 0xA5

-- the generation and the lengths fit their fields
pub record Fits (head : Head) (bodies : List (List ℕ)) : Type 0 where
  pub generation : head.generation < 2 ^ 64
  pub text : length head.text < 2 ^ 64
  pub each : AllByRecursion (λ body. length body < 2 ^ 32) bodies

-- The area reads as this head and these bodies.
pub record Reads (area : List ℕ) (head : Head) (bodies : List (List ℕ)) : Type 0 where
  pub rest : List ℕ
  pub split : area ≡ opened head bodies ++ rest
  pub closed : IsClosed rest
  pub fits : Fits head bodies

-- It would read so if its own gate were open.
abbrev pub WouldRead : List ℕ → Head → List (List ℕ) → Type 0
WouldRead [] head bodies = ⊥
WouldRead (gate ∷ suffix) head bodies = Reads (0xA5 ∷ suffix) head bodies

-- The area reads as nothing: the gate is closed, or a length, a body or a text passes the area's end or leaves no byte for the next gate.
abbrev pub ReadsNothing : List ℕ → Type 0
ReadsNothing area = (head : Head) (bodies : List (List ℕ)) → Reads area head bodies → ⊥
