-- The areas that read as nothing: the gate is closed, or a text, a body or a length passes the end, or no byte is left for the next gate.
use Rattle.std.specs.Prelude.{◌≡◌, ◌⊎◌, ℕ, ◌+◌, ◌<◌, List, ◌∷◌, ◌++◌, length, take, drop}
use Rattle.std.specs.Int.{from_be_bytes, w32, w64}
use Rattle.definitions.specs.Area.{Head, opened, IsClosed, Fits}
use Rattle.gated_journal.specs.Lengths.{body_number_length, generation_length, head_length, text_number_length, version_length}
use Rattle.gated_journal.specs.Scanned.{Parts}

-- the bytes end before the four-byte number at their start, or before as many bytes after it as it says
abbrev pub EndsInBody : List ℕ → Type 0
EndsInBody bytes = length bytes < body_number_length + from_be_bytes w32 (take body_number_length bytes)

-- The bytes end before the text does. The length of the text follows the version and the generation.
abbrev pub EndsInHead : List ℕ → Type 0
EndsInHead bytes = length bytes < head_length + from_be_bytes w64 (take text_number_length (drop (version_length + generation_length) bytes))

-- after an open gate, if there is one here, the bytes end inside a body
abbrev pub HasNoRecord : List ℕ → Type 0
HasNoRecord bytes = (suffix : List ℕ) → bytes ≡ 0xA5 ∷ suffix → EndsInBody suffix

-- the same for a head
abbrev pub HasNoHead : List ℕ → Type 0
HasNoHead bytes = (suffix : List ℕ) → bytes ≡ 0xA5 ∷ suffix → EndsInHead suffix

-- Some open records come first. What follows is neither a whole record nor a closed gate.
pub record EndsInRecords (bytes : List ℕ) : Type 0 where
  pub bodies : List (List ℕ)
  pub rest : List ℕ
  pub parts : Parts bytes bodies rest
  pub no_record : HasNoRecord rest
  pub no_gate : IsClosed rest → ⊥

-- A head comes first, followed by records that end this way.
pub record IsCutOff (area : List ℕ) : Type 0 where
  pub head : Head
  pub bodies : List (List ℕ)
  pub rest : List ℕ
  pub split : area ≡ opened head bodies ++ rest
  pub fits : Fits head bodies
  pub no_record : HasNoRecord rest
  pub no_gate : IsClosed rest → ⊥

abbrev pub EncodesNothing : List ℕ → Type 0
EncodesNothing area = HasNoHead area ⊎ IsCutOff area
