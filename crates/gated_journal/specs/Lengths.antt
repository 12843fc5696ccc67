-- How many bytes the parts of an area and of a record have.
use Rattle.std.specs.Prelude.{ℕ}

-- ---- an area

abbrev pub gate_length : ℕ
gate_length = 1

abbrev pub version_length : ℕ
version_length = 1

abbrev pub generation_length : ℕ
generation_length = 8

-- the number that says how long the text is
abbrev pub text_number_length : ℕ
text_number_length = 8

-- what stands between the gate and the text: the version, the generation and that number
abbrev pub head_length : ℕ
head_length = 17

-- an area up to and with its generation
abbrev pub prefix_length : ℕ
prefix_length = 10

-- ---- a record

-- the number that says how long the body is, before the body
abbrev pub body_number_length : ℕ
body_number_length = 4

-- a record beside its body: that number, and the gate after the body
abbrev pub frame_length : ℕ
frame_length = 5
