-- The fields of a line, separated by single spaces.
use Rattle.std.specs.Prelude.{ℕ, ◌+◌, List, take, drop, Option, option_map, option_and_then}
use Rattle.std.specs.List.{position}
use Rattle.wf_reader.specs.Job.{is_space}

-- the text before the first space, and the text after it
abbrev pub at_space : List ℕ → Option (List ℕ × List ℕ)
at_space text = option_map (λ n. (take n text, drop (n + 1) text)) (position is_space text)

-- the first two fields, and the text after the second space
abbrev pub three_fields : List ℕ → Option (List ℕ × List ℕ × List ℕ)
three_fields text = option_and_then (λ a. option_map (λ b. (a.0, b.0, b.1)) (at_space a.1)) (at_space text)
