-- The lines of Prometheus' text format, version 0.0.4.
use Rattle.std.specs.Prelude.{ℕ, ◌-◌, ◌^◌, List, [], ◌++◌, codes, decimal, min}

-- the lines before a metric
unfoldable pub head : List ℕ → List ℕ → List ℕ → List ℕ
head name kind help = codes "# HELP " ++ name ++ codes " " ++ help ++ codes "\n# TYPE " ++ name ++ codes " " ++ kind ++ codes "\n"

-- a value, with labels between braces, or without any
unfoldable pub value_line : List ℕ → List ℕ → ℕ → List ℕ
value_line name labels value = name ++ labels ++ codes " " ++ decimal value ++ codes "\n"

-- a metric of one value
unfoldable pub metric : List ℕ → List ℕ → List ℕ → ℕ → List ℕ
metric name kind help value = head name kind help ++ value_line name [] value

-- a count is a number of 64 bits: one without room for more is the largest of these
abbrev pub capped : ℕ → ℕ
capped n = min n (2 ^ 64 - 1)
