-- How often each name comes in a list of names. The first names have a count each, and all others one together.
use Rattle.std.specs.Prelude.{◌≡◌, ℕ, List, Bool, map, not, take}
use Rattle.std.specs.List.{count_by, list_any}
use Rattle.std.specs.Str.{bytes_eq}
use Rattle.table_views.specs.Distinct.{distinct}
use Rattle.table_views.specs.MetricLines.{capped}
use Rattle.table_views.specs.declared.named_counts.NamedCount.{NamedCount}
use Rattle.table_views.specs.declared.named_counts.NamedCounts.{NamedCounts}

-- how many names have a count of their own. A decision of this project.
abbrev pub most_named : ℕ
most_named = 50

-- the names that have one, in the order in which they first come
abbrev pub named : List (List ℕ) → List (List ℕ)
named names = take most_named (distinct bytes_eq names)

-- how often a name comes
abbrev pub times : List (List ℕ) → List ℕ → ℕ
times names name = capped (count_by (bytes_eq name) names)

abbrev pub is_named : List (List ℕ) → List ℕ → Bool
is_named names name = list_any (bytes_eq name) (named names)

-- how often the others come
abbrev pub others : List (List ℕ) → ℕ
others names = capped (count_by (λ name. not (is_named names name)) names)

abbrev pub counted : List (List ℕ) → List ℕ → NamedCount
counted names name = record { name = name; count = times names name }

-- these are the counts of these names
pub record AreCounts (names : List (List ℕ)) (counts : NamedCounts) : Type 0 where
  pub each : counts.named.items ≡ map (counted names) (named names)
  pub other : counts.other ≡ others names
