-- Sets of jobs as flags: one for each job, in order.
use Rattle.std.specs.Prelude.{ℕ, zero, suc, List, [], ◌∷◌, Bool, false, ◌||◌, map, if◌then◌else◌}
use Rattle.std.specs.List.{slice_index_or}
use Rattle.needs_graph.specs.Needs.{indexes}

abbrev pub is_marked : List Bool → ℕ → Bool
is_marked marks job = slice_index_or marks job false

-- the jobs of a set, in order
abbrev pub marked : List Bool → List ℕ
marked marks = indexes (λ mark. mark) marks

-- the union of two sets, with the length of the first
abbrev pub either : List Bool → List Bool → List Bool
either [] others = []
either (mark ∷ marks) [] = mark ∷ marks
either (mark ∷ marks) (other ∷ others) = (mark || other) ∷ either marks others

-- the set, with the others added if it contains the job
abbrev pub through : ℕ → List Bool → List Bool → List Bool
through job others marks = if is_marked marks job then either marks others else marks

-- for each job the jobs that it reaches, where a path may also pass through the given job
abbrev pub passed : ℕ → List (List Bool) → List (List Bool)
passed job rows = map (through job (slice_index_or rows job [])) rows

-- for each job the jobs that it reaches by paths through the first jobs only
abbrev pub closed : ℕ → List (List Bool) → List (List Bool)
closed zero rows = rows
closed (suc job) rows = passed job (closed job rows)
