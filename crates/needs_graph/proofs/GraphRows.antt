-- Examples of graphs and ancestors for small workflows, computed from the definitions.
use Rattle.std.proofs.Common.{◌≡◌, ℕ, List, [], ◌∷◌, Ok, Err, codes, refl}
use Rattle.wf_value.specs.declared.refusal.Refusal.TheVariants.{Cycle}
use Rattle.needs_graph.specs.Needs.{ancestors_of, dependents_of, graph_of, needs_of, unknown_need}
use Rattle.definitions.specs.Rising.{JobNeeds}

abbrev a : List ℕ
a = codes "a"

abbrev b : List ℕ
b = codes "b"

abbrev c : List ℕ
c = codes "c"

abbrev d : List ℕ
d = codes "d"

abbrev job : List ℕ → List (List ℕ) → JobNeeds
job id needs = record { id = id; needs = needs }

no_jobs : graph_of [] ≡ Ok []
no_jobs = refl

-- a needs b, which does not exist
no_such_job : graph_of (job a (b ∷ []) ∷ []) ≡ Err unknown_need
no_such_job = refl

-- 13 comes before 14
no_such_job_first : graph_of (job a (a ∷ []) ∷ job b (c ∷ []) ∷ []) ≡ Err unknown_need
no_such_job_first = refl

each_other : graph_of (job a (b ∷ []) ∷ job b (a ∷ []) ∷ []) ≡ Err (Cycle (a ∷ b ∷ []))
each_other = refl

itself : graph_of (job a [] ∷ job b (b ∷ []) ∷ []) ≡ Err (Cycle (b ∷ []))
itself = refl

-- c needs a cycle but is not on one
beside_a_cycle : graph_of (job a (b ∷ []) ∷ job b (a ∷ []) ∷ job c (a ∷ []) ∷ []) ≡ Err (Cycle (a ∷ b ∷ []))
beside_a_cycle = refl

-- repeated names count once
repeats : graph_of (job a [] ∷ job b (a ∷ a ∷ []) ∷ []) ≡ Ok ([] ∷ (0 ∷ []) ∷ [])
repeats = refl

-- b and c need a, and d needs b and c
abbrev diamond : List JobNeeds
diamond = job a [] ∷ job b (a ∷ []) ∷ job c (a ∷ []) ∷ job d (c ∷ b ∷ []) ∷ []

diamond_needs : graph_of diamond ≡ Ok ([] ∷ (0 ∷ []) ∷ (0 ∷ []) ∷ (1 ∷ 2 ∷ []) ∷ [])
diamond_needs = refl

last_ancestors : ancestors_of (needs_of diamond) 3 ≡ 0 ∷ 1 ∷ 2 ∷ []
last_ancestors = refl

first_dependents : dependents_of (needs_of diamond) 0 ≡ 1 ∷ 2 ∷ []
first_dependents = refl
