-- The graph of jobs that list no needs.
use Rattle.std.specs.Prelude.{◌≡◌, ◌==◌, ℕ, zero, suc, List, [], ◌∷◌, Bool, true, false, Ok, length, map, filter, replicate, refl}
use Rattle.std.specs.List.{enumerate_from, flat_map, list_all, list_any, range_with_len}
use Rattle.std.proofs.Common.{ap, arith, nat_eq, subst, sym, ◌∙◌}
use Rattle.std.proofs.lemmas.Bool.{and_parts, false≢true}
use Rattle.std.proofs.lemmas.Bool.Decides.{nat_tests}
use Rattle.std.proofs.lemmas.Grind.{common_steps}
use Rattle.std.proofs.lemmas.List.{nil_from_length}
use Rattle.needs_graph.specs.Needs.{IsGraph, dependents_of, is_ancestor, needs_at, walk_ends, indexes}
use Rattle.definitions.specs.Rising.{JobNeeds}
use Rattle.needs_graph.specs.inner.JobSets.{is_in}
use Rattle.needs_graph.specs.Needs.{graph_of, is_job, is_listed, list_nothing, needs_of, own_ancestors}
use Rattle.needs_graph.proofs.Members.{Has-from_Contains}

-- ---- tests that nothing passes

any_fails : {X : Type 0} (test : X → Bool) → ((x : X) → test x ≡ false) → (xs : List X) → list_any test xs ≡ false
any_fails test none [] = refl
any_fails test none (x ∷ xs) = rw (none x) (any_fails test none xs)

filter_keeps_none : {X : Type 0} (test : X → Bool) → ((x : X) → test x ≡ false) → (xs : List X) → filter test xs ≡ []
filter_keeps_none test none [] = refl
filter_keeps_none test none (x ∷ xs) = rw (none x) (filter_keeps_none test none xs)

-- ---- needs of which there are none

abbrev nothing : ℕ → List (List ℕ)
nothing count = replicate count []

at_none : (count k : ℕ) → needs_at (nothing count) k ≡ []
at_none zero k = refl
at_none (suc count) zero = refl
at_none (suc count) (suc k) = at_none count k

ends_none : (count n k : ℕ) → walk_ends (nothing count) n k ≡ []
ends_none count zero k = at_none count k
ends_none count (suc n) k = ap (flat_map (walk_ends (nothing count) n)) (at_none count k)

no_ancestor : (count job other : ℕ) → is_ancestor (nothing count) job other ≡ false
no_ancestor count job other =
    any_fails (λ n. list_any (nat_eq other) (walk_ends (nothing count) n job)) (λ n. ap (list_any (nat_eq other)) (ends_none count n job))
    (range_with_len 0 (length (nothing count)))

no_dependents : (count job : ℕ) → dependents_of (nothing count) job ≡ []
no_dependents count job =
    filter_keeps_none (λ other. list_any (nat_eq job) (needs_at (nothing count) other))
    (λ other. ap (list_any (nat_eq job)) (at_none count other)) (range_with_len 0 (length (nothing count)))

-- ---- jobs that list nothing

is_nil : (needs : List (List ℕ)) → (length needs == 0) ≡ true → needs ≡ []
is_nil needs none = nil_from_length needs (grind (arith, nat_tests, none))

indexes_of : (jobs : List JobNeeds) (needs : List (List ℕ)) → (length needs == 0) ≡ true → indexes (λ other. is_listed needs other.id) jobs ≡ []
indexes_of jobs needs none =
    subst (λ (ids : List (List ℕ)). indexes (λ other. is_listed ids other.id) jobs ≡ []) (sym (is_nil needs none))
    (ap (map (λ e. e.0)) (filter_keeps_none (λ e. false) (λ e. refl) (enumerate_from 0 jobs)))

known_if_none : (jobs : List JobNeeds) (needs : List (List ℕ)) → (length needs == 0) ≡ true → list_all (is_job jobs) needs ≡ true
known_if_none jobs needs none = subst (λ (ids : List (List ℕ)). list_all (is_job jobs) ids ≡ true) (sym (is_nil needs none)) refl

all_indexes : (all jobs : List JobNeeds) → list_nothing jobs ≡ true
    → map (λ job. indexes (λ other. is_listed job.needs other.id) all) jobs ≡ nothing (length jobs)
all_indexes all [] none = refl
all_indexes all (job ∷ jobs) none =
    let parts = and_parts (length job.needs == 0) (list_nothing jobs) none in
    rw (indexes_of all job.needs parts.0, all_indexes all jobs parts.1) refl

all_known : (all jobs : List JobNeeds) → list_nothing jobs ≡ true → list_all (λ job. list_all (is_job all) job.needs) jobs ≡ true
all_known all [] none = refl
all_known all (job ∷ jobs) none =
    let parts = and_parts (length job.needs == 0) (list_nothing jobs) none in
    rw (known_if_none all job.needs parts.0) (all_known all jobs parts.1)

pub graph_of_nothing : (jobs : List JobNeeds) → list_nothing jobs ≡ true → graph_of jobs ≡ Ok (nothing (length jobs))
graph_of_nothing jobs none =
    let needs : needs_of jobs ≡ nothing (length jobs) = all_indexes jobs jobs none in
    let own : own_ancestors jobs ≡ [] =
    ap (map (λ e. e.1.id))
    (filter_keeps_none (λ e. is_ancestor (needs_of jobs) e.0 e.0)
    (λ e. ap (λ n. is_ancestor n e.0 e.0) needs ∙ no_ancestor (length jobs) e.0 e.0) (enumerate_from 0 jobs)) in
    rw (all_known jobs jobs none, own, needs) refl

pub is_graph : (count : ℕ) (needs ancestors dependents : List (List ℕ)) → nothing count ≡ needs → ancestors ≡ []
    → nothing count ≡ dependents → IsGraph needs ancestors dependents
is_graph count needs ancestors dependents of none listed = rw (sym of, none, sym listed) (record {
  within = λ job other has.
      absurd (false≢true (sym (ap (list_any (nat_eq other)) (at_none count job)) ∙ Has-from_Contains (needs_at (nothing count) job) other has));
  acyclic = λ job. no_ancestor count job job;
  reached = λ job other. not_in other ∙ sym (no_ancestor count job other);
  as_many = refl;
  needed = λ job below. at_none count job ∙ sym (no_dependents count job);
})
  where
    not_in : (other : ℕ) → is_in [] other ≡ false
    not_in other = grind (arith, common_steps)
