-- Adding a job to the index.
use Rattle.std.proofs.Common.{◌≡◌, ◌≢◌, ℕ, ◌+◌, ◌<◌, List, Option, None, Some, true, false, cond, length, get_or, take, sym, ap, refl, ◌∙◌}
use Rattle.std.proofs.Common.{⊎_elim, arith}
use Rattle.std.specs.Str.{bytes_eq}
use Rattle.std.proofs.lemmas.Bool.{cases_eq, true≢false}
use Rattle.std.proofs.lemmas.List.{get_or-take, get_or_default, length-take-le}
use Rattle.std.proofs.lemmas.Slice.Eq.{bytes_eq-Decides}
use Rattle.needs_graph.specs.inner.Lookup.{Finds}
use Rattle.definitions.specs.Rising.{JobNeeds}

-- the job at an index of a prefix
at_index : (jobs : List JobNeeds) (n index : ℕ) (d e : JobNeeds) → index < n → index < length jobs
    → get_or (take n jobs) index d ≡ get_or jobs index e
at_index jobs n index d e before within = get_or-take n jobs index d before ∙ get_or_default jobs index d e within

found_here : (jobs : List JobNeeds) (i : ℕ) (job : JobNeeds) (id : List ℕ) → i < length jobs → job ≡ get_or jobs i job → job.id ≡ id
    → Finds (take (i + 1) jobs) id (Some i)
found_here jobs i job id below is_job same =
    let wide : length (take (i + 1) jobs) ≡ i + 1 = length-take-le (i + 1) jobs (omega arith) in
    (omega arith, λ d. ap (λ j. j.id) (at_index jobs (i + 1) i d job (omega arith) below ∙ sym is_job) ∙ same)

found_before : (jobs : List JobNeeds) (i : ℕ) (id : List ℕ) (index : ℕ) → i < length jobs → Finds (take i jobs) id (Some index)
    → Finds (take (i + 1) jobs) id (Some index)
found_before jobs i id index below held =
    let before : length (take i jobs) ≡ i = length-take-le i jobs (omega arith) in
    let wide : length (take (i + 1) jobs) ≡ i + 1 = length-take-le (i + 1) jobs (omega arith) in
    let first = held.0 in (
      omega arith,
      λ d. ap (λ j. j.id)
          (at_index jobs (i + 1) index d d (omega arith) (omega arith) ∙ sym (at_index jobs i index d d (omega arith) (omega arith)))
          ∙ held.1 d,
    )

found_nowhere : (jobs : List JobNeeds) (i : ℕ) (job : JobNeeds) (id : List ℕ) → i < length jobs → job ≡ get_or jobs i job → job.id ≢ id
    → Finds (take i jobs) id None → Finds (take (i + 1) jobs) id None
found_nowhere jobs i job id below is_job other none =
    let before : length (take i jobs) ≡ i = length-take-le i jobs (omega arith) in
    let wide : length (take (i + 1) jobs) ≡ i + 1 = length-take-le (i + 1) jobs (omega arith) in
    λ k d within same.
    ⊎_elim
    (λ last.
    let at : get_or (take (i + 1) jobs) k d ≡ job = at_index jobs (i + 1) k d job (omega arith) (omega arith)
    ∙ (ap (λ n. get_or jobs n job) last ∙ sym is_job) in
    other (ap (λ j. j.id) (sym at) ∙ same))
    (λ apart.
    let at = at_index jobs i k d d (omega arith) (omega arith) ∙ sym (at_index jobs (i + 1) k d d (omega arith) (omega arith)) in
    none k d (omega arith) (ap (λ j. j.id) at ∙ same))
    (cases_eq k i)

-- the results for the jobs so far stay, except for the id of the next job
pub finds_more : (jobs : List JobNeeds) (i : ℕ) (job : JobNeeds) (id : List ℕ) (before : Option ℕ) → i < length jobs
    → job ≡ get_or jobs i job → Finds (take i jobs) id before → Finds (take (i + 1) jobs) id (cond (bytes_eq job.id id) (Some i) before)
finds_more jobs i job id before below is_job held =
    elim (bytes_eq job.id id)
    as (λ v. bytes_eq job.id id ≡ v → Finds (take (i + 1) jobs) id (cond v (Some i) before)) [
      | true ↦ λ e. found_here jobs i job id below is_job ((bytes_eq-Decides job.id id).0 e)
      | false ↦
          λ e.
          let other : job.id ≢ id = λ same. true≢false (sym ((bytes_eq-Decides job.id id).1 same) ∙ e) in
          elim before
          as (λ o. Finds (take i jobs) id o → Finds (take (i + 1) jobs) id o) [
            | None ↦ λ none. found_nowhere jobs i job id below is_job other none
            | Some index ↦ λ at. found_before jobs i id index below at
          ]
          held
    ]
    refl
