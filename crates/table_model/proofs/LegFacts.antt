-- The facts of a leg: its flag follows from them, and they do not change once the needs of its job have finished.
use Rattle.std.specs.Prelude.{◌≡◌, ℕ, List, [], ◌∷◌, filter_map, Bool, true, false, is_some, Option}
use Rattle.std.specs.Prelude.{Some, None, option_map, option_and_then, slice_get, refl}
use Rattle.std.specs.Fmt.{decimal}
use Rattle.std.specs.List.{cons_option, slice_index_or}
use Rattle.std.specs.Option.{option_map_or}
use Rattle.std.proofs.Common.{ap, sym, ◌∙◌}
use Rattle.std.proofs.lemmas.Bool.{and_parts}
use Rattle.std.proofs.lemmas.Option.{same_Some}
use Rattle.wf_value.specs.declared.outcome.JobResult.{JobResult}
use Rattle.needs_graph.specs.Needs.{needs_at, gathered}
use Rattle.needs_graph.specs.declared.ended.LegEnd.{LegEnd}
use Rattle.definitions.specs.SmallText.{Admitted}
use Rattle.run_plan.specs.PlanOf.{plan_graph, plan_of}
use Rattle.run_plan.specs.declared.planned.PlannedJob.{PlannedJob}
use Rattle.table_model.specs.Runs.{placed, direct_needs, needs_in, results_so_far, with_result, plan_at, run_at}
use Rattle.table_model.specs.LegContext.{LegFacts, context_of, context_at, facts_at, nothing}
use Rattle.table_model.specs.declared.sites.LegSite.{LegSite}
use Rattle.table_model.specs.Settling.{leg_end, outcome_of, result_at}
use Rattle.table_model.specs.Runs.{LegState, JobState, RunState}
use Rattle.table_model.specs.LegContext.{all_have_results, is_set_for, needs_have_finished, continues_on_error}
use Rattle.table_model.proofs.Identity.{Identity, identity_at, identity_in, identity_of}
use Rattle.table_model.proofs.NeedsSettled.{KeepsResults, result_of_job}

-- the facts of a leg, from its run's identity and attempt, and the needs of its job
abbrev leg_facts_of : LegSite → Identity → ℕ → List (List ℕ × Option JobResult) → PlannedJob → LegFacts
leg_facts_of p run attempt needs job = record {
  event = run.admitted;
  run_id = decimal run.id;
  run_number = decimal run.number;
  run_attempt = decimal attempt;
  job = job;
  leg = p.leg;
  needs = needs;
}

abbrev leg_facts : LegSite → Identity → ℕ → List (List ℕ × Option JobResult) → Option LegFacts
leg_facts p run attempt needs = option_map (leg_facts_of p run attempt needs) (slice_get (plan_of run.admitted.body) p.job)

abbrev pub leg_facts_in : LegSite → RunState → Option LegFacts
leg_facts_in p run = leg_facts p (identity_of run) run.attempt (direct_needs run p.job)

pub facts_are : (runs : List RunState) (p : LegSite) → facts_at runs p ≡ option_and_then (leg_facts_in p) (run_at runs p.run)
unfolding facts_at
facts_are runs p = refl

-- ---- if a leg has facts, its job is planned

job_told : (p : LegSite) (run : Identity) (attempt : ℕ) (needs : List (List ℕ × Option JobResult)) (o : Option PlannedJob)
    → o ≡ option_map (λ (f : LegFacts). f.job) (option_map (leg_facts_of p run attempt needs) o)
job_told p run attempt needs None = refl
job_told p run attempt needs (Some job) = refl

plan_in : (p : LegSite) (o : Option RunState)
    → option_and_then (λ run. slice_get (plan_of run.admitted.body) p.job) o ≡ option_map (λ f. f.job) (option_and_then (leg_facts_in p) o)
plan_in p None = refl
plan_in p (Some run) = job_told p (identity_of run) run.attempt (direct_needs run p.job) (slice_get (plan_of run.admitted.body) p.job)

pub plan_of_facts : (runs : List RunState) (p : LegSite) → plan_at runs p.run p.job ≡ option_map (λ f. f.job) (facts_at runs p)
plan_of_facts runs p = plan_in p (run_at runs p.run) ∙ ap (option_map (λ (f : LegFacts). f.job)) (sym (facts_are runs p))

-- ---- whether a failure of the leg is ignored

abbrev pub passes_in : LegFacts → Bool
passes_in f = is_set_for (context_of f) f.job f.leg

passes_by : (p : LegSite) (run : Identity) (attempt : ℕ) (needs : List (List ℕ × Option JobResult)) (o : Option PlannedJob)
    → option_map_or (λ planned. is_set_for (option_map_or context_of (option_map (leg_facts_of p run attempt needs) o) nothing) planned p.leg) o false
    ≡ option_map_or passes_in (option_map (leg_facts_of p run attempt needs) o) false
passes_by p run attempt needs None = refl
passes_by p run attempt needs (Some job) = refl

passes_of_run : (p : LegSite) (o : Option RunState)
    → option_map_or (λ planned. is_set_for (option_map_or context_of (option_and_then (leg_facts_in p) o) nothing) planned p.leg)
    (option_and_then (λ run. slice_get (plan_of run.admitted.body) p.job) o) false
    ≡ option_map_or passes_in (option_and_then (leg_facts_in p) o) false
passes_of_run p None = refl
passes_of_run p (Some run) =
    passes_by p (identity_of run) run.attempt (direct_needs run p.job) (slice_get (plan_of run.admitted.body) p.job)

pub passes_told : (runs : List RunState) (p : LegSite) → continues_on_error runs p ≡ option_map_or passes_in (facts_at runs p) false
unfolding context_at
passes_told runs p =
    let leg_facts = facts_are runs p in
    ap (λ o. option_map_or (λ planned. is_set_for (option_map_or context_of o nothing) planned p.leg) (plan_at runs p.run p.job) false) leg_facts
    ∙ passes_of_run p (run_at runs p.run)
    ∙ ap (λ o. option_map_or passes_in o false) (sym leg_facts)

-- ---- the needs of a job, once they have finished

-- each job that had a result still has it
abbrev KeepResults : List (Option JobResult) → List (Option JobResult) → Type 0
KeepResults before after = (k : ℕ) (r : JobResult) → slice_index_or before k None ≡ Some r → slice_index_or after k None ≡ Some r

pub result_kept : (o u : Option JobResult) → is_some o ≡ true → ((r : JobResult) → o ≡ Some r → u ≡ Some r) → u ≡ o
result_kept None u some kept = cc
result_kept (Some r) u some kept = kept r refl

each_kept : (plan : List PlannedJob) (before after : List (Option JobResult)) (indexes : List ℕ) → all_have_results before indexes ≡ true
    → KeepResults before after → filter_map (with_result plan after) indexes ≡ filter_map (with_result plan before) indexes
each_kept plan before after [] settled kept = refl
each_kept plan before after (k ∷ indexes) settled kept =
    let parts = and_parts (is_some (slice_index_or before k None)) (all_have_results before indexes) settled in
    let same = result_kept (slice_index_or before k None) (slice_index_or after k None) parts.0 (λ r e. kept k r e) in
    ap (λ o. cons_option (option_map (λ (planned : PlannedJob). (planned.id, o)) (slice_get plan k))
    (filter_map (with_result plan after) indexes)) same
    ∙ ap (cons_option (with_result plan before k)) (each_kept plan before after indexes parts.1 kept)

needs_kept : (x y : RunState) (j : ℕ) → y.admitted ≡ x.admitted → all_have_results (results_so_far x.jobs) (needs_at (needs_in x) j) ≡ true
    → KeepResults (results_so_far x.jobs) (results_so_far y.jobs) → direct_needs y j ≡ direct_needs x j
unfolding direct_needs
needs_kept x y j same settled kept =
    ap (λ (a : Admitted). filter_map (with_result (plan_of a.body) (results_so_far y.jobs)) (needs_at (plan_graph (plan_of a.body)) j)) same
    ∙ each_kept (plan_of x.admitted.body) (results_so_far x.jobs) (results_so_far y.jobs) (needs_at (needs_in x) j) settled kept

-- ---- the facts of a leg once the needs of its job have finished

abbrev attempt_in : Option RunState → Option ℕ
attempt_in o = option_map (λ run. run.attempt) o

abbrev pub attempt_at : List RunState → ℕ → Option ℕ
attempt_at runs r = attempt_in (run_at runs r)

nobody : (x : Identity) → Some x ≡ None → ⊥
nobody x e = cc

leg_facts_same : (p : LegSite) (o u : Option RunState) → identity_in u ≡ identity_in o → attempt_in u ≡ attempt_in o
    → all_have_results (option_map_or (λ run. results_so_far run.jobs) o []) (needs_at (option_map_or needs_in o []) p.job) ≡ true
    → KeepResults (option_map_or (λ run. results_so_far run.jobs) o []) (option_map_or (λ run. results_so_far run.jobs) u [])
    → option_and_then (leg_facts_in p) u ≡ option_and_then (leg_facts_in p) o
leg_facts_same p None None same attempt settled kept = refl
leg_facts_same p None (Some y) same attempt settled kept = absurd (nobody (identity_of y) same)
leg_facts_same p (Some x) None same attempt settled kept = absurd (nobody (identity_of x) (sym same))
leg_facts_same p (Some x) (Some y) same attempt settled kept =
    let run : identity_of y ≡ identity_of x = same_Some (identity_of y) (identity_of x) same in
    ap (λ i. leg_facts p i y.attempt (direct_needs y p.job)) run
    ∙ ap (λ n. leg_facts p (identity_of x) n (direct_needs y p.job)) (same_Some y.attempt x.attempt attempt)
    ∙ ap (leg_facts p (identity_of x) x.attempt) (needs_kept x y p.job (ap (λ (i : Identity). i.admitted) run) settled kept)

-- The facts of a leg do not change once the needs of its job have finished, as long as these keep their results.
pub facts_stay : (runs next : List RunState) (p : LegSite) → identity_at next p.run ≡ identity_at runs p.run
    → attempt_at next p.run ≡ attempt_at runs p.run → needs_have_finished runs p.run p.job ≡ true → KeepsResults runs next p.run
    → facts_at next p ≡ facts_at runs p
facts_stay runs next p same attempt settled kept =
    facts_are next p
    ∙ leg_facts_same p (run_at runs p.run) (run_at next p.run) same attempt settled
    (λ k r e. result_of_job next p.run k ∙ kept k r (sym (result_of_job runs p.run k) ∙ e))
    ∙ sym (facts_are runs p)

passes_stay : (runs next : List RunState) (p : LegSite) → identity_at next p.run ≡ identity_at runs p.run
    → attempt_at next p.run ≡ attempt_at runs p.run → needs_have_finished runs p.run p.job ≡ true → KeepsResults runs next p.run
    → continues_on_error next p ≡ continues_on_error runs p
passes_stay runs next p same attempt settled kept =
    passes_told next p
    ∙ ap (λ o. option_map_or passes_in o false) (facts_stay runs next p same attempt settled kept)
    ∙ sym (passes_told runs p)

-- ---- a job's result

ends_same : (f g : ℕ × LegState → Option LegEnd) (xs : List (ℕ × LegState)) → ((x : ℕ × LegState) → f x ≡ g x)
    → filter_map f xs ≡ filter_map g xs
ends_same f g [] same = refl
ends_same f g (x ∷ xs) same =
    ap (λ o. cons_option o (filter_map f xs)) (same x) ∙ ap (cons_option (g x)) (ends_same f g xs same)

result_of_legs : (runs next : List RunState) (r j : ℕ) (legs : List LegState) → identity_at next r ≡ identity_at runs r
    → attempt_at next r ≡ attempt_at runs r
    → ((legs ≡ [] → ⊥) → needs_have_finished runs r j ≡ true) → KeepsResults runs next r
    → gathered (filter_map (leg_end next r j) (placed legs)) ≡ gathered (filter_map (leg_end runs r j) (placed legs))
result_of_legs runs next r j [] same attempt first kept = refl
result_of_legs runs next r j (x ∷ legs) same attempt first kept =
    let settled = first (λ e. cc) in
    ap gathered (ends_same (leg_end next r j) (leg_end runs r j) (placed (x ∷ legs))
    (λ l. ap (λ b. option_map (λ o. record { outcome = o; continue_on_error = b }) (outcome_of l.1.phase))
    (passes_stay runs next (record { run = r; job = j; leg = l.0 }) same attempt settled kept)))

-- the result of a job from its legs, if its needs have finished whenever it has legs
pub result_stays : (runs next : List RunState) (r j : ℕ) (y : JobState) → identity_at next r ≡ identity_at runs r
    → attempt_at next r ≡ attempt_at runs r
    → ((y.legs ≡ [] → ⊥) → needs_have_finished runs r j ≡ true) → KeepsResults runs next r
    → result_at next r j y ≡ result_at runs r j y
result_stays runs next r j y same attempt first kept = result_of_legs runs next r j y.legs same attempt first kept
