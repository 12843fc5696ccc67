-- After the rule at the first site where one applies, no rule applies before the site where settling resumes.
use Rattle.std.specs.Prelude.{◌≡◌, ◌⊎◌, ℕ, zero, suc, ◌+◌, ◌<◌, ◌≤◌, ◌&&◌, min, List, [], ◌∷◌, Bool, true, false, length, nat_eq}
use Rattle.std.specs.Prelude.{is_some}
use Rattle.std.specs.Prelude.{Option, Some, None, IfSome, option_map, option_and_then, slice_get, filter, if◌then◌else◌, refl}
use Rattle.std.specs.List.{AllByRecursion, list_any, range_with_len, slice_index_or}
use Rattle.std.specs.Option.{option_map_or, option_or}
use Rattle.std.proofs.Common.{arith, ap, sym, ◌∙◌, inl, inr, subst}
use Rattle.std.proofs.lemmas.Bool.{and_from, and_parts, cases_eq, cases_lt, eqb-false, or_parts}
use Rattle.std.proofs.lemmas.List.{get_or_past}
use Rattle.wf_value.specs.declared.outcome.JobResult.{JobResult}
use Rattle.wf_value.proofs.OptionOr.{or_nothing}
use Rattle.needs_graph.specs.Needs.{dependents_of, needs_at}
use Rattle.table_model.specs.Runs.{changed_at, first_some, placed, needs_in, results_so_far, finished_result, leg_at, run_at}
use Rattle.table_model.specs.Groups.{leg_waits, run_waits}
use Rattle.table_model.specs.inner.Resuming.{NoneBefore, RestBefore, may_invalidate_others, has_finished, job_again, resume_point, resume_near}
use Rattle.table_model.specs.GroupLaw.{Transition}
use Rattle.table_model.specs.Settling.{rule_at, first_site}
use Rattle.table_model.specs.Runs.{LegState, JobState, RunState, is_blocked, is_done, is_live}
use Rattle.table_model.specs.inner.WithinRun.{first_in_job, first_in_jobs, first_in_run, first_of_legs, first_of_open, first_of_whole, goes_on}
use Rattle.table_model.specs.inner.WithinRun.{goes_on_in, whole_goes_on_in, leg_site, needs_finished_in}
use Rattle.table_model.specs.LegContext.{all_have_results}
use Rattle.table_model.specs.declared.phases.LegPhase.{LegPhase}
use Rattle.table_model.specs.declared.phases.LegPhase.TheVariants as leg
use Rattle.table_model.specs.declared.phases.RunPhase.{RunPhase}
use Rattle.table_model.specs.declared.phases.RunPhase.TheVariants as run
use Rattle.table_model.specs.declared.sites.RuleSite.{RuleSite}
use Rattle.table_model.specs.declared.sites.RuleSite.TheVariants.{Opening, AtLeg, Closing, Whole}
use Rattle.table_model.proofs.Changed.{at_another, at_changed}
use Rattle.table_model.proofs.Found.{all_weaken, placed_get}
use Rattle.table_model.proofs.NeedsSettled.{result_among}
use Rattle.table_model.proofs.Optional.{from_and_then, if_none, if_some}
use Rattle.table_model.proofs.RunFits.{RunsFit, job_in_run, leg_in_job}
use Rattle.settling_laws.proofs.Firsts.{first_at}
use Rattle.settling_laws.proofs.KeptBack.{KeepsBack, KeepsBackIn}
use Rattle.settling_laws.proofs.OneEach.{one_that_waits}
use Rattle.settling_laws.proofs.QuietRules.{IsAt, quiet_at_job, quiet_in_run, quiet_keeps_back}
use Rattle.settling_laws.proofs.Walks.{first_place_by_run}
use Rattle.table_model.specs.declared.holder.Holder.TheVariants.{Run, Leg}

-- ---- the run and the job of the first site

at_end : (r j : ℕ) (done : Bool) (p : RuleSite) → (if done then Some (Closing r j) else None) ≡ Some p → IsAt r j p
at_end r j true p e = let is : Closing r j ≡ p = cc in subst (IsAt r j) is (refl, refl)
at_end r j false p e = cc

leg_is_at : (runs : List RunState) (r j : ℕ) (legs : List LegState) (p : RuleSite) → first_of_legs runs r j legs ≡ Some p → IsAt r j p
leg_is_at runs r j legs p e =
    let test : ℕ → LegState → Option RuleSite = λ l z. if goes_on runs (leg_site r j l) z then Some (AtLeg (leg_site r j l)) else None in
    let first = first_at test legs p e in
    let from = from_and_then (test first.at) (slice_get legs first.at) p first.here in
    let taken = if_some (goes_on runs (leg_site r j first.at) from.value) (AtLeg (leg_site r j first.at)) p from.gives in
    subst (IsAt r j) taken.1 (refl, refl)

open_is_at : (runs : List RunState) (r j : ℕ) (y : JobState) (p : RuleSite) → first_of_open runs r j y ≡ Some p → IsAt r j p
open_is_at runs r j y p e =
    elim (first_of_legs runs r j y.legs) as
    (λ o. first_of_legs runs r j y.legs ≡ o → option_or o (if is_done y then Some (Closing r j) else None) ≡ Some p → IsAt r j p) [
      | None ↦ λ is e. at_end r j (is_done y) p e
      | Some q ↦ λ is e. leg_is_at runs r j y.legs p (is ∙ e)
    ] refl e

at_the_job : (r j : ℕ) (opens : Bool) (later : Option RuleSite) (p : RuleSite) → (later ≡ Some p → IsAt r j p)
    → (if opens then Some (Opening r j) else later) ≡ Some p → IsAt r j p
at_the_job r j true later p other e = let is : Opening r j ≡ p = cc in subst (IsAt r j) is (refl, refl)
at_the_job r j false later p other e = other e

first_is_at : (runs : List RunState) (r : ℕ) (x : RunState) (j : ℕ) (y : JobState) (p : RuleSite) → first_in_job runs r x j y ≡ Some p
    → IsAt r j p
first_is_at runs r x j y p e =
    at_the_job r j (is_blocked y.phase && needs_finished_in x j) (first_of_open runs r j y) p (open_is_at runs r j y p) e

-- the first site, if it is in a job or is the run itself
record FoundInJob (runs : List RunState) (r : ℕ) (x : RunState) (p : RuleSite) : Type 0 where
  job : ℕ
  is_at : IsAt r job p
  before : NoneBefore (first_in_job runs r x) x.jobs job

abbrev FoundIn : List RunState → ℕ → RunState → RuleSite → Type 0
FoundIn runs r x p = FoundInJob runs r x p ⊎ (p ≡ Whole r)

whole_found : (r : ℕ) (due : Bool) (p : RuleSite) → (if due then Some (Whole r) else None) ≡ Some p → p ≡ Whole r
whole_found r true p e = cc
whole_found r false p e = cc

job_found : (runs : List RunState) (r : ℕ) (x : RunState) (p : RuleSite) → first_in_jobs runs r x x.jobs ≡ Some p → FoundInJob runs r x p
job_found runs r x p e =
    let first = first_at (first_in_job runs r x) x.jobs p e in
    let from = from_and_then (first_in_job runs r x first.at) (slice_get x.jobs first.at) p first.here in
    record { job = first.at; is_at = first_is_at runs r x first.at from.value p from.gives; before = first.before }

found_in : (runs : List RunState) (r : ℕ) (x : RunState) (p : RuleSite) (live : Bool)
    → option_or (if live then first_in_jobs runs r x x.jobs else None) (first_of_whole runs r x) ≡ Some p → FoundIn runs r x p
found_in runs r x p true e =
    elim (first_in_jobs runs r x x.jobs) as
    (λ o. first_in_jobs runs r x x.jobs ≡ o → option_or o (first_of_whole runs r x) ≡ Some p → FoundIn runs r x p) [
      | None ↦ λ is e. inr (whole_found r (whole_goes_on_in x.phase runs r x) p e)
      | Some q ↦ λ is e. inl (job_found runs r x p (is ∙ e))
    ] refl e
found_in runs r x p false e = inr (whole_found r (whole_goes_on_in x.phase runs r x) p e)

record Found (runs : List RunState) (p : RuleSite) : Type 0 where
  run : ℕ
  before : NoneBefore (first_in_run runs) runs run
  state : RunState
  was : run_at runs run ≡ Some state
  found : FoundIn runs run state p

place_found : (runs : List RunState) (p : RuleSite) → first_site runs ≡ Some p → Found runs p
place_found runs p e =
    let first = first_at (first_in_run runs) runs p (sym (first_place_by_run runs) ∙ e) in
    let from = from_and_then (first_in_run runs first.at) (slice_get runs first.at) p first.here in
    record {
      run = first.at;
      before = first.before;
      state = from.value;
      was = from.is;
      found = found_in runs first.at from.value p (is_live from.value.phase) from.gives;
    }

-- ---- whose needs may have finished by a change of one job

-- the same results, except that of job `j`
abbrev SameBut : ℕ → List (Option JobResult) → List (Option JobResult) → Type 0
SameBut j news olds = (i : ℕ) → (i ≡ j → ⊥) → slice_index_or news i None ≡ slice_index_or olds i None

-- a job that does not need it
had_all : (j : ℕ) (news olds : List (Option JobResult)) → SameBut j news olds → (indexes : List ℕ) → list_any (nat_eq j) indexes ≡ false
    → all_have_results news indexes ≡ true → all_have_results olds indexes ≡ true
had_all j news olds same [] apart have = refl
had_all j news olds same (p ∷ ps) apart have =
    let not_it = or_parts (nat_eq j p) (list_any (nat_eq j) ps) apart in
    let had = and_parts (is_some (slice_index_or news p None)) (all_have_results news ps) have in
    and_from (is_some (slice_index_or olds p None)) (all_have_results olds ps)
    (ap is_some (sym (same p (λ e. eqb-false j p not_it.0 (sym e)))) ∙ had.0) (had_all j news olds same ps not_it.1 had.1)

no_result : (news : List (Option JobResult)) (j p : ℕ) → p ≡ j → is_some (slice_index_or news j None) ≡ false
    → is_some (slice_index_or news p None) ≡ true → ⊥
no_result news j p e none some = let is : true ≡ false = sym some ∙ ap (λ i. is_some (slice_index_or news i None)) e ∙ none in cc

-- or it has no result
had_without : (j : ℕ) (news olds : List (Option JobResult)) → SameBut j news olds → is_some (slice_index_or news j None) ≡ false
    → (indexes : List ℕ) → all_have_results news indexes ≡ true → all_have_results olds indexes ≡ true
had_without j news olds same none [] have = refl
had_without j news olds same none (p ∷ ps) have =
    let had = and_parts (is_some (slice_index_or news p None)) (all_have_results news ps) have in
    and_from (is_some (slice_index_or olds p None)) (all_have_results olds ps)
    (ap is_some (sym (same p (λ e. no_result news j p e none had.0))) ∙ had.0) (had_without j news olds same none ps had.1)

-- ---- the first job that needs it

kept_first : (test : ℕ → Bool) (n a k : ℕ) → a ≤ k → k < a + n
    → IfSome (slice_get (filter test (range_with_len a n)) 0) (λ d. k < d) → test k ≡ false
kept_first test zero a k low high first = absurd (omega arith)
kept_first test (suc n) a k low high first =
    elim (test a) as
    (λ b. test a ≡ b
    → IfSome (slice_get (if b then a ∷ filter test (range_with_len (a + 1) n) else filter test (range_with_len (a + 1) n)) 0) (λ d. k < d)
    → test k ≡ false) [
      | true ↦ λ is first. absurd (omega (arith, first, low))
      | false ↦ λ is first.
          elim (cases_eq k a) [
            | inl e ↦ ap test e ∙ is
            | inr apart ↦ kept_first test n (a + 1) k (omega (arith, apart, low)) (omega arith) first
          ]
    ] refl first

none_past : (needs : List (List ℕ)) (j k : ℕ) → length needs ≤ k → list_any (nat_eq j) (needs_at needs k) ≡ false
none_past needs j k past = ap (list_any (nat_eq j)) (get_or_past needs k [] past)

-- no job before that one needs the job
not_needed : (needs : List (List ℕ)) (j k : ℕ) → IfSome (slice_get (dependents_of needs j) 0) (λ d. k < d)
    → list_any (nat_eq j) (needs_at needs k) ≡ false
not_needed needs j k first =
    elim (cases_lt k (length needs)) [
      | inl within ↦
          kept_first (λ other. list_any (nat_eq j) (needs_at needs other)) (length needs) 0 k (omega arith) (omega (arith, within)) first
      | inr past ↦ none_past needs j k past
    ]

before_first : (j k : ℕ) (first : Option ℕ) → k < option_map_or (min j) first j → (k < j) × IfSome first (λ d. k < d)
before_first j k None lt = (lt, tt)
before_first j k (Some d) lt = (omega (arith, lt), omega (arith, lt))

-- ---- in the run of the site

module _ (x : RunState) (j : ℕ) (change : JobState → JobState) where
  same_results : SameBut j (results_so_far (changed_at j change x.jobs)) (results_so_far x.jobs)
  same_results i apart =
      result_among (changed_at j change x.jobs) i
      ∙ ap (option_and_then (λ (y : JobState). finished_result y.phase)) (at_another j change x.jobs i apart) ∙ sym (result_among x.jobs i)

  -- if the needs of a job before the resume point have finished, they had finished before the change
  needs_had_settled : (k : ℕ) (settled : Bool) → is_some (slice_index_or (results_so_far (changed_at j change x.jobs)) j None) ≡ settled
      → k < (if settled then option_map_or (min j) (slice_get (dependents_of (needs_in x) j) 0) j else j)
      → (k < j) × (all_have_results (results_so_far (changed_at j change x.jobs)) (needs_at (needs_in x) k) ≡ true
      → all_have_results (results_so_far x.jobs) (needs_at (needs_in x) k) ≡ true)
  needs_had_settled k true is lt =
      let before = before_first j k (slice_get (dependents_of (needs_in x) j) 0) lt in (
        before.0,
        had_all j (results_so_far (changed_at j change x.jobs)) (results_so_far x.jobs) same_results (needs_at (needs_in x) k)
            (not_needed (needs_in x) j k before.1),
      )
  needs_had_settled k false is lt = (
    lt,
    had_without j (results_so_far (changed_at j change x.jobs)) (results_so_far x.jobs) same_results is (needs_at (needs_in x) k),
  )

-- ---- if no rule applies, none applies after a change that still holds back every holder that was held back

or_neither_some : {X : Type 0} (a b : Option X) → a ≡ None → b ≡ None → option_or a b ≡ None
or_neither_some a b e f = ap (λ o. option_or o b) e ∙ f

nothing_if : {X : Type 0} (b : Bool) (x : X) → b ≡ false → (if b then Some x else None) ≡ None
nothing_if b x e = ap (λ c. if c then Some x else None) e

none_still : {X Y : Type 0} (f g : X → Option Y) (xs : List X) → AllByRecursion (λ x. f x ≡ None → g x ≡ None) xs
    → first_some f xs ≡ None → first_some g xs ≡ None
none_still f g [] h e = refl
none_still f g (x ∷ xs) h e =
    let parts = or_nothing (f x) (first_some f xs) e in
    or_neither_some (g x) (first_some g xs) (h.0 parts.0) (none_still f g xs h.1 parts.1)

-- if `g` has no value where `f` has none, it has no value in a list where `f` has none
none_placed : {X Y : Type 0} (f g : ℕ × X → Option Y) (xs : List X)
    → ((i : ℕ) (x : X) → slice_get xs i ≡ Some x → f (i, x) ≡ None → g (i, x) ≡ None)
    → first_some f (placed xs) ≡ None → first_some g (placed xs) ≡ None
none_placed {X} f g xs h e =
    none_still f g (placed xs)
    (all_weaken (λ (v : ℕ × X). slice_get xs v.0 ≡ Some v.1) (λ v. f v ≡ None → g v ≡ None) (λ v at. h v.0 v.1 at) (placed xs)
    (placed_get xs)) e

still_none : (blocked had has : Bool) (p : RuleSite) (later after : Option RuleSite) → (has ≡ true → had ≡ true) → (later ≡ None → after ≡ None)
    → (if blocked && had then Some p else later) ≡ None → (if blocked && has then Some p else after) ≡ None
still_none false had has p later after was rests e = rests e
still_none true true has p later after was rests e = cc
still_none true false true p later after was rests e = let is : false ≡ true = was refl in cc
still_none true false false p later after was rests e = rests e

module _ (runs next : List RunState) (r : ℕ) (keeps : KeepsBackIn runs next r) where
  leg_rests : (phase : LegPhase) (j l : ℕ) (z : LegState) → z.phase ≡ phase → leg_at runs (leg_site r j l) ≡ Some z
      → goes_on_in phase runs (leg_site r j l) ≡ false → goes_on_in phase next (leg_site r j l) ≡ false
  leg_rests leg.New j l z is at e = cc
  leg_rests leg.Waiting j l z is at e =
      keeps (Leg (leg_site r j l)) refl
      (ap (λ o. option_map_or (λ (x : LegState). leg_waits x.phase) o false) at ∙ ap leg_waits is) e
  leg_rests leg.Ready j l z is at e = refl
  leg_rests leg.Running j l z is at e = refl
  leg_rests leg.Stopping j l z is at e = refl
  leg_rests (leg.Ended o) j l z is at e = refl

  open_rests : (j : ℕ) (x : RunState) (y : JobState) → run_at runs r ≡ Some x → slice_get x.jobs j ≡ Some y
      → first_of_open runs r j y ≡ None → first_of_open next r j y ≡ None
  open_rests j x y at_run at_job e =
      let parts = or_nothing (first_of_legs runs r j y.legs) (if is_done y then Some (Closing r j) else None) e in
      let at = job_in_run runs r j x at_run ∙ at_job in
      or_neither_some (first_of_legs next r j y.legs) (if is_done y then Some (Closing r j) else None)
      (none_placed (λ l. if goes_on runs (leg_site r j l.0) l.1 then Some (AtLeg (leg_site r j l.0)) else None)
      (λ l. if goes_on next (leg_site r j l.0) l.1 then Some (AtLeg (leg_site r j l.0)) else None) y.legs
      (λ l z was none.
      nothing_if (goes_on next (leg_site r j l) z) (AtLeg (leg_site r j l))
      (leg_rests z.phase j l z refl (leg_in_job runs (leg_site r j l) y at ∙ was)
      (if_none (goes_on runs (leg_site r j l) z) (AtLeg (leg_site r j l)) none))) parts.0)
      parts.1

  -- a job of whose needs none has finished since
  job_rests : (j : ℕ) (x now : RunState) (y : JobState) → run_at runs r ≡ Some x → slice_get x.jobs j ≡ Some y
      → (needs_finished_in now j ≡ true → needs_finished_in x j ≡ true)
      → first_in_job runs r x j y ≡ None → first_in_job next r now j y ≡ None
  job_rests j x now y at_run at_job had e =
      still_none (is_blocked y.phase) (needs_finished_in x j) (needs_finished_in now j) (Opening r j) (first_of_open runs r j y)
      (first_of_open next r j y) had (open_rests j x y at_run at_job) e

  jobs_of_run_rest : (x : RunState) (live : Bool) → run_at runs r ≡ Some x
      → (if live then first_in_jobs runs r x x.jobs else None) ≡ None → (if live then first_in_jobs next r x x.jobs else None) ≡ None
  jobs_of_run_rest x true at e =
      none_placed (λ j. first_in_job runs r x j.0 j.1) (λ j. first_in_job next r x j.0 j.1) x.jobs
      (λ j y was none. job_rests j x x y at was (λ h. h) none) e
  jobs_of_run_rest x false at e = refl

  whole_rests : (phase : RunPhase) (x : RunState) → x.phase ≡ phase → run_at runs r ≡ Some x → whole_goes_on_in phase runs r x ≡ false
      → whole_goes_on_in phase next r x ≡ false
  whole_rests run.Waiting x is at e =
      keeps (Run r) refl (ap (λ o. option_map_or (λ (z : RunState). run_waits z.phase) o false) at ∙ ap run_waits is) e
  whole_rests run.Live x is at e = e
  whole_rests run.Ended x is at e = refl

  pub run_rests : (x : RunState) → run_at runs r ≡ Some x → first_in_run runs r x ≡ None → first_in_run next r x ≡ None
  run_rests x at e =
      let parts = or_nothing (if is_live x.phase then first_in_jobs runs r x x.jobs else None) (first_of_whole runs r x) e in
      or_neither_some (if is_live x.phase then first_in_jobs next r x x.jobs else None) (first_of_whole next r x)
      (jobs_of_run_rest x (is_live x.phase) at parts.0)
      (nothing_if (whole_goes_on_in x.phase next r x) (Whole r)
      (whole_rests x.phase x refl at (if_none (whole_goes_on_in x.phase runs r x) (Whole r) parts.1)))

module _ (runs next : List RunState) (keeps : KeepsBack runs next) where
  keeps_in : (r : ℕ) → KeepsBackIn runs next r
  keeps_in r h of_run waiting e = keeps h (one_that_waits runs h waiting) e

  -- the runs before the site's own run are unchanged
  pub runs_rest : (r : ℕ) → ((k : ℕ) → k < r → run_at next k ≡ run_at runs k) → NoneBefore (first_in_run runs) runs r
      → NoneBefore (first_in_run next) next r
  runs_rest r same before k lt =
      ap (option_and_then (first_in_run next k)) (same k lt)
      ∙ elim (run_at runs k) as
      (λ o. run_at runs k ≡ o → option_and_then (first_in_run runs k) o ≡ None → option_and_then (first_in_run next k) o ≡ None) [
        | None ↦ λ is e. refl
        | Some x ↦ λ is e. run_rests runs next k (keeps_in k) x is e
      ] refl (before k lt)

  jobs_rest : (r : ℕ) (x : RunState) (j : ℕ) (change : JobState → JobState) → run_at runs r ≡ Some x
      → NoneBefore (first_in_job runs r x) x.jobs j
      → NoneBefore (first_in_job next r (record x { jobs = changed_at j change x.jobs })) (changed_at j change x.jobs)
      (job_again (record x { jobs = changed_at j change x.jobs }) j)
  jobs_rest r x j change at before k lt =
      let now : RunState = record x { jobs = changed_at j change x.jobs } in
      let had = needs_had_settled x j change k (has_finished now j) refl lt in
      ap (option_and_then (first_in_job next r now k)) (at_another j change x.jobs k (λ e. absurd (omega (arith, had.0, e))))
      ∙ elim (slice_get x.jobs k) as
      (λ o. slice_get x.jobs k ≡ o → option_and_then (first_in_job runs r x k) o ≡ None
      → option_and_then (first_in_job next r now k) o ≡ None) [
        | None ↦ λ is e. refl
        | Some y ↦ λ is e. job_rests runs next r (keeps_in r) k x now y at is had.1 e
      ] refl (before k had.0)

-- ---- in the table

rests_from : (next : List RunState) (r j : ℕ) (y : RunState) → NoneBefore (first_in_run next) next r → run_at next r ≡ Some y
    → NoneBefore (first_in_job next r y) y.jobs j → RestBefore next (record { run = r; job = j })
rests_from next r j y before is rest = (
  before,
  λ run at live. let same : y ≡ run = let two : Some y ≡ Some run = sym is ∙ at in cc in
      subst (λ (v : RunState). NoneBefore (first_in_job next r v) v.jobs j) same rest,
)

again_at : (next : List RunState) (r j : ℕ) (y : RunState) (p : RuleSite) → IsAt r j p → run_at next r ≡ Some y
    → resume_near next p ≡ record { run = r; job = job_again y j }
again_at next r j y (Opening s k) at is =
    ap (λ a. record { run = a; job = option_map_or (λ run. job_again run k) (run_at next a) k }) at.0
    ∙ ap (λ b. record { run = r; job = option_map_or (λ run. job_again run b) (run_at next r) b }) at.1
    ∙ ap (λ o. record { run = r; job = option_map_or (λ run. job_again run j) o j }) is
again_at next r j y (AtLeg p) at is =
    ap (λ a. record { run = a; job = option_map_or (λ run. job_again run p.job) (run_at next a) p.job }) at.0
    ∙ ap (λ b. record { run = r; job = option_map_or (λ run. job_again run b) (run_at next r) b }) at.1
    ∙ ap (λ o. record { run = r; job = option_map_or (λ run. job_again run j) o j }) is
again_at next r j y (Closing s k) at is =
    ap (λ a. record { run = a; job = option_map_or (λ run. job_again run k) (run_at next a) k }) at.0
    ∙ ap (λ b. record { run = r; job = option_map_or (λ run. job_again run b) (run_at next r) b }) at.1
    ∙ ap (λ o. record { run = r; job = option_map_or (λ run. job_again run j) o j }) is
again_at next r j y (Whole s) at is = absurd at

module _ (runs : List RunState) (m : Transition) (p : RuleSite) (fit : RunsFit runs) (first : first_site runs ≡ Some p)
    (is : rule_at runs p ≡ Some m) (quiet : may_invalidate_others runs p ≡ false) where
  after_job : (r j : ℕ) (x : RunState) → IsAt r j p → run_at runs r ≡ Some x → NoneBefore (first_in_run runs) runs r
      → NoneBefore (first_in_job runs r x) x.jobs j → RestBefore m.runs (resume_near m.runs p)
  after_job r j x at was before_run before =
      let keeps = quiet_keeps_back runs m p fit first is quiet in
      let made = quiet_at_job runs m p r j fit at quiet is in
      let change : RunState → RunState = λ run. record run { jobs = changed_at j made.change run.jobs } in
      let now : run_at m.runs r ≡ Some (change x) =
      ap (λ xs. slice_get xs r) (sym made.is) ∙ at_changed r change runs ∙ ap (option_map change) was in
      let others : (k : ℕ) → k < r → run_at m.runs k ≡ run_at runs k =
      λ k lt. ap (λ xs. slice_get xs k) (sym made.is) ∙ at_another r change runs k (λ e. absurd (omega (arith, e, lt))) in
      subst (RestBefore m.runs) (sym (again_at m.runs r j (change x) p at now))
      (rests_from m.runs r (job_again (change x) j) (change x) (runs_rest runs m.runs keeps r others before_run) now
      (jobs_rest runs m.runs keeps r x j made.change was before))

  after_whole : (r : ℕ) → p ≡ Whole r → NoneBefore (first_in_run runs) runs r → RestBefore m.runs (resume_near m.runs p)
  after_whole r whole before =
      let keeps = quiet_keeps_back runs m p fit first is quiet in
      let made = quiet_in_run runs m p r fit whole quiet is in
      let others : (k : ℕ) → k < r → run_at m.runs k ≡ run_at runs k =
      λ k lt. ap (λ xs. slice_get xs k) (sym made.is) ∙ at_another r made.change runs k (λ e. absurd (omega (arith, e, lt))) in
      let again : resume_near m.runs p ≡ record { run = r; job = 0 } = ap (resume_near m.runs) whole in
      let rest : RestBefore m.runs (record { run = r; job = 0 }) =
      (runs_rest runs m.runs keeps r others before, λ run at live k lt. absurd (omega (arith, lt))) in
      subst (RestBefore m.runs) (sym again) rest

  after_quiet : RestBefore m.runs (resume_near m.runs p)
  after_quiet =
      let at = place_found runs p first in
      elim (at.found) [
        | inl f ↦ after_job at.run f.job at.state f.is_at at.was at.before f.before
        | inr whole ↦ after_whole at.run whole at.before
      ]

-- nothing is before the first site of a table
pub rest_before_all : (runs : List RunState) → RestBefore runs (record { run = 0; job = 0 })
rest_before_all runs = (λ k lt. absurd (omega (arith, lt)), λ run at live k lt. absurd (omega (arith, lt)))

pub rest_after_rule : (runs : List RunState) (m : Transition) (p : RuleSite) → RunsFit runs → first_site runs ≡ Some p → rule_at runs p ≡ Some m
    → RestBefore m.runs (resume_point (may_invalidate_others runs p) m.runs p)
rest_after_rule runs m p fit first is =
    elim (may_invalidate_others runs p) as (λ b. may_invalidate_others runs p ≡ b → RestBefore m.runs (resume_point b m.runs p)) [
      | true ↦ λ freed. rest_before_all m.runs
      | false ↦ λ quiet. after_quiet runs m p fit first is quiet
    ] refl
