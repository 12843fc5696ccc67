-- What a check has written, part by part.
use Rattle.std.proofs.Common.{◌≡◌, ◌⊎◌, inl, inr, ℕ, suc, ◌+◌, ◌<◌, ◌≤◌, List, [], ◌∷◌, ◌++◌, length, map, drop, get_or, Option}
use Rattle.std.proofs.Common.{Result, Ok, Err, refl, sym, ap, subst, ◌∙◌, arith}
use Rattle.std.proofs.Math.Seq.{drop-cons}
use Rattle.std.specs.Io.KnownBytes.{Appends}
use Rattle.std.specs.List.{flat_map, enumerate_from}
use Rattle.std.specs.Prelude.{IsErrAnd}
use Rattle.std.specs.Result.{result_unwrap_or}
use Rattle.definitions.specs.Limits.{max_input}
use Rattle.wf_value.specs.Gives.{no_memory}
use Rattle.wf_value.specs.declared.refusal.Refusal.{Refusal}
use Rattle.wf_reader.specs.Faults.{unless_faulty}
use Rattle.wf_reader.specs.Workflow.{workflow_faults, workflow_of}
use Rattle.wf_reader.specs.declared.job.Job.{Job}
use Rattle.wf_reader.specs.declared.workflow.Workflow.{Workflow}
use Rattle.wf_reader.proofs.InOrder.{no_fault, same_value}
use Rattle.wf_value.specs.declared.combo.Combo.{Combo}
use Rattle.run_plan.specs.PlanOf.{combinations_where, job_faults, legs_faults, legs_of, matrix_of, needs_faults, plan_faults, planned_job}
use Rattle.run_plan.specs.PlanOf.{workflow_plan}
use Rattle.wf_reader.proofs.Contents.{same_refusal}
use Rattle.act_disk.specs.Failed.{stream_failed}
use Rattle.program_commands.specs.Check.{leg_line, leg_lines, job_lines, plan_lines, checked, Written, ChecksTo}
use Rattle.program_commands.specs.Input.{RefusesInput}
use Rattle.program_commands.specs.inner.Writes.{Writes}

-- ---- legs

-- the lines of combinations, numbered from a number on
abbrev pub numbered_lines : List ℕ → ℕ → List Combo → List ℕ
numbered_lines job number combinations = flat_map (λ p. leg_line job p.0 p.1) (enumerate_from number combinations)

-- a leg's line comes before those of the later ones
pub leg_after : (job out : List ℕ) (n count : ℕ) (legs : List Combo) (combo : Combo) → n < count → count ≡ length legs
    → ◌≡◌ {A = Result Combo Refusal} (Ok (get_or legs n [])) (Ok combo) → out ++ numbered_lines job n (drop n legs) ≡ leg_lines job legs
    → out ++ (leg_line job n combo ++ numbered_lines job (n + 1) (drop (n + 1) legs)) ≡ leg_lines job legs
leg_after job out n count legs combo lt counted given so_far =
    let step : suc n ≡ n + 1 = omega arith in
    let is : get_or legs n [] ≡ combo = cc given in
    ap (λ x. out ++ x) (sym (ap (numbered_lines job n)
    (drop-cons legs n [] (omega arith) ∙ ap (λ c. c ∷ drop (suc n) legs) is ∙ ap (λ k. combo ∷ drop k legs) step))) ∙ so_far

-- making legs of combinations preserves the combinations
pub combinations_again : (cs : List Combo) → map (λ leg. leg.combo) (legs_of cs) ≡ cs
combinations_again [] = refl
combinations_again (c ∷ cs) = ap (λ rest. c ∷ rest) (combinations_again cs)

-- the lines of a job whose matrix has no faults
pub lines_of_job : (job : Job) (legs : List Combo) → combinations_where (matrix_of job) ≡ Ok legs
    → leg_lines job.id legs ≡ job_lines (planned_job job)
lines_of_job job legs is =
    ap (leg_lines job.id) (sym (ap (λ r. map (λ leg. leg.combo) (legs_of (result_unwrap_or r []))) is ∙ combinations_again legs))

-- ---- jobs

pub next_job : (n : ℕ) (jobs : List Job) (job : Job) → n < length jobs → job ≡ get_or jobs n job
    → drop n jobs ≡ job ∷ drop (n + 1) jobs
next_job n jobs job lt is =
    let step : suc n ≡ n + 1 = omega arith in
    drop-cons jobs n job lt ∙ ap (λ x. x ∷ drop (suc n) jobs) (sym is) ∙ ap (λ k. job ∷ drop k jobs) step

-- a job's lines come before those of the later ones
pub job_after : (out : List ℕ) (n : ℕ) (jobs : List Job) (job : Job) → n < length jobs → job ≡ get_or jobs n job
    → out ++ plan_lines (map planned_job (drop n jobs)) ≡ plan_lines (map planned_job jobs)
    → out ++ (job_lines (planned_job job) ++ plan_lines (map planned_job (drop (n + 1) jobs))) ≡ plan_lines (map planned_job jobs)
job_after out n jobs job lt is so_far =
    ap (λ js. out ++ plan_lines (map planned_job js)) (sym (next_job n jobs job lt is)) ∙ so_far

neither : {X : Type 0} (xs ys : List X) → xs ++ ys ≡ [] → (xs ≡ []) × (ys ≡ [])
neither [] ys h = (refl, h)
neither (x ∷ xs) ys h = absurd cc

-- if jobs have no faults, neither the first nor the others have any
pub none_of_jobs : (jobs rest : List Job) (job : Job) → jobs ≡ job ∷ rest → legs_faults jobs ≡ []
    → (job_faults job ≡ []) × (legs_faults rest ≡ [])
none_of_jobs jobs rest job is none = neither (job_faults job) (legs_faults rest) (sym (ap legs_faults is) ∙ none)

-- ---- the end

-- if the workflow of a text has no faults, its plan decides
of_plan : (text : List ℕ) (w : Workflow) → unless_faulty (workflow_faults text) (workflow_of text) ≡ Ok w
    → checked text ≡ unless_faulty (plan_faults w) (plan_lines (workflow_plan w))
of_plan text w told =
    ap (λ fs. unless_faulty (fs ++ plan_faults (workflow_of text)) (plan_lines (workflow_plan (workflow_of text))))
    (no_fault (workflow_faults text) (workflow_of text) w told)
    ∙ ap (λ (v : Workflow). unless_faulty (plan_faults v) (plan_lines (workflow_plan v)))
    (same_value (workflow_faults text) (workflow_of text) w told)

-- the lines of a plan, if the workflow of a text has no faults
pub plan_checked : {X : Type 0} (text : List ℕ) (w : Workflow) (x v : X)
    → unless_faulty (workflow_faults text) (workflow_of text) ≡ Ok w → unless_faulty (plan_faults w) x ≡ Ok v
    → checked text ≡ Ok (plan_lines (workflow_plan w))
plan_checked text w x v told planned =
    of_plan text w told ∙ ap (λ fs. unless_faulty fs (plan_lines (workflow_plan w))) (no_fault (plan_faults w) x v planned)

pub plan_refused : {X : Type 0} (text : List ℕ) (w : Workflow) (x : X) (e : Refusal)
    → unless_faulty (workflow_faults text) (workflow_of text) ≡ Ok w → unless_faulty (plan_faults w) x ≡ Err e → checked text ≡ Err e
plan_refused text w x e told refused = of_plan text w told ∙ same_refusal (plan_faults w) x (plan_lines (workflow_plan w)) e refused

-- a plan without faults has no faults of its matrices
pub no_legs_fault : {X : Type 0} (w : Workflow) (x v : X) → unless_faulty (plan_faults w) x ≡ Ok v → legs_faults w.jobs ≡ []
no_legs_fault w x v planned = (neither (legs_faults w.jobs) (needs_faults w.jobs) (no_fault (plan_faults w) x v planned)).0

-- the plan was refused, and nothing was written
pub refused_plan : {U : Type 0} (text : List ℕ) (r : Result U Refusal) (e : Refusal) → IsErrAnd r (λ f. f ≡ e)
    → (e ≡ no_memory) ⊎ (checked text ≡ Err e) → Written text [] r
refused_plan text (Ok u) e is why = absurd is
refused_plan text (Err f) e is (inl memory) = inr (inr (is ∙ memory), inl refl)
refused_plan text (Err f) e is (inr refused) = inl (refused ∙ ap Err (sym is), refl)

-- the lines were written, or a prefix of them
pub lines_written : {U : Type 0} (text lines : List ℕ) (old new : Option (List ℕ)) (r : Result U Refusal) → checked text ≡ Ok lines
    → Writes old new lines r → (out : List ℕ) × Appends old new out × Written text out r
lines_written text lines old new (Ok u) told all = (lines, all, told)
lines_written text lines old new (Err e) told part = (part.1.0, part.1.2, inr (part.0, inr (part.1.1, told ∙ ap Ok (sym part.1.3))))

-- a text that is not too long
pub checks_within : {U : Type 0} (text out : List ℕ) (r : Result U Refusal) → length text ≤ max_input → Written text out r
    → ChecksTo text out r
checks_within text out (Ok u) fits h = (fits, h)
checks_within text out (Err e) fits h = inr (inl (fits, h))

-- a text that was not read
pub unread : {U : Type 0} (text : List ℕ) (r : Result U Refusal) (e : Refusal) → IsErrAnd r (λ f. f ≡ e) → RefusesInput e text
    → ChecksTo text [] r
unread text (Ok u) e is why = absurd is
unread text (Err f) e is (inl long) = inl (is ∙ long.0, long.1, refl)
unread text (Err f) e is (inr why) = inr (inr (subst (λ x. (x ≡ stream_failed) ⊎ (x ≡ no_memory)) (sym is) why, refl))
