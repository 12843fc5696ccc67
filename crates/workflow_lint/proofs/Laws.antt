-- The findings in a text are the faults of `wf_reader`, each with a path.
use Rattle.std.proofs.Common.{◌≡◌, ℕ, ◌+◌, List, [], ◌∷◌, ◌++◌, Bool, true, false, if◌then◌else◌, Option, Some, None, is_some, codes, length}
use Rattle.std.proofs.Common.{nat_le, refl, sym, ap, ap₂, ◌∙◌, append_assoc, append-nil}
use Rattle.std.specs.List.{enumerate_from, flat_map}
use Rattle.std.specs.Option.{option_map_or}
use Rattle.serde_json.specs.Data.{Data, null, boolean, number, string, array, object, no_items, item}
use Rattle.serde_json.specs.Find.{as_array, as_object, get}
use Rattle.wf_value.specs.declared.code.Code.TheVariants.{JobId, LeftOut, MatrixValue, NoLabels, NotJson, StrategyMember, TooLong, WrongKind}
use Rattle.wf_value.specs.declared.refusal.Refusal.{Refusal}
use Rattle.wf_expr.specs.declared.context_site.ContextSite.{ContextSite}
use Rattle.wf_expr.specs.declared.context_site.ContextSite.TheVariants as context_site
use Rattle.wf_reader.specs.Workflow.{json_of, inside_workflow, jobs_faults, workflow_faults, workflow_faults_in}
use Rattle.wf_reader.specs.Job.{concurrency_faults, is_concurrency, inside_job, is_job_id, job_faults, label_faults, labels_faults}
use Rattle.wf_reader.specs.Faults.{fault, fault_unless, faults_in_order, left_out, optional, required, text_faults}
use Rattle.wf_reader.specs.inner.JobParts.{legs_checks, legs_faults, start_checks, start_faults}
use Rattle.wf_reader.specs.Json.{item_list, member_at, members_of}
use Rattle.wf_reader.specs.Strategy.{inside_matrix, matrix_faults, variable_faults, variables_in, each_of_some, items_of, value_faults}
use Rattle.wf_reader.specs.Job.{needs_faults}
use Rattle.wf_reader.specs.Strategy.{pair_faults, pattern_faults, patterns_faults, inside_strategy, names_faults, strategy_faults}
use Rattle.wf_reader.proofs.InOrder.{of_both}
use Rattle.workflow_lint.specs.Checks.{faults_by, found_by, items_at, optional_at}
use Rattle.workflow_lint.specs.Findings.{at, refusals}
use Rattle.workflow_lint.specs.InJob.{concurrency_at, group_path, inside_job_at, job_at, labels_at, legs_at, needs_at, start_at}
use Rattle.workflow_lint.specs.InMatrix.{inside_matrix_at, inside_strategy_at, matrix_at, pattern_at, patterns_at, strategy_at, unless_empty}
use Rattle.workflow_lint.specs.InMatrix.{variable_at}
use Rattle.workflow_lint.specs.InWorkflow.{found_in_text, inside_workflow_at, jobs_at, workflow_at}
use Rattle.workflow_lint.specs.Paths.{item_path, member_path}
use Rattle.workflow_lint.specs.declared.check.Check.{Check}
use Rattle.workflow_lint.specs.declared.check.Check.TheVariants as check
use Rattle.workflow_lint.specs.declared.finding.Finding.{Finding}

-- ---- faults in sequence

pub of_at : (path : List ℕ) (fs : List Refusal) → refusals (at path fs) ≡ fs
of_at path [] = refl
of_at path (f ∷ fs) = ap (λ l. f ∷ l) (of_at path fs)

pub of_join : (xs ys : List Finding) → refusals (xs ++ ys) ≡ refusals xs ++ refusals ys
of_join [] ys = refl
of_join (x ∷ xs) ys = ap (λ l. x.refusal ∷ l) (of_join xs ys)

pub joined : (xs ys : List Finding) (fs gs : List Refusal) → refusals xs ≡ fs → refusals ys ≡ gs → refusals (xs ++ ys) ≡ fs ++ gs
joined xs ys fs gs one other = of_join xs ys ∙ ap₂ (λ (a b : List Refusal). a ++ b) one other

-- three checks in sequence
three : (a b c : List Finding) (e f g : List Refusal) → refusals a ≡ e → refusals b ≡ f → refusals c ≡ g
    → refusals (a ++ b ++ c) ≡ faults_in_order (e ∷ f ∷ g ∷ [])
three a b c e f g p q r =
    joined (a ++ b) c (e ++ f) g (joined a b e f p q) r ∙ append_assoc e f g ∙ ap (λ l. e ++ (f ++ l)) (sym (append-nil g))

four : (a b c d : List Finding) (e f g h : List Refusal) → refusals a ≡ e → refusals b ≡ f → refusals c ≡ g → refusals d ≡ h
    → refusals (a ++ b ++ c ++ d) ≡ faults_in_order (e ∷ f ∷ g ∷ h ∷ [])
four a b c d e f g h p q r s =
    joined (a ++ b ++ c) d (e ++ f ++ g) h (joined (a ++ b) c (e ++ f) g (joined a b e f p q) r) s ∙ append_assoc (e ++ f) g h
    ∙ append_assoc e f (g ++ h) ∙ ap (λ l. e ++ (f ++ (g ++ l))) (sym (append-nil h))

either : (b : Bool) (xs ys : List Finding) (fs gs : List Refusal) → refusals xs ≡ fs → refusals ys ≡ gs
    → refusals (if b then xs else ys) ≡ (if b then fs else gs)
either true xs ys fs gs one other = one
either false xs ys fs gs one other = other

pub of_each : {X : Type 0} (f : X → List Finding) (g : X → List Refusal) → ((x : X) → refusals (f x) ≡ g x) → (xs : List X)
    → refusals (flat_map f xs) ≡ flat_map g xs
of_each f g same [] = refl
of_each f g same (x ∷ xs) = joined (f x) (flat_map f xs) (g x) (flat_map g xs) (same x) (of_each f g same xs)

-- ---- a member, an item, a list

of_option : (f : Data → List Finding) (g : Data → List Refusal) → ((d : Data) → refusals (f d) ≡ g d) → (o : Option Data)
    → refusals (option_map_or f o []) ≡ optional g o
of_option f g same None = refl
of_option f g same (Some d) = same d

of_member : (f : List ℕ → Data → List Finding) (g : Data → List Refusal) → ((p : List ℕ) (d : Data) → refusals (f p d) ≡ g d)
    → (path name : List ℕ) (d : Data) → refusals (optional_at f path name d) ≡ optional g (get name d)
of_member f g same path name d = of_option (f (member_path path name)) g (same (member_path path name)) (get name d)

of_numbered : (f : List ℕ → Data → List Finding) (g : Data → List Refusal) → ((p : List ℕ) (d : Data) → refusals (f p d) ≡ g d)
    → (path : List ℕ) (n : ℕ) (ds : List Data) → refusals (flat_map (λ i. f (item_path path i.0) i.1) (enumerate_from n ds)) ≡ flat_map g ds
of_numbered f g same path n [] = refl
of_numbered f g same path n (d ∷ ds) =
    joined (f (item_path path n) d) _ (g d) (flat_map g ds) (same (item_path path n) d) (of_numbered f g same path (n + 1) ds)

of_items : (f : List ℕ → Data → List Finding) (g : Data → List Refusal) → ((p : List ℕ) (d : Data) → refusals (f p d) ≡ g d)
    → (path : List ℕ) (ds : List Data) → refusals (items_at f path ds) ≡ flat_map g ds
of_items f g same path ds = of_numbered f g same path 0 ds

of_check : (c : Check) (p : List ℕ) (d : Data) → refusals (found_by c p d) ≡ faults_by c d
of_check c p d = of_at p (faults_by c d)

-- ---- a matrix and a strategy

some_of : {X : Type 0} (path : List ℕ) (check : X → List Refusal) (xs : List X) (found : List Finding)
    → refusals found ≡ flat_map check xs → refusals (unless_empty path xs found) ≡ each_of_some check xs
some_of path check [] found same = refl
some_of path check (x ∷ xs) found same = same

of_pattern : (path : List ℕ) (d : Data) → refusals (pattern_at path d) ≡ pattern_faults d
of_pattern path d =
    either (is_some (as_object d)) _ _ _ _
    (some_of path pair_faults (members_of d) _
    (of_each (λ m. found_by check.MatrixValue (member_path path m.0) m.1) pair_faults
    (λ m. of_check check.MatrixValue (member_path path m.0) m.1) (members_of d)))
    (of_at path (fault MatrixValue))

of_patterns : (path : List ℕ) (d : Data) → refusals (patterns_at path d) ≡ patterns_faults d
of_patterns path d =
    either (is_some (as_array d)) _ _ _ _ (of_items pattern_at pattern_faults of_pattern path (items_of d)) (of_at path (fault MatrixValue))

of_variable : (path : List ℕ) (m : List ℕ × Data) → refusals (variable_at path m.1) ≡ variable_faults m
of_variable path m =
    either (is_some (as_array m.1)) _ _ _ _
    (some_of path value_faults (items_of m.1) _
    (of_items (found_by check.MatrixValue) value_faults (of_check check.MatrixValue) path (items_of m.1)))
    (of_at path (fault MatrixValue))

of_inside_matrix : (path : List ℕ) (d : Data) → refusals (inside_matrix_at path d) ≡ inside_matrix d
of_inside_matrix path d =
    three _ _ _ _ _ _ (of_member patterns_at patterns_faults of_patterns path (codes "include") d)
    (of_member patterns_at patterns_faults of_patterns path (codes "exclude") d)
    (of_each (λ m. variable_at (member_path path m.0) m.1) variable_faults (λ m. of_variable (member_path path m.0) m) (variables_in d))

of_matrix : (path : List ℕ) (d : Data) → refusals (matrix_at path d) ≡ matrix_faults d
of_matrix path d = either (is_some (as_object d)) _ _ _ _ (of_inside_matrix path d) (of_at path (fault StrategyMember))

of_inside_strategy : (path : List ℕ) (d : Data) → refusals (inside_strategy_at path d) ≡ inside_strategy d
of_inside_strategy path d =
    four _ _ _ _ _ _ _ _ (of_at path (names_faults d))
    (of_member (found_by check.FailFast) (faults_by check.FailFast) (of_check check.FailFast) path (codes "fail-fast") d)
    (of_member (found_by check.MaxParallel) (faults_by check.MaxParallel) (of_check check.MaxParallel) path (codes "max-parallel") d)
    (of_member matrix_at matrix_faults of_matrix path (codes "matrix") d)

of_strategy : (path : List ℕ) (d : Data) → refusals (strategy_at path d) ≡ strategy_faults d
of_strategy path d = either (is_some (as_object d)) _ _ _ _ (of_inside_strategy path d) (of_at path (fault StrategyMember))

-- ---- a job

of_labels : (path : List ℕ) (d : Data) → refusals (labels_at path d) ≡ labels_faults d
of_labels path null = of_at path (labels_faults null)
of_labels path (boolean b) = of_at path (labels_faults (boolean b))
of_labels path (number n) = of_at path (labels_faults (number n))
of_labels path (string t) = of_at path (labels_faults (string t))
of_labels path (array no_items) = of_at path (labels_faults (array no_items))
of_labels path (array (item d ds)) =
    of_items (found_by check.Label) label_faults (of_check check.Label) path (item_list (item d ds))
of_labels path (object ms) = of_at path (labels_faults (object ms))

of_needs : (path : List ℕ) (d : Data) → refusals (needs_at path d) ≡ needs_faults d
of_needs path null = refl
of_needs path (boolean b) = refl
of_needs path (number n) = refl
of_needs path (string t) = refl
of_needs path (array ds) = of_items (found_by check.Text) text_faults (of_check check.Text) path (item_list ds)
of_needs path (object ms) = refl

of_concurrency : (site : ContextSite) (path : List ℕ) (d : Data) → refusals (concurrency_at site path d) ≡ concurrency_faults site d
of_concurrency site path d =
    three _ _ _ _ _ _ (of_at path (fault_unless (is_concurrency d) WrongKind)) (of_at (group_path path d) _)
    (of_member (found_by (check.Flag site)) (faults_by (check.Flag site)) (of_check (check.Flag site)) path (codes "cancel-in-progress") d)

of_required : (f : Data → List Finding) (g : Data → List Refusal) (path : List ℕ) → ((d : Data) → refusals (f d) ≡ g d)
    → (o : Option Data) → refusals (option_map_or f o (at path (fault NoLabels))) ≡ required NoLabels g o
of_required f g path same None = refl
of_required f g path same (Some d) = same d

of_start : (path : List ℕ) (d : Data) → refusals (start_at path d) ≡ start_faults d
of_start path d =
    three _ _ _ _ _ _
    (of_required (labels_at (member_path path (codes "runs-on"))) labels_faults path (of_labels (member_path path (codes "runs-on")))
    (get (codes "runs-on") d))
    (of_member needs_at needs_faults of_needs path (codes "needs") d)
    (of_member (found_by check.Condition) (faults_by check.Condition) (of_check check.Condition) path (codes "if") d)

of_legs : (path : List ℕ) (d : Data) → refusals (legs_at path d) ≡ legs_faults d
of_legs path d =
    three _ _ _ _ _ _
    (of_member (found_by (check.Flag context_site.Job)) (faults_by (check.Flag context_site.Job)) (of_check (check.Flag context_site.Job)) path
    (codes "continue-on-error") d)
    (of_member (concurrency_at context_site.Job) (concurrency_faults context_site.Job) (of_concurrency context_site.Job) path (codes "concurrency") d)
    (of_member strategy_at strategy_faults of_strategy path (codes "strategy") d)

of_inside_job : (path : List ℕ) (d : Data) → refusals (inside_job_at path d) ≡ inside_job d
of_inside_job path d =
    let uses : refusals (optional_at (found_by check.LeftOut) path (codes "uses") d) ≡ left_out (get (codes "uses") d) =
    of_member (found_by check.LeftOut) (λ _. fault LeftOut) (λ p e. of_at p (fault LeftOut)) path (codes "uses") d in
    joined _ (legs_at path d) _ (legs_faults d) (joined _ (start_at path d) _ (start_faults d) uses (of_start path d)) (of_legs path d)
    ∙ append_assoc (left_out (get (codes "uses") d)) (start_faults d) (legs_faults d)
    ∙ ap (λ l. left_out (get (codes "uses") d) ++ l) (sym (of_both (start_checks d) (legs_checks d)))

of_job : (path : List ℕ) (job : List ℕ × Data) → refusals (job_at path job.0 job.1) ≡ job_faults job
of_job path job =
    joined _ _ _ _ (of_at path (fault_unless (is_job_id job.0) JobId))
    (either (is_some (as_object job.1)) _ _ _ _ (of_inside_job path job.1) (of_at path (fault WrongKind)))

-- ---- a workflow

of_jobs : (jobs : List (List ℕ × Data)) → refusals (jobs_at jobs) ≡ jobs_faults jobs
of_jobs [] = refl
of_jobs (j ∷ js) =
    joined _ _ _ _ (of_at (codes "jobs") _)
    (of_each (λ job. job_at (member_path (codes "jobs") job.0) job.0 job.1) job_faults (λ job. of_job (member_path (codes "jobs") job.0) job)
    (j ∷ js))

of_inside_workflow : (d : Data) → refusals (inside_workflow_at d) ≡ inside_workflow d
of_inside_workflow d =
    three _ _ _ _ _ _ (of_member (found_by check.Text) text_faults (of_check check.Text) [] (codes "name") d)
    (of_member (concurrency_at context_site.Workflow) (concurrency_faults context_site.Workflow) (of_concurrency context_site.Workflow) [] (codes "concurrency") d)
    (of_jobs (members_of (member_at (codes "jobs") d)))

of_workflow : (d : Data) → refusals (workflow_at d) ≡ workflow_faults_in d
of_workflow d = either (is_some (as_object d)) _ _ _ _ (of_inside_workflow d) (of_at [] (fault WrongKind))

of_value : (o : Option Data) → refusals (option_map_or workflow_at o (at [] (fault NotJson))) ≡ required NotJson workflow_faults_in o
of_value None = refl
of_value (Some d) = of_workflow d

pub of_text : (bytes : List ℕ) → refusals (found_in_text bytes) ≡ workflow_faults bytes
of_text bytes = either (nat_le (length bytes) 65536) _ _ _ _ (of_value (json_of bytes)) (of_at [] (fault TooLong))
