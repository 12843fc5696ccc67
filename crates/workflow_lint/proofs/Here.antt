-- The findings in a list or an object, from its items or its members.
use Rattle.std.proofs.Common.{◌≡◌, ℕ, ◌<◌, List, [], ◌∷◌, ◌++◌, map, length, Bool, true, false, cond, if◌then◌else◌, is_some, Option, Some, None}
use Rattle.std.proofs.Common.{unwrap_or, option_and_then, refl, sym, ap, ◌∙◌, subst, append_assoc, arith}
use Rattle.std.specs.List.{filter, list_all, list_any}
use Rattle.std.specs.Str.{bytes_eq}
use Rattle.std.proofs.lemmas.List.{length-map}
use Rattle.std.proofs.lemmas.List.Folds.{list_all-map}
use Rattle.serde_json.specs.Data.{Data, null, array, Members, no_members}
use Rattle.serde_json.specs.Find.{as_array, as_object}
use Rattle.serde_json.specs.View.{view, items_view, members_view}
use Rattle.serde_json.specs.declared.value.Value.{Value}
use Rattle.serde_json.proofs.Views.{Entry}
use Rattle.wf_value.specs.declared.code.Code.TheVariants.{StrategyMember}
use Rattle.wf_reader.specs.Faults.{fault_unless}
use Rattle.wf_reader.specs.Json.{member_list, members_of}
use Rattle.wf_reader.specs.Strategy.{is_variable_name, variables_in, items_of, is_strategy_name, names_faults}
use Rattle.wf_reader.specs.declared.job.Job.{Job}
use Rattle.wf_reader.proofs.Contents.{array-of, item_list-view, items_here, member_list-named, members_here, named}
use Rattle.wf_reader.proofs.Entries.{kept}
use Rattle.needs_graph.specs.Needs.{is_job}
use Rattle.run_plan.specs.PlanOf.{needs_of_job}
use Rattle.workflow_lint.specs.Checks.{found_by, items_at, members_at}
use Rattle.workflow_lint.specs.InJob.{labels_at, needs_at}
use Rattle.workflow_lint.specs.InMatrix.{pattern_at, patterns_at, unless_empty, variable_at}
use Rattle.workflow_lint.specs.Plans.{need_found}
use Rattle.workflow_lint.specs.declared.check.Check.TheVariants as check
use Rattle.workflow_lint.specs.declared.finding.Finding.{Finding}

if_so : (b : Bool) (xs ys : List Finding) → true ≡ b → (if b then xs else ys) ≡ xs
if_so true xs ys is = refl
if_so false xs ys is = absurd cc

filled_so : {X : Type 0} (path : List ℕ) (xs : List X) (found : List Finding) → 0 < length xs → unless_empty path xs found ≡ found
filled_so path [] found filled = absurd (omega arith)
filled_so path (x ∷ xs) found filled = refl

-- three parts, the last under another name
pub last_renamed : (all start one two i e v w : List Finding) → one ≡ start ++ i → two ≡ one ++ e → v ≡ w → all ≡ two ++ v
    → all ≡ start ++ (i ++ e ++ w)
last_renamed all start one two i e v w a b same is =
    is ∙ ap (λ l. l ++ v) (b ∙ ap (λ l. l ++ e) a ∙ append_assoc start i e) ∙ append_assoc start (i ++ e) v
    ∙ ap (λ l. start ++ (i ++ e ++ l)) same

-- ---- items

filled_labels : (path : List ℕ) (vs : List Value) → 0 < length vs
    → items_at (found_by check.Label) path (map view vs) ≡ labels_at path (array (items_view vs))
filled_labels path [] filled = absurd (omega arith)
filled_labels path (v ∷ vs) filled = ap (λ ds. items_at (found_by check.Label) path (view v ∷ ds)) (sym (item_list-view vs))

pub labels_here : (path : List ℕ) (d : Data) (vs ws : List Value) → Some (items_view vs) ≡ as_array d → ws ≡ vs → 0 < length ws
    → items_at (found_by check.Label) path (map view ws) ≡ labels_at path d
labels_here path d vs ws is same filled =
    filled_labels path ws filled ∙ ap (λ us. labels_at path (array (items_view us))) same ∙ ap (labels_at path) (sym (array-of d _ is))

pub needs_here : (path : List ℕ) (d : Data) (vs ws : List Value) → Some (items_view vs) ≡ as_array d → ws ≡ vs
    → items_at (found_by check.Text) path (map view ws) ≡ needs_at path d
needs_here path d vs ws is same =
    ap (λ us. items_at (found_by check.Text) path (map view us)) same
    ∙ ap (items_at (found_by check.Text) path) (sym (items_here d vs is)) ∙ sym (if_so (is_some (as_array d)) _ _ (ap is_some is))

pub patterns_here : (path : List ℕ) (d : Data) (vs ws : List Value) → Some (items_view vs) ≡ as_array d → ws ≡ vs
    → items_at pattern_at path (map view ws) ≡ patterns_at path d
patterns_here path d vs ws is same =
    ap (λ us. items_at pattern_at path (map view us)) same ∙ ap (items_at pattern_at path) (sym (items_here d vs is))
    ∙ sym (if_so (is_some (as_array d)) _ _ (ap is_some is))

pub variable_here : (path : List ℕ) (d : Data) (vs ws : List Value) → Some (items_view vs) ≡ as_array d → ws ≡ vs → 0 < length ws
    → items_at (found_by check.MatrixValue) path (map view ws) ≡ variable_at path d
variable_here path d vs ws is same filled =
    let items : map view ws ≡ items_of d = ap (map view) same ∙ sym (items_here d vs is) in
    let some : 0 < length (map view ws) = rw length-map filled in
    ap (items_at (found_by check.MatrixValue) path) items
    ∙ sym (filled_so path (items_of d) _ (subst (λ (ds : List Data). 0 < length ds) items some))
    ∙ sym (if_so (is_some (as_array d)) _ _ (ap is_some is))

-- ---- members

pub pattern_here : (path : List ℕ) (d : Data) (es : List Entry) → Some (members_view es) ≡ as_object d → 0 < length es
    → members_at (found_by check.MatrixValue) path (map named es) ≡ pattern_at path d
pattern_here path d es is filled =
    let members : map named es ≡ members_of d = sym (members_here d es is) in
    let some : 0 < length (map named es) = rw length-map filled in
    ap (members_at (found_by check.MatrixValue) path) members
    ∙ sym (filled_so path (members_of d) _ (subst (λ (ms : List (List ℕ × Data)). 0 < length ms) members some))
    ∙ sym (if_so (is_some (as_object d)) _ _ (ap is_some is))

kept_named : (b : Bool) (e : Entry) (ms : List (List ℕ × Data)) (es : List Entry) → ms ≡ map named es
    → cond b (named e ∷ ms) ms ≡ map named (cond b (e ∷ es) es)
kept_named true e ms es h = ap (λ l. named e ∷ l) h
kept_named false e ms es h = h

filter_named : (es : List Entry) → filter (λ m. is_variable_name m.0) (map named es) ≡ map named (kept is_variable_name es)
filter_named [] = refl
filter_named (e ∷ es) = kept_named (is_variable_name (named e).0) e _ _ (filter_named es)

pub variables_here : (path : List ℕ) (d : Data) (es : List Entry) → Some (members_view es) ≡ as_object d
    → members_at variable_at path (map named (kept is_variable_name es)) ≡ members_at variable_at path (variables_in d)
variables_here path d es is =
    ap (members_at variable_at path) (sym (ap (filter (λ m. is_variable_name m.0)) (members_here d es is) ∙ filter_named es))

pub names_here : (d : Data) (es : List Entry) → Some (members_view es) ≡ as_object d
    → names_faults d ≡ fault_unless (list_all (λ e. is_strategy_name (named e).0) es) StrategyMember
names_here d es is =
    ap (λ ms. fault_unless (list_all (λ m. is_strategy_name m.0) ms) StrategyMember) (members_here d es is)
    ∙ ap (λ b. fault_unless b StrategyMember) (list_all-map (λ m. is_strategy_name m.0) named es)

members_in : (g : Option Data) (ms : Members) → Some ms ≡ option_and_then as_object g → members_of (unwrap_or g null) ≡ member_list ms
members_in None ms h = absurd cc
members_in (Some d) ms h = ap (λ o. member_list (unwrap_or o no_members)) (sym h)

pub jobs_here : (g : Option Data) (es : List Entry) → Some (members_view es) ≡ option_and_then as_object g
    → map named es ≡ members_of (unwrap_or g null)
jobs_here g es is = sym (members_in g (members_view es) is ∙ member_list-named es)

pub no_jobs : (g : Option Data) → None ≡ option_and_then as_object g → members_of (unwrap_or g null) ≡ []
no_jobs None h = refl
no_jobs (Some d) h = ap (λ o. member_list (unwrap_or o no_members)) (sym h)

-- ---- jobs

pub job_named : (jobs : List Job) (id : List ℕ) → is_job (map needs_of_job jobs) id ≡ list_any (λ job. bytes_eq id job.id) jobs
job_named [] id = refl
job_named (job ∷ jobs) id = rw (job_named jobs id)

-- a known id in needs
pub need_named : (jobs : List Job) (id : List ℕ) (i : ℕ) (need : List ℕ) → true ≡ list_any (λ job. bytes_eq need job.id) jobs
    → need_found (map needs_of_job jobs) id (i, need) ≡ []
need_named jobs id i need is = if_so (is_job (map needs_of_job jobs) need) [] _ (is ∙ sym (job_named jobs need))
