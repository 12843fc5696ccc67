-- Whatever the results, the bound templates of a leg give what its templates give once the results are known.
use Rattle.std.specs.Prelude.{◌≡◌, ℕ, zero, suc, ◌+◌, List, [], ◌∷◌, ◌++◌, ◌&&◌, length, filter_map, find, codes, Bool, true, false, Option}
use Rattle.std.specs.Prelude.{Some, None}
use Rattle.std.specs.Prelude.{option_map, option_and_then, slice_get, if◌then◌else◌, refl}
use Rattle.std.specs.List.{cons_option, slice_index_or}
use Rattle.std.specs.Option.{option_map_or, option_or}
use Rattle.std.specs.Str.{bytes_eq}
use Rattle.std.proofs.Common.{arith, ap, inl, inr, sym, subst, ◌∙◌}
use Rattle.std.proofs.lemmas.Bool.{and_parts}
use Rattle.std.proofs.lemmas.List.{length-append}
use Rattle.std.proofs.lemmas.Slice.Eq.{bytes_eq-Decides}
use Rattle.wf_value.specs.ScalarValue.{scalar_text, result_word}
use Rattle.wf_value.specs.declared.outcome.JobResult.{JobResult}
use Rattle.wf_value.specs.declared.scalar.Scalar.{Scalar}
use Rattle.wf_value.specs.declared.scalar.Scalar.TheVariants.{Null, Truth, Whole, Text}
use Rattle.wf_value.proofs.OptionOr.{or_none}
use Rattle.wf_expr.specs.Bound.{HasResults, Results, no_results, result_value}
use Rattle.wf_expr.specs.TemplateValue.{Values, sets_flag}
use Rattle.wf_expr.proofs.FlagLemmas.{flag-text}
use Rattle.wf_reader.specs.Contexts.{ContextObjects, sent_value}
use Rattle.wf_reader.specs.Event.{event_of}
use Rattle.wf_reader.specs.declared.concurrency.Concurrency.{Concurrency}
use Rattle.needs_graph.specs.Needs.{needs_at}
use Rattle.definitions.specs.SmallText.{Admitted}
use Rattle.run_plan.specs.PlanOf.{plan_graph, plan_of}
use Rattle.run_plan.specs.declared.planned.PlannedJob.{PlannedJob}
use Rattle.run_plan.specs.declared.planned.PlannedLeg.{PlannedLeg}
use Rattle.table_model.specs.Groups.{RunFacts, concurrency_of_leg}
use Rattle.table_model.specs.Runs.{direct_needs, has_id, needs_in, results_so_far, RunState}
use Rattle.table_model.specs.LegContext.{LegFacts, context_of, under}
use Rattle.table_bindings.specs.BoundGroups.{Says, SaysSo, facts_by, need_of_job}
use Rattle.table_bindings.specs.declared.groups.GroupRequest.{GroupRequest}
use Rattle.table_bindings.proofs.BoundSays.{as_long, as_short}

-- ---- flags

-- a value sets a flag if its text is `true`
flag_of_text : (value : Scalar) (b : Bool) → bytes_eq (scalar_text value) (codes "true") ≡ b → sets_flag value ≡ b
flag_of_text Null b is = is
flag_of_text (Truth true) b is = is
flag_of_text (Truth false) b is = is
flag_of_text (Whole n) true is =
    elim ((flag-text (Whole n)).1 ((bytes_eq-Decides (scalar_text (Whole n)) (codes "true")).0 is)) [ inl e ↦ cc | inr e ↦ cc ]
flag_of_text (Whole n) false is = refl
flag_of_text (Text t) b is = is

pub flag_by_text : (value : Scalar) (text : List ℕ) → scalar_text value ≡ text → bytes_eq text (codes "true") ≡ sets_flag value
flag_by_text value text is =
    sym (flag_of_text value (bytes_eq text (codes "true")) (ap (λ t. bytes_eq t (codes "true")) is))

-- ---- the result of a job that a leg's job needs, by its id

one_of_them : (id : List ℕ) (results : Results) (k : ℕ) (o : Option PlannedJob) (more : List (List ℕ × Option JobResult)) (found : Option ℕ)
    → option_and_then (λ r. r) (under id more) ≡ option_and_then results found
    → option_and_then (λ r. r) (under id (cons_option (option_map (λ planned. (planned.id, results k)) o) more))
    ≡ option_and_then results (if option_map_or (λ planned. bytes_eq planned.id id) o false then Some k else found)
one_of_them id results k None more found rest = rest
one_of_them id results k (Some planned) more found rest =
    elim (bytes_eq planned.id id) as
    (λ b. option_and_then (λ r. r) (option_map (λ (p : List ℕ × Option JobResult). p.1)
    (if b then Some (planned.id, results k) else find (λ p. bytes_eq p.0 id) more))
    ≡ option_and_then results (if b then Some k else found)) [
      | true ↦ refl
      | false ↦ rest
    ]

result_of_id : (id : List ℕ) (plan : List PlannedJob) (results : Results) (indexes : List ℕ)
    → option_and_then (λ r. r)
    (under id (filter_map (λ k. option_map (λ (planned : PlannedJob). (planned.id, results k)) (slice_get plan k)) indexes))
    ≡ option_and_then results (find (has_id plan id) indexes)
unfolding has_id
result_of_id id plan results [] = refl
result_of_id id plan results (k ∷ indexes) =
    one_of_them id results k (slice_get plan k)
    (filter_map (λ i. option_map (λ (planned : PlannedJob). (planned.id, results i)) (slice_get plan i)) indexes)
    (find (has_id plan id) indexes) (result_of_id id plan results indexes)

-- ---- the sender gives no results of needs

nothing_sent : (contexts : ContextObjects) (context : List ℕ) (path : List (List ℕ)) → bytes_eq context (codes "needs") ≡ true
    → sent_value contexts (context ∷ path) ≡ None
nothing_sent contexts context path is =
    ap (λ name. sent_value contexts (name ∷ path)) ((bytes_eq-Decides context (codes "needs")).0 is)

-- ---- the context of a leg, given results

-- what is bound for a path of needs, and the value of the path once results are known
by_need : (results : Results) (found : Option ℕ) (later now : Option JobResult) (sent : Option Scalar)
    → later ≡ option_and_then results found → (found ≡ None → now ≡ None) → sent ≡ None
    → option_or (option_map (λ r. Text (result_word r)) later) sent
    ≡ option_map_or (λ need. result_value (results need)) found (option_or (option_map (λ r. Text (result_word r)) now) sent)
by_need results None later now sent is none nothing =
    ap (λ o. option_or (option_map (λ r. Text (result_word r)) o) sent) (is ∙ sym (none refl))
by_need results (Some k) later now sent is none nothing =
    ap (λ o. option_or (option_map (λ r. Text (result_word r)) o) sent) is
    ∙ ap (option_or (result_value (results k))) nothing
    ∙ or_none (result_value (results k))

inner_by : (results : Results) (b : Bool) (found : Option ℕ) (later now : Option JobResult) (sent : Option Scalar)
    → later ≡ option_and_then results found → (found ≡ None → now ≡ None) → (b ≡ true → sent ≡ None)
    → option_or (if b then option_map (λ r. Text (result_word r)) later else None) sent
    ≡ option_map_or (λ need. result_value (results need)) (if b then found else None)
    (option_or (if b then option_map (λ r. Text (result_word r)) now else None) sent)
inner_by results true found later now sent is none nothing = by_need results found later now sent is none (nothing refl)
inner_by results false found later now sent is none nothing = refl

-- the facts of a leg whose job's needs have these results
abbrev facts_with : RunFacts → PlannedJob → ℕ → List (List ℕ × Option JobResult) → LegFacts
facts_with run job l needs = record {
  event = run.event;
  run_id = run.run_id;
  run_number = run.run_number;
  run_attempt = run.run_attempt;
  job = job;
  leg = l;
  needs = needs;
}

-- if a job that is not needed has no result in the facts, the context lacks only the results of needs
has_results_later : (run : RunFacts) (job : PlannedJob) (j l : ℕ) (needs : List (List ℕ × Option JobResult)) (results : Results)
    → ((id : List ℕ) → find (has_id (plan_of run.event.body) id) (needs_at (plan_graph (plan_of run.event.body)) j) ≡ None
    → option_and_then (λ r. r) (under id needs) ≡ None)
    → HasResults (context_of (facts_with run job l needs)) (need_of_job (plan_of run.event.body) j) results
    (context_of (facts_by run j job l results))
has_results_later run job j l needs results others [] = refl
has_results_later run job j l needs results others (context ∷ []) = refl
has_results_later run job j l needs results others (context ∷ name ∷ []) = refl
has_results_later run job j l needs results others (context ∷ inner ∷ name ∷ []) =
    let plan = plan_of run.event.body in
    let indexes = needs_at (plan_graph plan) j in
    inner_by results (bytes_eq context (codes "needs") && bytes_eq name (codes "result")) (find (has_id plan inner) indexes)
    (option_and_then (λ r. r) (under inner (filter_map
    (λ k. option_map (λ (planned : PlannedJob). (planned.id, results k)) (slice_get plan k)) indexes)))
    (option_and_then (λ r. r) (under inner needs))
    (sent_value (event_of run.event.body).contexts (context ∷ inner ∷ name ∷ []))
    (result_of_id inner plan results indexes) (others inner)
    (λ both. nothing_sent (event_of run.event.body).contexts context (inner ∷ name ∷ [])
    (and_parts (bytes_eq context (codes "needs")) (bytes_eq name (codes "result")) both).0)
has_results_later run job j l needs results others (context ∷ inner ∷ name ∷ more ∷ names) = refl

abbrev pub told_of : RunState → List ℕ → List ℕ → List ℕ → RunFacts
told_of run id number attempt = record { event = run.admitted; run_id = id; run_number = number; run_attempt = attempt }

-- the facts of a leg when its run is admitted
abbrev pub facts_now : RunState → List ℕ → List ℕ → List ℕ → PlannedJob → ℕ → ℕ → LegFacts
facts_now run id number attempt job j l = facts_with (told_of run id number attempt) job l (direct_needs run j)

none_needed : (run : RunState) (j : ℕ) (id : List ℕ) → find (has_id (plan_of run.admitted.body) id) (needs_at (needs_in run) j) ≡ None
    → option_and_then (λ r. r) (under id (direct_needs run j)) ≡ None
unfolding direct_needs
none_needed run j id none =
    result_of_id id (plan_of run.admitted.body) (λ k. slice_index_or (results_so_far run.jobs) k None) (needs_at (needs_in run) j)
    ∙ ap (option_and_then (λ k. slice_index_or (results_so_far run.jobs) k None)) none

pub leg_has_results : (run : RunState) (id number attempt : List ℕ) (job : PlannedJob) (j l : ℕ) (results : Results)
    → HasResults (context_of (facts_now run id number attempt job j l)) (need_of_job (plan_of run.admitted.body) j) results
    (context_of (facts_by (told_of run id number attempt) j job l results))
leg_has_results run id number attempt job j l results =
    has_results_later (told_of run id number attempt) job j l (direct_needs run j) results (none_needed run j)

-- the context of a leg before any result lacks only the results of needs
pub leg_has_results_at_last : (run : RunFacts) (job : PlannedJob) (j l : ℕ) (results : Results)
    → HasResults (context_of (facts_by run j job l no_results)) (need_of_job (plan_of run.event.body) j) results
    (context_of (facts_by run j job l results))
leg_has_results_at_last run job j l results =
    let plan = plan_of run.event.body in
    let indexes = needs_at (plan_graph plan) j in
    has_results_later run job j l (facts_by run j job l no_results).needs results
    (λ id none. result_of_id id plan no_results indexes ∙ ap (option_and_then no_results) none)

-- what holds for the needs in the plan of an event holds for those in the plan of its run
pub by_needs : (values : Values) (needs : RunState × ℕ) (event : Admitted) (j : ℕ) (later : Results → Values)
    → needs.0.admitted ≡ event → needs.1 ≡ j
    → ((results : Results) → HasResults values (need_of_job (plan_of event.body) j) results (later results))
    → (results : Results) → HasResults values (need_of_job (plan_of needs.0.admitted.body) needs.1) results (later results)
by_needs values needs event j later is at has results =
    subst (λ (a : Admitted). HasResults values (need_of_job (plan_of a.body) needs.1) results (later results)) (sym is)
    (subst (λ (i : ℕ). HasResults values (need_of_job (plan_of event.body) i) results (later results)) (sym at) (has results))

-- ---- one more element is bound

pub one_more : {X : Type 0} (P : ℕ → X → Type 0) (xs : List X) (x : X) → ((k : ℕ) (y : X) → slice_get xs k ≡ Some y → P k y)
    → P (length xs) x → (k : ℕ) (y : X) → slice_get (xs ++ x ∷ []) k ≡ Some y → P k y
one_more P [] x each here zero y at = let same : x ≡ y = cc in subst (P 0) same here
one_more P [] x each here (suc k) y at = cc
one_more P (z ∷ xs) x each here zero y at = each 0 y at
one_more P (z ∷ xs) x each here (suc k) y at = one_more (λ i. P (suc i)) xs x (λ i w is. each (suc i) w is) here k y at

-- and appended to the elements so far
pub one_pushed : {X : Type 0} (P : ℕ → X → Type 0) (old now : List X) (x : X) (n : ℕ) → now ≡ old ++ x ∷ [] → length old ≡ n
    → ((k : ℕ) (y : X) → slice_get old k ≡ Some y → P k y) → P n x
    → (length now ≡ n + 1) × ((k : ℕ) (y : X) → slice_get now k ≡ Some y → P k y)
one_pushed {X} P old now x n is many each here = (
  omega (arith, length-append old (x ∷ []), ap length is, many),
  subst (λ (items : List X). (k : ℕ) (y : X) → slice_get items k ≡ Some y → P k y) (sym is)
      (one_more P old x each (subst (λ (k : ℕ). P k x) (sym many) here)),
)

-- ---- the legs of a job

requested_where : (repository : List ℕ) (values : Results → Values) (requested : Concurrency) (legs : List PlannedLeg) (kept : List GroupRequest) (l : ℕ)
    → length kept ≡ length legs → ((k : GroupRequest) → slice_get kept l ≡ Some k → Says repository values requested k)
    → (o : Option PlannedLeg) → slice_get legs l ≡ o → (p : Option GroupRequest) → slice_get kept l ≡ p
    → SaysSo repository values (option_and_then (λ _. Some requested) o) p
requested_where repository values requested legs kept l same each None at None is = tt
requested_where repository values requested legs kept l same each None at (Some k) is =
    let none : slice_get kept l ≡ None = as_short legs kept l same at in
    let bad : Some k ≡ None = sym is ∙ none in
    cc
requested_where repository values requested legs kept l same each (Some leg) at None is =
    let some = as_long legs kept l leg same at in
    let bad : None ≡ Some some.0 = sym is ∙ some.1 in
    cc
requested_where repository values requested legs kept l same each (Some leg) at (Some k) is = each k is

pub legs_say : (repository : List ℕ) (values : ℕ → Results → Values) (job : PlannedJob) (requested : Concurrency) (kept : List GroupRequest)
    → job.concurrency ≡ Some requested → length kept ≡ length job.legs
    → ((l : ℕ) (k : GroupRequest) → slice_get kept l ≡ Some k → Says repository (values l) requested k)
    → (l : ℕ) → SaysSo repository (values l) (concurrency_of_leg job l) (slice_get kept l)
legs_say repository values job requested kept is same each l =
    subst (λ (o : Option Concurrency). SaysSo repository (values l) (option_and_then (λ _. o) (slice_get job.legs l)) (slice_get kept l))
    (sym is)
    (requested_where repository (values l) requested job.legs kept l same (each l) (slice_get job.legs l) refl (slice_get kept l) refl)
