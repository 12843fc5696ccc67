-- What is bound for a run and its legs gives their groups, given the results of the run's jobs.
use Rattle.std.specs.Prelude.{◌≡◌, ℕ, zero, suc, List, [], ◌∷◌, length, Bool, false, Option, Some, None, option_map}
use Rattle.std.specs.Prelude.{option_and_then, slice_get, refl}
use Rattle.std.specs.Option.{option_map_or}
use Rattle.std.proofs.Common.{arith, ap, subst, sym, ◌∙◌}
use Rattle.wf_expr.specs.Bound.{Results}
use Rattle.wf_expr.specs.TemplateValue.{Values}
use Rattle.wf_reader.specs.Event.{event_of}
use Rattle.wf_reader.specs.declared.concurrency.Concurrency.{Concurrency}
use Rattle.group_name.specs.Group.{Group}
use Rattle.group_name.specs.BoundGroup.{group_at as bound_group_at}
use Rattle.run_plan.specs.PlanOf.{plan_of}
use Rattle.run_plan.specs.declared.planned.PlannedJob.{PlannedJob}
use Rattle.table_model.specs.Groups.{RunFacts, concurrency_of_leg, cancels_in_progress, group_at, leg_cancels, leg_group, named_group}
use Rattle.table_model.specs.Groups.{run_cancels, run_context, run_facts, run_facts_at, run_group}
use Rattle.table_model.specs.Holders.{run_of}
use Rattle.table_model.specs.Runs.{direct_needs, run_at, RunState}
use Rattle.table_model.specs.LegContext.{LegFacts, context_of, facts_at, is_set}
use Rattle.table_model.specs.declared.sites.LegSite.{LegSite}
use Rattle.table_bindings.specs.Bindings.{AreBound, RunSays, group_request_of}
use Rattle.table_bindings.specs.BoundGroups.{SaysSo, facts_by, is_set_by, results_by_index}
use Rattle.table_bindings.specs.declared.bindings.JobBindings.{JobBindings}
use Rattle.table_bindings.specs.declared.bindings.RunBindings.{RunBindings}
use Rattle.table_bindings.specs.declared.groups.GroupRequest.{GroupRequest}
use Rattle.table_model.specs.declared.holder.Holder.{Holder}
use Rattle.table_model.specs.declared.holder.Holder.TheVariants.{Run, Leg}

-- ---- one `concurrency`

says_group : (repository : List ℕ) (values : Results → Values) (requested : Option Concurrency) (kept : Option GroupRequest)
    → SaysSo repository values requested kept → (results : Results)
    → option_and_then (λ a. bound_group_at results a.group) kept ≡ option_and_then (named_group repository (values results)) requested
says_group repository values None None says results = refl
says_group repository values None (Some kept) says results = absurd says
says_group repository values (Some requested) None says results = absurd says
says_group repository values (Some requested) (Some kept) says results = says.group results

says_flag : (repository : List ℕ) (values : Results → Values) (requested : Option Concurrency) (kept : Option GroupRequest)
    → SaysSo repository values requested kept → (results : Results)
    → option_map_or (λ a. is_set_by results a.cancels) kept false
    ≡ option_map_or (λ c. is_set (values results) c.cancel_in_progress) requested false
says_flag repository values None None says results = refl
says_flag repository values None (Some kept) says results = absurd says
says_flag repository values (Some requested) None says results = absurd says
says_flag repository values (Some requested) (Some kept) says results = says.cancels results

-- ---- the facts of a run, and of a leg given the results of its run's jobs

pub run_told : (runs : List RunState) (r : ℕ) (x : RunState) → run_at runs r ≡ Some x → run_facts_at runs r ≡ Some (run_facts x)
unfolding run_facts_at
run_told runs r x at = ap (option_map run_facts) at

abbrev pub leg_facts_of : LegSite → RunState → PlannedJob → LegFacts
leg_facts_of p x job = facts_by (run_facts x) p.job job p.leg (results_by_index x)

pub leg_told : (runs : List RunState) (p : LegSite) (x : RunState) (job : PlannedJob) → run_at runs p.run ≡ Some x
    → slice_get (plan_of x.admitted.body) p.job ≡ Some job → facts_at runs p ≡ Some (leg_facts_of p x job)
unfolding facts_at direct_needs
leg_told runs p x job at planned =
    ap (option_and_then (λ (run : RunState). option_map (leg_facts_of p run) (slice_get (plan_of run.admitted.body) p.job))) at
    ∙ ap (option_map (leg_facts_of p x)) planned

run_untold : (runs : List RunState) (r : ℕ) → run_at runs r ≡ None → run_facts_at runs r ≡ None
unfolding run_facts_at
run_untold runs r none = ap (option_map run_facts) none

pub leg_untold : (runs : List RunState) (p : LegSite) → run_at runs p.run ≡ None → facts_at runs p ≡ None
unfolding facts_at direct_needs
leg_untold runs p none =
    ap (option_and_then (λ (run : RunState). option_map (leg_facts_of p run) (slice_get (plan_of run.admitted.body) p.job))) none

pub job_untold : (runs : List RunState) (p : LegSite) (x : RunState) → run_at runs p.run ≡ Some x
    → slice_get (plan_of x.admitted.body) p.job ≡ None → facts_at runs p ≡ None
unfolding facts_at direct_needs
job_untold runs p x at unplanned =
    ap (option_and_then (λ (run : RunState). option_map (leg_facts_of p run) (slice_get (plan_of run.admitted.body) p.job))) at
    ∙ ap (option_map (leg_facts_of p x)) unplanned

-- ---- lists of the same length

-- a list of the same length has an element at the same index
pub as_long : {X Y : Type 0} (xs : List X) (ys : List Y) (k : ℕ) (x : X) → length ys ≡ length xs → slice_get xs k ≡ Some x
    → (y : Y) × (slice_get ys k ≡ Some y)
as_long [] ys k x same at = cc
as_long (z ∷ xs) [] k x same at = absurd (omega (arith, same))
as_long (z ∷ xs) (y ∷ ys) zero x same at = (y, refl)
as_long (z ∷ xs) (y ∷ ys) (suc k) x same at = as_long xs ys k x (omega (arith, same)) at

-- a list of the same length has no element where the other has none
pub as_short : {X Y : Type 0} (xs : List X) (ys : List Y) (k : ℕ) → length ys ≡ length xs → slice_get xs k ≡ None → slice_get ys k ≡ None
as_short [] [] k same none = refl
as_short [] (y ∷ ys) k same none = absurd (omega (arith, same))
as_short (x ∷ xs) [] k same none = refl
as_short (x ∷ xs) (y ∷ ys) zero same none = cc
as_short (x ∷ xs) (y ∷ ys) (suc k) same none = as_short xs ys k (omega (arith, same)) none

-- ---- the bindings give the group and the flag, given the results of the run's jobs

abbrev pub group_by : RunState → Option GroupRequest → Option Group
group_by x o = option_and_then (λ a. bound_group_at (results_by_index x) a.group) o

abbrev pub flag_by : RunState → Option GroupRequest → Bool
flag_by x o = option_map_or (λ a. is_set_by (results_by_index x) a.cancels) o false

-- both for a holder of this run
abbrev pub SaysBoth : List RunState → Holder → RunState → RunBindings → Type 0
SaysBoth runs h x k = (group_by x (group_request_of k h) ≡ group_at runs h) × (flag_by x (group_request_of k h) ≡ cancels_in_progress runs h)

module _ (runs : List RunState) (kept : List RunBindings) (bound : AreBound runs kept) where
  pub run_says : (r : ℕ) (x : RunState) (k : RunBindings) → run_at runs r ≡ Some x → slice_get kept r ≡ Some k
      → RunSays (run_facts x) k
  run_says r x k at is = bound.each r (run_facts x) k (run_told runs r x at) is

module _ (runs : List RunState) where
  leg_says : (p : LegSite) (x : RunState) (k : RunBindings) → run_at runs p.run ≡ Some x
      → RunSays (run_facts x) k → (o : Option PlannedJob) → slice_get (plan_of x.admitted.body) p.job ≡ o
      → group_by x (group_request_of k (Leg p)) ≡ option_and_then leg_group (facts_at runs p)
      × flag_by x (group_request_of k (Leg p)) ≡ option_map_or leg_cancels (facts_at runs p) false
  leg_says p x k at says None unplanned =
      let none : group_request_of k (Leg p) ≡ None =
      ap (option_and_then (λ (job : JobBindings). slice_get job.groups p.leg))
      (as_short (plan_of x.admitted.body) k.jobs p.job says.as_many unplanned) in
      let untold = job_untold runs p x at unplanned in (
        ap (group_by x) none ∙ sym (ap (option_and_then leg_group) untold),
        ap (flag_by x) none ∙ sym (ap (λ o. option_map_or leg_cancels o false) untold),
      )
  leg_says p x k at run (Some job) planned =
      let f = run_facts x in
      let repo = (event_of f.event.body).repo in
      let values : Results → Values = λ results. context_of (facts_by f p.job job p.leg results) in
      let bindings = as_long (plan_of x.admitted.body) k.jobs p.job job run.as_many planned in
      let says = subst
      (λ (o : Option JobBindings). SaysSo repo values (concurrency_of_leg job p.leg) (option_and_then (λ (a : JobBindings). slice_get a.groups p.leg) o))
      (sym bindings.1) ((run.jobs p.job bindings.0 bindings.1 job planned).groups p.leg) in
      let identity = leg_told runs p x job at planned in (
        says_group repo values (concurrency_of_leg job p.leg) (group_request_of k (Leg p)) says (results_by_index x)
            ∙ sym (ap (option_and_then leg_group) identity),
        says_flag repo values (concurrency_of_leg job p.leg) (group_request_of k (Leg p)) says (results_by_index x)
            ∙ sym (ap (λ o. option_map_or leg_cancels o false) identity),
      )

  both_said : (h : Holder) (x : RunState) (k : RunBindings) → run_at runs (run_of h) ≡ Some x
      → RunSays (run_facts x) k → SaysBoth runs h x k
  unfolding group_at cancels_in_progress
  both_said (Run r) x k at says =
      let f = run_facts x in
      let event = event_of f.event.body in
      let identity = run_told runs r x at in (
        says_group event.repo (λ results. run_context f) event.workflow.concurrency k.own says.own (results_by_index x)
            ∙ sym (ap (option_and_then run_group) identity),
        says_flag event.repo (λ results. run_context f) event.workflow.concurrency k.own says.own (results_by_index x)
            ∙ sym (ap (λ o. option_map_or run_cancels o false) identity),
      )
  both_said (Leg p) x k at says = leg_says p x k at says (slice_get (plan_of x.admitted.body) p.job) refl

  -- both, from the bindings at the index of the holder's run
  pub said_there : (h : Holder) (x : RunState) (k : RunBindings) (r : ℕ) → r ≡ run_of h → run_at runs (run_of h) ≡ Some x
      → ((facts : RunFacts) → run_facts_at runs r ≡ Some facts → RunSays facts k)
      → SaysBoth runs h x k
  said_there h x k r is at says =
      both_said h x k at (says (run_facts x) (ap (run_facts_at runs) is ∙ run_told runs (run_of h) x at))

-- ---- without a run there is neither group nor flag

pub no_group : (runs : List RunState) (h : Holder) → run_at runs (run_of h) ≡ None → group_at runs h ≡ None
unfolding group_at
no_group runs (Run r) none = ap (option_and_then run_group) (run_untold runs r none)
no_group runs (Leg p) none = ap (option_and_then leg_group) (leg_untold runs p none)
