-- The bound flag of a leg, with the results so far, is whether its failure is ignored.
use Rattle.std.specs.Prelude.{◌≡◌, ◌≤◌, ◌<◌, ◌&&◌, ℕ, zero, suc, true, false, List, [], ◌∷◌, length, Some, None, is_some, option_and_then, slice_get, refl}
use Rattle.std.specs.Option.{option_map_or}
use Rattle.std.proofs.Common.{arith, ap, sym, ◌∙◌}
use Rattle.std.proofs.lemmas.Option.{slice_get_past, slice_get_within}
use Rattle.wf_expr.specs.TemplateValue.{Values}
use Rattle.wf_expr.specs.declared.piece.Piece.{Piece}
use Rattle.wf_reader.specs.declared.flag.Flag.{Flag}
use Rattle.wf_reader.specs.declared.flag.Flag.TheVariants as flag
use Rattle.run_plan.specs.PlanOf.{plan_of}
use Rattle.run_plan.specs.declared.planned.PlannedJob.{PlannedJob}
use Rattle.table_model.specs.Groups.{RunFacts, run_facts, run_facts_at}
use Rattle.table_model.specs.LegContext.{context_at, continues_on_error, is_set, is_set_for}
use Rattle.table_model.specs.Runs.{plan_at, run_at, RunState}
use Rattle.table_model.specs.declared.sites.LegSite.{LegSite}
use Rattle.table_model.proofs.Optional.{from_and_then}
use Rattle.table_bindings.specs.Bindings.{RunSays, flag_for}
use Rattle.table_bindings.specs.BoundFlags.{FlagsSay, flags_bound}
use Rattle.table_bindings.specs.BoundGroups.{is_set_by, results_by_index}
use Rattle.table_bindings.specs.declared.bindings.JobBindings.{JobBindings}
use Rattle.table_bindings.specs.declared.bindings.RunBindings.{RunBindings}
use Rattle.table_bindings.specs.declared.groups.BoundFlag.{BoundFlag}
use Rattle.table_bindings.proofs.BoundSays.{run_told}
use Rattle.table_runs.proofs.KnownSays.{context_told}

-- whether a failure of a leg of this job is ignored
pub by_plan : (runs : List RunState) (p : LegSite) (job : PlannedJob) → plan_at runs p.run p.job ≡ Some job
    → continues_on_error runs p ≡ is_set_for (context_at runs p) job p.leg
by_plan runs p job planned = ap (λ o. option_map_or (λ (j : PlannedJob). is_set_for (context_at runs p) j p.leg) o false) planned

-- if the plan has the leg, its failure is ignored if the job's flag is set in the leg's context
pub by_flag : (runs : List RunState) (p : LegSite) (job : PlannedJob) → plan_at runs p.run p.job ≡ Some job
    → is_some (slice_get job.legs p.leg) ≡ true → continues_on_error runs p ≡ is_set (context_at runs p) job.continue_on_error
by_flag runs p job planned has =
    by_plan runs p job planned ∙ ap (λ b. b && is_set (context_at runs p) job.continue_on_error) has

-- where the plan does not have the leg, it is not
pub no_leg : (runs : List RunState) (p : LegSite) (job : PlannedJob) → plan_at runs p.run p.job ≡ Some job
    → is_some (slice_get job.legs p.leg) ≡ false → continues_on_error runs p ≡ false
no_leg runs p job planned none =
    by_plan runs p job planned ∙ ap (λ b. b && is_set (context_at runs p) job.continue_on_error) none

-- ---- places in lists

there_within : {X : Type 0} (xs : List X) (i : ℕ) → i < length xs → (x : X) × (slice_get xs i ≡ Some x)
there_within [] i lt = absurd (omega (arith, lt))
there_within (x ∷ xs) zero lt = (x, refl)
there_within (x ∷ xs) (suc i) lt = there_within xs i (omega (arith, lt))

pub some_within : {X : Type 0} (xs : List X) (i : ℕ) → i < length xs → is_some (slice_get xs i) ≡ true
some_within xs i lt = ap is_some (there_within xs i lt).1

past_end : {X : Type 0} (xs : List X) (i : ℕ) → slice_get xs i ≡ None → length xs ≤ i
past_end [] i none = omega arith
past_end (x ∷ xs) zero none = cc
past_end (x ∷ xs) (suc i) none = omega (arith, past_end xs i none)

-- ---- what was bound

planned_there : (runs : List RunState) (p : LegSite) (x : RunState) (job : PlannedJob) → run_at runs p.run ≡ Some x
    → plan_at runs p.run p.job ≡ Some job → slice_get (plan_of x.admitted.body) p.job ≡ Some job
planned_there runs p x job at planned =
    sym (ap (option_and_then (λ (run : RunState). slice_get (plan_of run.admitted.body) p.job)) at) ∙ planned

no_more_flags : (flag : Flag) (legs : ℕ) → flags_bound flag legs ≤ legs
no_more_flags (flag.Fixed set) legs = omega arith
no_more_flags (flag.Template template) legs = omega arith

-- a flag is bound only for a leg that the plan has
leg_of_flag : (run : RunFacts) (j : ℕ) (job : PlannedJob) (flags : List BoundFlag) (l : ℕ) (bound : BoundFlag) → FlagsSay run j job flags
    → slice_get flags l ≡ Some bound → is_some (slice_get job.legs l) ≡ true
leg_of_flag run j job flags l bound says is =
    let bounds = no_more_flags job.continue_on_error (length job.legs) in
    let within : l < length job.legs = omega (arith, slice_get_within flags l bound is, says.many, bounds) in
    some_within job.legs l within

pub flag_said : (runs : List RunState) (p : LegSite) (x : RunState) (job : PlannedJob) (k : RunBindings) (bound : BoundFlag)
    → run_at runs p.run ≡ Some x → plan_at runs p.run p.job ≡ Some job
    → ((facts : RunFacts) → run_facts_at runs p.run ≡ Some facts → RunSays facts k)
    → flag_for k p.job p.leg ≡ Some bound → is_set_by (results_by_index x) bound ≡ continues_on_error runs p
flag_said runs p x job k bound at planned says is =
    let there = planned_there runs p x job at planned in
    let facts = run_facts x in
    let bindings = from_and_then (λ (a : JobBindings). slice_get a.flags p.leg) (slice_get k.jobs p.job) bound is in
    let flags = ((says facts (run_told runs p.run x at)).jobs p.job bindings.value bindings.is job there).flags in
    flags.each p.leg bound bindings.gives (results_by_index x)
    ∙ ap (λ (values : Values). is_set values job.continue_on_error) (sym (context_told runs p x job at there))
    ∙ sym (by_flag runs p job planned (leg_of_flag facts p.job job bindings.value.flags p.leg bound flags bindings.gives))

none_found : (job : PlannedJob) (template : List Piece) (flags : List BoundFlag) (l : ℕ) → job.continue_on_error ≡ flag.Template template
    → length flags ≡ flags_bound job.continue_on_error (length job.legs) → slice_get flags l ≡ None → is_some (slice_get job.legs l) ≡ false
none_found job template flags l is many none =
    let past : length flags ≤ l = past_end flags l none in
    let same : flags_bound job.continue_on_error (length job.legs) ≡ length job.legs = ap (λ f. flags_bound f (length job.legs)) is in
    ap is_some (slice_get_past job.legs l (omega (arith, past, many, same)))

-- where the job's flag is a template and none was bound for the leg, the plan does not have the leg
pub nothing_bound : (runs : List RunState) (p : LegSite) (x : RunState) (job : PlannedJob) (template : List Piece) (k : RunBindings)
    → run_at runs p.run ≡ Some x → plan_at runs p.run p.job ≡ Some job → job.continue_on_error ≡ flag.Template template
    → ((facts : RunFacts) → run_facts_at runs p.run ≡ Some facts → RunSays facts k)
    → flag_for k p.job p.leg ≡ None → continues_on_error runs p ≡ false
nothing_bound runs p x job template k at planned is says none =
    let there = planned_there runs p x job at planned in
    let said = says (run_facts x) (run_told runs p.run x at) in
    let inside : p.job < length k.jobs =
    omega (arith, said.as_many, slice_get_within (plan_of x.admitted.body) p.job job there) in
    let bindings = there_within k.jobs p.job inside in
    let flags = (said.jobs p.job bindings.0 bindings.1 job there).flags in
    no_leg runs p job planned
    (none_found job template bindings.0.flags p.leg is flags.many
    (sym (ap (option_and_then (λ (a : JobBindings). slice_get a.flags p.leg)) bindings.1) ∙ none))
