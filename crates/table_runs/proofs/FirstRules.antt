-- What the rule at the first site where one applies says of the run, the job or the leg there.
use Rattle.std.specs.Prelude.{◌≡◌, ◌&&◌, ℕ, List, Bool, true, false, IfSome, None, Some, option_and_then, if◌then◌else◌}
use Rattle.std.specs.List.{list_all}
use Rattle.std.proofs.Common.{ap, sym, subst, ◌∙◌}
use Rattle.std.proofs.lemmas.Bool.{and_parts}
use Rattle.std.proofs.lemmas.Option.{same_Some}
use Rattle.wf_value.specs.declared.outcome.JobResult.TheVariants as result
use Rattle.table_model.specs.Groups.{may_start}
use Rattle.table_model.specs.GroupLaw.{Transition, without_moves}
use Rattle.table_model.specs.Runs.{job_at, leg_at, run_at, with_job, with_run, JobState, LegState, RunState}
use Rattle.table_model.specs.Settling.{closing_rule, decided, leg_rule, leg_rule_in, may_run, opening_rule, rule_sites, result_at, rule_at, whole_rule, whole_rule_in}
use Rattle.table_model.specs.Settling.{applies, first_site}
use Rattle.table_model.specs.Runs.{is_blocked, is_done, is_finished, opened, run_in_phase, finished_as}
use Rattle.table_model.specs.LegContext.{is_stopping, needs_have_finished, planned_legs}
use Rattle.table_model.specs.declared.holder.Holder.TheVariants.{Leg, Run}
use Rattle.table_model.specs.declared.phases.LegPhase.{LegPhase}
use Rattle.table_model.specs.declared.phases.LegPhase.TheVariants as leg
use Rattle.table_model.specs.declared.phases.RunPhase.{RunPhase}
use Rattle.table_model.specs.declared.phases.RunPhase.TheVariants as run
use Rattle.table_model.specs.declared.sites.LegSite.{LegSite}
use Rattle.table_model.specs.declared.sites.RuleSite.{RuleSite}
use Rattle.table_model.specs.declared.sites.RuleSite.TheVariants.{AtLeg, Closing, Opening, Whole}
use Rattle.table_model.proofs.Found.{find_passes}
use Rattle.table_model.proofs.Optional.{from_and_then, if_some, some_of}
use Rattle.table_model.proofs.RunFits.{RunsFit}
use Rattle.table_model.proofs.Settles.{Settles}
use Rattle.settling_laws.proofs.SettlingKeeps.{first_rule_settles}

-- the rule that applies there
pub rule_there : (runs : List RunState) (site : RuleSite) → first_site runs ≡ Some site → (m : Transition) × (rule_at runs site ≡ Some m)
rule_there runs site first = some_of (rule_at runs site) (find_passes (applies runs) (rule_sites runs) site first)

pub first_settles : (runs : List RunState) (site : RuleSite) (m : Transition) → RunsFit runs → first_site runs ≡ Some site
    → rule_at runs site ≡ Some m → Settles runs m.runs
first_settles runs site m fit first at = first_rule_settles runs m fit (ap (option_and_then (rule_at runs)) first ∙ at)

-- ---- a job that opens

pub record Opens (runs : List RunState) (r j : ℕ) : Type 0 where
  pub job : JobState
  pub there : job_at runs r j ≡ Some job
  pub blocked : is_blocked job.phase ≡ true
  pub needs : needs_have_finished runs r j ≡ true
  pub settles : Settles runs (with_job r j (decided runs r j) runs)

pub opens : (runs : List RunState) (r j : ℕ) → RunsFit runs → first_site runs ≡ Some (Opening r j) → Opens runs r j
opens runs r j fit first =
    let rule = rule_there runs (Opening r j) first in
    let made = from_and_then (opening_rule runs r j) (job_at runs r j) rule.0 rule.1 in
    let y = made.value in
    let moved : Transition = without_moves (with_job r j (decided runs r j) runs) in
    let so = if_some (is_blocked y.phase && needs_have_finished runs r j) moved rule.0 made.gives in
    let parts = and_parts (is_blocked y.phase) (needs_have_finished runs r j) so.0 in
    record {
      job = y;
      there = made.is;
      blocked = parts.0;
      needs = parts.1;
      settles = subst (λ (m : Transition). Settles runs m.runs) (sym so.1) (first_settles runs (Opening r j) rule.0 fit first rule.1);
    }

-- where the condition holds, it opens with the legs of its plan
pub opens_where : (runs : List RunState) (r j : ℕ) → may_run runs r j ≡ true
    → with_job r j (decided runs r j) runs ≡ with_job r j (opened (planned_legs runs r j)) runs
opens_where runs r j may =
    ap (λ b. with_job r j (if b then opened (planned_legs runs r j) else finished_as (if is_stopping runs r then result.Cancelled else result.Skipped)) runs)
    may

pub finishes_where : (runs : List RunState) (r j : ℕ) (b : Bool) → may_run runs r j ≡ false → is_stopping runs r ≡ b
    → with_job r j (decided runs r j) runs ≡ with_job r j (finished_as (if b then result.Cancelled else result.Skipped)) runs
finishes_where runs r j b may stopping =
    ap (λ c. with_job r j (if c then opened (planned_legs runs r j) else finished_as (if is_stopping runs r then result.Cancelled else result.Skipped)) runs)
    may
    ∙ ap (λ c. with_job r j (finished_as (if c then result.Cancelled else result.Skipped)) runs) stopping

-- ---- a job that finishes

pub closes : (runs : List RunState) (r j : ℕ) (y : JobState) → RunsFit runs → first_site runs ≡ Some (Closing r j) → job_at runs r j ≡ Some y
    → Settles runs (with_job r j (finished_as (result_at runs r j y)) runs)
closes runs r j y fit first at =
    let rule = rule_there runs (Closing r j) first in
    let made = from_and_then (closing_rule runs r j) (job_at runs r j) rule.0 rule.1 in
    let same : made.value ≡ y = same_Some made.value y (sym made.is ∙ at) in
    let moved : JobState → Transition = λ z. without_moves (with_job r j (finished_as (result_at runs r j z)) runs) in
    let so = if_some (is_done made.value) (moved made.value) rule.0 made.gives in
    subst (λ (m : Transition). Settles runs m.runs) (sym so.1 ∙ ap moved same) (first_settles runs (Closing r j) rule.0 fit first rule.1)

-- ---- a run that begins or ends

its_rule : (runs : List RunState) (r : ℕ) (x : RunState) → first_site runs ≡ Some (Whole r) → run_at runs r ≡ Some x
    → (m : Transition) × (whole_rule runs r x ≡ Some m)
its_rule runs r x first at =
    let rule = rule_there runs (Whole r) first in (rule.0, sym (ap (option_and_then (whole_rule runs r)) at) ∙ rule.1)

pub run_may_start : (runs : List RunState) (r : ℕ) (x : RunState) → first_site runs ≡ Some (Whole r) → run_at runs r ≡ Some x
    → x.phase ≡ run.Waiting → may_start runs (Run r) ≡ true
run_may_start runs r x first at waiting =
    let rule = its_rule runs r x first at in
    let here = sym (ap (λ (phase : RunPhase). whole_rule_in phase runs r x) waiting) ∙ rule.1 in
    (if_some (may_start runs (Run r)) _ rule.0 here).0

pub run_may_end : (runs : List RunState) (r : ℕ) (x : RunState) → first_site runs ≡ Some (Whole r) → run_at runs r ≡ Some x
    → x.phase ≡ run.Live → list_all is_finished x.jobs ≡ true
run_may_end runs r x first at live =
    let rule = its_rule runs r x first at in
    let here = sym (ap (λ (phase : RunPhase). whole_rule_in phase runs r x) live) ∙ rule.1 in
    (if_some (list_all is_finished x.jobs) _ rule.0 here).0

-- ---- a leg that begins

pub leg_may_start : (runs : List RunState) (p : LegSite) (z : LegState) → first_site runs ≡ Some (AtLeg p) → leg_at runs p ≡ Some z
    → z.phase ≡ leg.Waiting → may_start runs (Leg p) ≡ true
leg_may_start runs p z first at waiting =
    let rule = rule_there runs (AtLeg p) first in
    let its = sym (ap (option_and_then (leg_rule runs p)) at) ∙ rule.1 in
    let here = sym (ap (λ (phase : LegPhase). leg_rule_in phase runs p) waiting) ∙ its in
    (if_some (may_start runs (Leg p)) _ rule.0 here).0

-- ---- what has been done there

taken_if : (new : List RunState) (b : Bool) (m : Transition) → new ≡ m.runs → IfSome (if b then Some m else None) (λ next. new ≡ next.runs)
taken_if new true m is = is
taken_if new false m is = tt

pub run_started : (runs new : List RunState) (r : ℕ) (x : RunState) → run_at runs r ≡ Some x → x.phase ≡ run.Waiting
    → new ≡ with_run r (run_in_phase run.Live) runs → IfSome (option_and_then (whole_rule runs r) (run_at runs r)) (λ next. new ≡ next.runs)
run_started runs new r x at waiting is =
    subst (λ o. IfSome (option_and_then (whole_rule runs r) o) (λ next. new ≡ next.runs)) (sym at)
    (subst (λ (phase : RunPhase). IfSome (whole_rule_in phase runs r x) (λ next. new ≡ next.runs)) (sym waiting)
    (taken_if new (may_start runs (Run r)) _ is))

pub run_ended : (runs new : List RunState) (r : ℕ) (x : RunState) → run_at runs r ≡ Some x → x.phase ≡ run.Live
    → new ≡ with_run r (run_in_phase run.Ended) runs → IfSome (option_and_then (whole_rule runs r) (run_at runs r)) (λ next. new ≡ next.runs)
run_ended runs new r x at live is =
    subst (λ o. IfSome (option_and_then (whole_rule runs r) o) (λ next. new ≡ next.runs)) (sym at)
    (subst (λ (phase : RunPhase). IfSome (whole_rule_in phase runs r x) (λ next. new ≡ next.runs)) (sym live)
    (taken_if new (list_all is_finished x.jobs) _ is))

pub run_has_ended : (runs new : List RunState) (r : ℕ) (x : RunState) → run_at runs r ≡ Some x → x.phase ≡ run.Ended
    → IfSome (option_and_then (whole_rule runs r) (run_at runs r)) (λ next. new ≡ next.runs)
run_has_ended runs new r x at ended =
    subst (λ o. IfSome (option_and_then (whole_rule runs r) o) (λ next. new ≡ next.runs)) (sym at)
    (subst (λ (phase : RunPhase). IfSome (whole_rule_in phase runs r x) (λ next. new ≡ next.runs)) (sym ended) tt)

pub no_run_there : (runs new : List RunState) (r : ℕ) → run_at runs r ≡ None
    → IfSome (option_and_then (whole_rule runs r) (run_at runs r)) (λ next. new ≡ next.runs)
no_run_there runs new r none = subst (λ o. IfSome (option_and_then (whole_rule runs r) o) (λ next. new ≡ next.runs)) (sym none) tt
