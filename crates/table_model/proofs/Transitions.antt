-- A change of a leg that was read, and the runs after the rules of a job.
use Rattle.std.specs.Prelude.{◌≡◌, ℕ, zero, suc, List, [], ◌∷◌, Bool, true, false, Option, Some, None, IfSome, is_some}
use Rattle.std.specs.Prelude.{option_map, option_and_then, slice_get, if◌then◌else◌, refl}
use Rattle.std.proofs.Common.{ap, subst, sym, ◌∙◌}
use Rattle.std.proofs.lemmas.Option.{same_Some}
use Rattle.table_model.specs.Runs.{changed_at, job_at, leg_at, with_job, with_leg, LegState, JobState, RunState}
use Rattle.table_model.specs.GroupLaw.{Transition, without_moves}
use Rattle.table_model.specs.declared.sites.LegSite.{LegSite}
use Rattle.table_model.specs.Settling.{is_done, finished_as, result_at, closing_rule, rule_sites, rule_at, applies, first_site, first_rule}
use Rattle.table_model.specs.declared.sites.RuleSite.{RuleSite}
use Rattle.table_model.proofs.Found.{find_passes}

-- two changes that agree on the element at the index
pub changed_same : {X : Type 0} (xs : List X) (i : ℕ) (f g : X → X) → ((x : X) → slice_get xs i ≡ Some x → f x ≡ g x)
    → changed_at i f xs ≡ changed_at i g xs
changed_same [] i f g same = refl
changed_same (x ∷ xs) zero f g same = ap (λ w. w ∷ xs) (same x refl)
changed_same (x ∷ xs) (suc i) f g same = ap (λ ws. x ∷ ws) (changed_same xs i f g same)

leg_there : (runs : List RunState) (p : LegSite) (run : RunState) (job : JobState) (leg : LegState) → slice_get runs p.run ≡ Some run
    → slice_get run.jobs p.job ≡ Some job → slice_get job.legs p.leg ≡ Some leg → leg_at runs p ≡ Some leg
leg_there runs p run job leg at_run at_job at_leg =
    ap (λ o. option_and_then (λ x. slice_get x.legs p.leg) (option_and_then (λ x. slice_get x.jobs p.job) o)) at_run
    ∙ ap (option_and_then (λ x. slice_get x.legs p.leg)) at_job ∙ at_leg

with_leg_same : (runs : List RunState) (p : LegSite) (f g : LegState → LegState)
    → ((leg : LegState) → leg_at runs p ≡ Some leg → f leg ≡ g leg) → with_leg p f runs ≡ with_leg p g runs
with_leg_same runs p f g same =
    let in_job : (LegState → LegState) → JobState → JobState = λ h job. record job { legs = changed_at p.leg h job.legs } in
    let in_run : (LegState → LegState) → RunState → RunState = λ h run. record run { jobs = changed_at p.job (in_job h) run.jobs } in
    changed_same runs p.run (in_run f) (in_run g)
    (λ run at_run. ap (λ js. record run { jobs = js })
    (changed_same run.jobs p.job (in_job f) (in_job g)
    (λ job at_job. ap (λ ls. record job { legs = ls })
    (changed_same job.legs p.leg f g (λ leg at_leg. same leg (leg_there runs p run job leg at_run at_job at_leg))))))

-- the leg that was read, changed and put back
pub with_leg_read : (runs : List RunState) (p : LegSite) (x : LegState) (f : LegState → LegState) → leg_at runs p ≡ Some x
    → with_leg p (λ _. f x) runs ≡ with_leg p f runs
with_leg_read runs p x f at = with_leg_same runs p (λ _. f x) f (λ leg is. ap f (same_Some x leg (sym at ∙ is)))

nothing_there : (x y : LegState) → None ≡ Some x → y ≡ x
nothing_there x y h = cc

pub changed_none : {X : Type 0} (xs : List X) (i : ℕ) (f : X → X) → ((x : X) → slice_get xs i ≡ Some x → f x ≡ x) → xs ≡ changed_at i f xs
changed_none [] i f same = refl
changed_none (x ∷ xs) zero f same = ap (λ w. w ∷ xs) (sym (same x refl))
changed_none (x ∷ xs) (suc i) f same = ap (λ ws. x ∷ ws) (changed_none xs i f same)

-- a change that leaves the leg as it is leaves the runs as they are
pub with_leg_stays : (runs : List RunState) (p : LegSite) (f : LegState → LegState)
    → ((leg : LegState) → leg_at runs p ≡ Some leg → f leg ≡ leg) → runs ≡ with_leg p f runs
with_leg_stays runs p f same =
    let in_job : JobState → JobState = λ job. record job { legs = changed_at p.leg f job.legs } in
    let in_run : RunState → RunState = λ run. record run { jobs = changed_at p.job in_job run.jobs } in
    changed_none runs p.run in_run
    (λ run at_run. ap (λ js. record run { jobs = js })
    (sym (changed_none run.jobs p.job in_job
    (λ job at_job. ap (λ ls. record job { legs = ls })
    (sym (changed_none job.legs p.leg f
    (λ leg at_leg. same leg (leg_there runs p run job leg at_run at_job at_leg))))))))

-- if there is no leg, nothing changes
pub with_leg_none : (runs : List RunState) (p : LegSite) (f : LegState → LegState) → leg_at runs p ≡ None → runs ≡ with_leg p f runs
with_leg_none runs p f at = with_leg_stays runs p f (λ leg is. nothing_there leg (f leg) (sym at ∙ is))

-- ---- the rule where a job finishes

closes : (runs new : List RunState) (r j : ℕ) (x : JobState) (done : Bool) → new ≡ with_job r j (finished_as (result_at runs r j x)) runs
    → IfSome (if done then Some (without_moves (with_job r j (finished_as (result_at runs r j x)) runs)) else None) (λ next. new ≡ next.runs)
closes runs new r j x true so = so
closes runs new r j x false so = tt

pub job_closed : (runs new : List RunState) (r j : ℕ) (x : JobState) → job_at runs r j ≡ Some x
    → new ≡ with_job r j (finished_as (result_at runs r j x)) runs
    → IfSome (option_and_then (closing_rule runs r j) (job_at runs r j)) (λ next. new ≡ next.runs)
job_closed runs new r j x at so =
    subst (λ o. IfSome (option_and_then (closing_rule runs r j) o) (λ next. new ≡ next.runs)) (sym at)
    (closes runs new r j x (is_done x) so)

-- ---- the rule at the first site

rule_taken : (new : List RunState) (o : Option Transition) → is_some o ≡ true → IfSome o (λ next. new ≡ next.runs)
    → option_map (λ (m : Transition). m.runs) o ≡ Some new
rule_taken new None some so = cc
rule_taken new (Some next) some so = ap Some (sym so)

pub first_rule_taken : (runs new : List RunState) (site : RuleSite) → first_site runs ≡ Some site
    → IfSome (rule_at runs site) (λ next. new ≡ next.runs) → option_map (λ (m : Transition). m.runs) (first_rule runs) ≡ Some new
first_rule_taken runs new site is so =
    ap (λ o. option_map (λ (m : Transition). m.runs) (option_and_then (rule_at runs) o)) is
    ∙ rule_taken new (rule_at runs site) (find_passes (applies runs) (rule_sites runs) site is) so
