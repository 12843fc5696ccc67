use Rattle.std.specs.Prelude.{◌≡◌, None, Some, false, option_and_then, option_map, slice_get}
use Rattle.std.specs.Option.{option_map_or}
use Rattle.std.proofs.Common.{ap, subst, sym, ◌∙◌, rules}
use Rattle.run_plan.specs.PlanOf.{plan_of}
use Rattle.run_plan.specs.declared.planned.PlannedJob.{PlannedJob}
use Rattle.table_model.specs.Fitting.{has_labels}
use Rattle.table_model.specs.Groups.{RunFacts, run_facts_at}
use Rattle.table_model.specs.LegContext.{context_at, label_texts}
use Rattle.table_model.specs.Runs.{run_at, RunState}
use Rattle.table_bindings.specs.Bindings.{KeepsLabelsAt, RunSays}
use Rattle.table_bindings.specs.BoundGroups.{results_by_index}
use Rattle.table_runs.proofs.KnownSays.{labels_kept}
use Rattle.table_runs.proofs.PlannedLegs.{planned_leg}
use Rattle.table_runs.proofs.runs.Runs.is_served.Goals as goal

pub returns-in-Some : goal.returns-in-Some
returns-in-Some c =
    let runs = c.args.self.now in
    let p = c.args.site in
    let x = c.in-Some.run'.now in
    let k = c.in-Some.bindings.now in
    let at : run_at runs p.run ≡ Some x = search rules in
    let there : c.args.site.run ≡ p.run = search rules in
    let says : (facts : RunFacts) → run_facts_at runs p.run ≡ Some facts → RunSays facts k =
    λ facts leg_facts. c.in-Some.ensures.says facts (ap (run_facts_at runs) there ∙ leg_facts) in
    let own = labels_kept runs p x k at says (planned_leg runs p.run p.job p.leg x at c.requires) in
    let job_is : c.args.site.job ≡ p.job = search rules in
    let leg_is : c.args.site.leg ≡ p.leg = search rules in
    let keeps = subst (λ j. KeepsLabelsAt (results_by_index x) k j c.args.site.leg own.texts) (sym job_is)
    (subst (λ l. KeepsLabelsAt (results_by_index x) k p.job l own.texts) (sym leg_is) own.keeps) in
    c.is_served.ensures own.texts keeps ∙ sym (ap (λ o. option_map_or (has_labels c.args.labels.now) o false) own.are)

pub returns-in-None : goal.returns-in-None
returns-in-None c =
    let runs = c.args.self.now in
    let p = c.args.site in
    let none : run_at runs p.run ≡ None = search rules in
    sym (ap (λ o. option_map_or (has_labels c.args.labels.now)
    (option_map (λ (planned : PlannedJob). label_texts (context_at runs p) planned.labels)
    (option_and_then (λ (run : RunState). slice_get (plan_of run.admitted.body) p.job) o)) false) none)
