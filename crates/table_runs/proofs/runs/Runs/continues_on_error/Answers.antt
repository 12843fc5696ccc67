use Rattle.std.specs.Prelude.{◌≡◌, Some, None}
use Rattle.std.proofs.Common.{ap, sym, ◌∙◌, rules}
use Rattle.wf_reader.specs.declared.flag.Flag.TheVariants as flag
use Rattle.table_model.specs.Groups.{run_facts_at}
use Rattle.table_model.specs.Runs.{plan_at, run_at}
use Rattle.table_bindings.specs.Bindings.{flag_for}
use Rattle.table_runs.proofs.FlagsSaid.{flag_said, nothing_bound}
use Rattle.table_runs.proofs.runs.Runs.continues_on_error.Goals as goal

pub returns-in-Some-flag : goal.returns-in-Some-flag
returns-in-Some-flag c =
    let runs = c.args.self.now in
    let p = c.args.site in
    let x = c.in-Some-with_bindings.run'.now in
    let job = c.in-Some.planned.now in
    let k = c.in-Some-with_bindings.bindings.now in
    let bound = c.in-Some-flag.flag.now in
    let planned : plan_at runs p.run p.job ≡ Some job = search rules in
    let at : run_at runs p.run ≡ Some x = search rules in
    let is : flag_for k p.job p.leg ≡ Some bound = search rules in
    let there : c.args.site.run ≡ p.run = search rules in
    c.is_set.ensures
    ∙ flag_said runs p x job k bound at planned
    (λ facts leg_facts. c.in-Some-with_bindings.ensures.says facts (ap (run_facts_at runs) there ∙ leg_facts)) is

pub returns-in-None : goal.returns-in-None
returns-in-None c =
    let runs = c.args.self.now in
    let p = c.args.site in
    let x = c.in-Some-with_bindings.run'.now in
    let job = c.in-Some.planned.now in
    let k = c.in-Some-with_bindings.bindings.now in
    let planned : plan_at runs p.run p.job ≡ Some job = search rules in
    let at : run_at runs p.run ≡ Some x = search rules in
    let is : job.continue_on_error ≡ flag.Template c.in-Template.field-0 = cc in
    let none : flag_for k p.job p.leg ≡ None = search rules in
    let there : c.args.site.run ≡ p.run = search rules in
    sym (nothing_bound runs p x job c.in-Template.field-0 k at planned is
    (λ facts leg_facts. c.in-Some-with_bindings.ensures.says facts (ap (run_facts_at runs) there ∙ leg_facts)) none)
