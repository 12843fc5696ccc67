use Rattle.std.specs.Prelude.{◌≡◌, List, Some, IfSome, Bool, option_and_then}
use Rattle.std.proofs.Common.{ap, subst, sym, ◌∙◌}
use Rattle.table_model.specs.inner.Resuming.{RestBefore, may_invalidate_others, resume_point}
use Rattle.table_model.specs.GroupLaw.{Transition}
use Rattle.table_model.specs.Settling.{rule_at, first_site, first_rule}
use Rattle.table_model.specs.Runs.{RunState}
use Rattle.table_model.specs.Sound.{RunsAreSound}
use Rattle.table_model.specs.declared.sites.JobSite.{JobSite}
use Rattle.table_model.specs.declared.sites.RuleSite.{RuleSite}
use Rattle.table_model.proofs.Optional.{from_map}
use Rattle.table_model.proofs.Transitions.{first_rule_taken}
use Rattle.settling_laws.proofs.Resumed.{rest_after_rule}
use Rattle.settling_laws.proofs.SoundRuns.{runs_that_fit}
use Rattle.table_runs.proofs.runs.Runs.take_first_rule_at.Goals as goal

rest_again : (runs new : List RunState) (site : RuleSite) (freed : Bool) (again : JobSite) → RunsAreSound runs
    → first_site runs ≡ Some site
    → IfSome (rule_at runs site) (λ next. new ≡ next.runs) → freed ≡ may_invalidate_others runs site → again ≡ resume_point freed new site
    → RestBefore new again
rest_again runs new site freed again sound first taken frees_is is =
    let rule = from_map (λ (m : Transition). m.runs) (first_rule runs) new (first_rule_taken runs new site first taken) in
    let at : rule_at runs site ≡ Some rule.value = sym (ap (option_and_then (rule_at runs)) first) ∙ rule.is in
    subst (RestBefore new) (sym (is ∙ ap (λ b. resume_point b new site) frees_is))
    (subst (λ (xs : List RunState). RestBefore xs (resume_point (may_invalidate_others runs site) xs site)) rule.gives
    (rest_after_rule runs rule.value site (runs_that_fit runs sound) first at))

pub returns-clause-took : goal.returns-clause-took
returns-clause-took c = first_rule_taken c.args.self.now c.take_rule.new.self c.args.site c.requires.first c.take_rule.ensures

pub returns-clause-rest : goal.returns-clause-rest
returns-clause-rest c =
    rest_again c.args.self.now c.take_rule.new.self c.args.site c.may_invalidate_others-may_invalidate_others.result c.resume_point.result c.requires.sound
    c.requires.first c.take_rule.ensures c.may_invalidate_others-may_invalidate_others.ensures c.resume_point.ensures
