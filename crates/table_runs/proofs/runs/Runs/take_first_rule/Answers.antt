use Rattle.std.specs.Prelude.{List, option_map}
use Rattle.std.proofs.Common.{ap, subst, sym, ◌∙◌}
use Rattle.table_model.specs.GroupLaw.{Transition}
use Rattle.table_model.specs.Runs.{RunState}
use Rattle.table_model.specs.Settling.{first_site, first_rule}
use Rattle.table_model.specs.Sound.{RunsAreSound}
use Rattle.table_runs.proofs.runs.Runs.take_first_rule.Goals as goal

pub take_first_rule_at-requires-clause-sound : goal.take_first_rule_at-requires-clause-sound
take_first_rule_at-requires-clause-sound c = subst RunsAreSound (sym c.first_site.ensures.kept) c.requires.sound

pub take_first_rule_at-requires-clause-first : goal.take_first_rule_at-requires-clause-first
take_first_rule_at-requires-clause-first c = ap first_site c.first_site.ensures.kept ∙ sym c.first_site.ensures.found ∙ c.in-Some.is

pub returns-in-Some-clause-took : goal.returns-in-Some-clause-took
returns-in-Some-clause-took c =
    ap (λ (xs : List RunState). option_map (λ (m : Transition). m.runs) (first_rule xs)) (sym c.first_site.ensures.kept)
    ∙ c.take_first_rule_at.ensures.took
