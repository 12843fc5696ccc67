use Rattle.std.specs.Prelude.{◌≡◌, IfSome, List, Option, false, if◌then◌else◌, true}
use Rattle.std.specs.Option.{option_map_or}
use Rattle.std.proofs.Common.{ap, ap₂, sym, subst, ◌∙◌}
use Rattle.wf_value.specs.declared.outcome.Outcome.{Outcome}
use Rattle.wf_value.specs.declared.outcome.Outcome.TheVariants as outcome
use Rattle.table_model.specs.Fitting.{is_at_work, is_stopping_leg}
use Rattle.table_model.specs.Runs.{leg_at, RunState}
use Rattle.table_model.specs.Sound.{RunsAreSound}
use Rattle.table_model.specs.Stops.{with_ended, outcome_of_loss}
use Rattle.table_model.specs.declared.sites.LegSite.{LegSite}
use Rattle.table_model.specs.TableState.{TableState}
use Rattle.run_table.specs.inner.IndexNamed.{index_named}
use Rattle.run_table.proofs.BeforeSettling.{sound_as_they_are}
use Rattle.run_table.proofs.LegHeld.{ended_at, held_is_at_work}
use Rattle.run_table.proofs.table_data.TableData.end_lost.Goals as goal
use Rattle.run_table.proofs.table_data.TableData.end_lost.Goals.{After-end}

pub put-requires : goal.put-requires
put-requires c = c.requires.index ∙ ap (λ (t : TableState). index_named t.runners c.args.runner.name) (sym c.self.view_is)

its_outcome : (c : After-end) → c.outcome_of_loss-outcome.result ≡ outcome_of_loss c.args.self.now.runs c.args.lease
its_outcome c =
    let of : List RunState → Option LegSite → Outcome = λ runs leg. if
    option_map_or (λ p. option_map_or (λ l. is_stopping_leg l.phase) (leg_at runs p) false) leg false then outcome.Cancelled else outcome.Failure in
    c.outcome_of_loss-outcome.ensures ∙ ap₂ of (ap (λ (t : TableState). t.runs) c.self.view_is) c.leg_held-leg.ensures.found

-- the leg has ended
ended : (c : After-end) → c.end.new.self
    ≡ with_ended c.args.lease (outcome_of_loss c.args.self.now.runs c.args.lease) c.args.self.now.runs
ended c =
    ended_at c.args.lease c.outcome_of_loss-outcome.result c.args.self.now c.self.inside.runs c.end.new.self c.leg_held-leg.result
    (ap (λ (s : TableState). s.runs) c.self.view_is) c.leg_held-leg.ensures.found c.end.ensures
    ∙ ap (λ o. with_ended c.args.lease o c.args.self.now.runs) (its_outcome c)

pub end-requires-clause-sound : goal.end-requires-clause-sound
end-requires-clause-sound c =
    sound_as_they_are c.args.self.now c.self.inside.runs c.requires.sound (ap (λ (t : TableState). t.runs) c.self.view_is)

pub end-requires-clause-work : goal.end-requires-clause-work
end-requires-clause-work c =
    let t = c.args.self.now in
    subst (λ (runs : List RunState). IfSome c.leg_held-leg.result (λ p. IfSome (leg_at runs p) (λ z. is_at_work z.phase ≡ true)))
    (sym (ap (λ (s : TableState). s.runs) c.self.view_is))
    (subst (λ (o : Option LegSite). IfSome o (λ p. IfSome (leg_at t.runs p) (λ z. is_at_work z.phase ≡ true)))
    (sym c.leg_held-leg.ensures.found) (held_is_at_work t.runs c.args.lease c.requires.work))

pub settle-requires : goal.settle-requires
settle-requires c = subst (λ (xs : List RunState). RunsAreSound xs) (sym (ended (goal.at.settle-requires c).After-end)) c.requires.ends
