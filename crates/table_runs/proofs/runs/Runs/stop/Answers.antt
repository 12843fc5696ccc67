use Rattle.std.specs.Prelude.{◌≡◌, Option, Some, false, option_map, true}
use Rattle.std.specs.Option.{option_map_or}
use Rattle.std.proofs.Common.{ap, rules, sym, ◌∙◌}
use Rattle.table_model.specs.Groups.{run_waits}
use Rattle.table_model.specs.Runs.{RunState}
use Rattle.table_model.specs.Stops.{stopped_run}
use Rattle.table_runs.proofs.OneHolder.{run_is_cancelled, stop_cancels}
use Rattle.table_runs.proofs.Stopping.{already_asked, has_ended, none_there, stop_leaves, stop_requests}
use Rattle.table_runs.proofs.runs.Runs.stop.Goals as goal

pub returns-in_default : goal.returns-in_default
returns-in_default c = none_there c.args.self.now c.args.r stopped_run (sym c.in_default.ensures.run)

pub change_ending-requires : goal.change_ending-requires
change_ending-requires c =
    let x = c.in-Some.run'.now in
    run_is_cancelled c.args.self.now c.args.r c.requires
    (ap (λ (o : Option RunState). option_map_or (λ (y : RunState). run_waits y.phase) o false) (sym c.in-Some.ensures.run)
    ∙ ap run_waits (sym c.phase.ensures ∙ c.in-Waiting.is))

pub request_stop-requires-clause-live : goal.request_stop-requires-clause-live
request_stop-requires-clause-live c =
    ap (option_map (λ (y : RunState). y.phase)) (sym c.in-Some.ensures.run) ∙ ap Some (sym c.phase.ensures ∙ c.in-Live.is)

pub returns-in-Waiting : goal.returns-in-Waiting
returns-in-Waiting c =
    c.change_ending.ensures
    ∙ sym (stop_cancels c.args.self.now c.args.r c.in-Some.run'.now (sym c.in-Some.ensures.run) (sym c.phase.ensures ∙ c.in-Waiting.is))

pub returns-then-not-is_stopping : goal.returns-then-not-is_stopping
returns-then-not-is_stopping c =
    let unasked : c.is_stopping.result ≡ false = search rules in
    c.request_stop.ensures
    ∙ stop_requests c.args.self.now c.args.r c.in-Some.run'.now (sym c.in-Some.ensures.run) (sym c.phase.ensures ∙ c.in-Live.is)
    (sym c.is_stopping.ensures ∙ unasked)

pub returns-else-not-is_stopping : goal.returns-else-not-is_stopping
returns-else-not-is_stopping c =
    let asked : c.is_stopping.result ≡ true = search rules in
    stop_leaves c.args.self.now c.args.r c.in-Some.run'.now (sym c.in-Some.ensures.run)
    (already_asked c.in-Some.run'.now (sym c.phase.ensures ∙ c.in-Live.is) (sym c.is_stopping.ensures ∙ asked))

pub returns-in-Ended : goal.returns-in-Ended
returns-in-Ended c =
    stop_leaves c.args.self.now c.args.r c.in-Some.run'.now (sym c.in-Some.ensures.run)
    (has_ended c.in-Some.run'.now (sym c.phase.ensures ∙ c.in-Ended.is))
