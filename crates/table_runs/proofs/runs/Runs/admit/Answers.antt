use Rattle.std.proofs.Common.{◌≡◌, ℕ, [], ◌+◌, ◌∷◌, ◌++◌, List, Ok, arith, ap, ap₂, length, subst, sym, ◌∙◌}
use Rattle.definitions.specs.SmallText.{Admitted}
use Rattle.table_model.specs.Groups.{run_waits}
use Rattle.table_model.specs.Forgotten.{next_run}
use Rattle.table_model.specs.Runs.{RunState, new_run}
use Rattle.table_model.specs.Settling.{arrived, settled}
use Rattle.table_model.specs.Sound.{RunsAreSound}
use Rattle.table_model.specs.declared.holder.Holder.TheVariants.{Run}
use Rattle.table_runs.specs.inner.Counted.{number_among}
use Rattle.table_runs.proofs.Counting.{among_within, number_after}
use Rattle.table_runs.proofs.ArrivalRests.{arrival_sound, arriving_rests}
use Rattle.table_runs.proofs.runs.Runs.admit.Goals as goal
use Rattle.table_runs.proofs.runs.Runs.admit.Goals.{In_ok-run}
use Rattle.wf_value.proofs.PassedOn.{same_Ok}

-- it is the run that comes next
is_next : (c : In_ok-run) → c.in_ok-run.run' ≡ next_run c.args.forgotten.now c.args.self.now c.args.event.now
is_next c =
    let forgotten = c.args.forgotten.now in
    let event = c.args.event.now in
    sym (same_Ok _ _ c.in_ok-run.ensures)
    ∙ ap₂ (λ id number. new_run id number event)
    (c.next_id-id.ensures ∙ ap (λ n. forgotten.through + n + 1) c.len.ensures.len)
    (number_after forgotten c.args.self.now event c.next_number-number.result c.in_ok-coming.coming.number c.next_number-number.ensures
    (c.in_ok-coming.ensures.number ∙ ap (λ (rs : List RunState). number_among rs event) c.self.view_is))

pub next_number-number-requires : goal.next_number-number-requires
next_number-number-requires c =
    let runs = c.args.self.now in
    let event = c.args.event.now in
    let among = c.in_ok-coming.ensures.number ∙ ap (λ (rs : List RunState). number_among rs event) c.self.view_is in
    omega (arith, among, among_within runs event, c.requires.ids)

pub arrive-requires-clause-waits : goal.arrive-requires-clause-waits
arrive-requires-clause-waits c =
    ap (λ (x : RunState). run_waits x.phase) (is_next (goal.at.arrive-requires-clause-waits c).In_ok-run)

pub arrive-requires-clause-sound : goal.arrive-requires-clause-sound
arrive-requires-clause-sound c =
    let runs = c.args.self.now in
    subst (λ (x : RunState). RunsAreSound (runs ++ x ∷ [])) (sym (is_next (goal.at.arrive-requires-clause-sound c).In_ok-run)) c.requires.added

pub arrive-requires-clause-workflow : goal.arrive-requires-clause-workflow
arrive-requires-clause-workflow c =
    c.in_ok-coming.ensures.workflow
    ∙ sym (ap (λ (x : RunState). x.admitted) (is_next (goal.at.arrive-requires-clause-workflow c).In_ok-run))

pub arrive-requires-clause-number : goal.arrive-requires-clause-number
arrive-requires-clause-number c =
    let runs = c.args.self.now in
    c.in_ok-coming.ensures.number
    ∙ ap (λ (rs : List RunState). number_among rs c.args.event.now) c.self.view_is
    ∙ sym (ap (λ (x : RunState). number_among runs x.admitted) (is_next (goal.at.arrive-requires-clause-number c).In_ok-run))

pub settle_from-requires : goal.settle_from-requires
settle_from-requires c =
    let runs = c.args.self.now in
    let run = c.in_ok-run.run' in
    let added = subst (λ (x : RunState). RunsAreSound (runs ++ x ∷ [])) (sym (is_next (goal.at.settle_from-requires c).In_ok-run)) c.requires.added in
    let has_arrived = sym (same_Ok _ _ c.in_ok-start.ensures.admitted) in
    record {
      sound = arrival_sound (Run (length runs)) (runs ++ run ∷ []) c.arrive.new.self added has_arrived;
      rest = arriving_rests runs run c.requires.sound c.requires.rests c.arrive.new.self c.in_ok-start.start has_arrived c.in_ok-start.ensures.start;
    }

pub returns-clause-admitted : goal.returns-clause-admitted
returns-clause-admitted c =
    let runs = c.args.self.now in
    let has_arrived = sym (same_Ok _ _ c.in_ok-start.ensures.admitted) in
    ap Ok
    (sym (c.settle_from.ensures
    ∙ ap settled (has_arrived
    ∙ ap (λ (x : RunState). (arrived (Run (length runs)) (runs ++ x ∷ [])).runs) (is_next (goal.at.returns-clause-admitted c).In_ok-run))))
