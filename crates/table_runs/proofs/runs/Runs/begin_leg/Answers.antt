use Rattle.std.specs.Prelude.{◌≡◌, ◌<◌, List, Option, false, length, true, if◌then◌else◌, refl}
use Rattle.std.specs.Option.{option_map_or}
use Rattle.std.proofs.lemmas.Bool.{true≢false}
use Rattle.std.proofs.Common.{ap, arith, subst, sym, ◌∙◌}
use Rattle.run_marks.specs.Marked.{Covers}
use Rattle.table_model.specs.Settling.{arrived, with_leg_in}
use Rattle.table_model.specs.Groups.{waits}
use Rattle.table_model.specs.GroupLaw.{without_moves}
use Rattle.table_model.specs.Runs.{LegState, RunState, is_new, leg_in_phase}
use Rattle.table_model.specs.Sound.{RunsAreSound}
use Rattle.table_model.specs.declared.change.Change.TheVariants as change
use Rattle.table_model.specs.declared.holder.Holder.TheVariants.{Leg}
use Rattle.table_model.specs.declared.phases.LegPhase.TheVariants as leg
use Rattle.table_bindings.specs.declared.bindings.RunBindings.{RunBindings}
use Rattle.table_runs.proofs.ArrivingLegs.{arriving_sound, arriving_waits}
use Rattle.wf_value.specs.declared.outcome.Outcome.TheVariants as outcome
use Rattle.table_runs.specs.inner.Arriving.{KeptBeside}
use Rattle.table_runs.specs.inner.GroupsKept.{GroupsAreKept}
use Rattle.table_runs.specs.inner.HolderChanges.{ChangesNobody}
use Rattle.table_runs.specs.inner.MarkedRuns.{AreMarked, is_due}
use Rattle.table_runs.proofs.Entered.{arrives}
use Rattle.table_runs.proofs.HoldersThere.{there_if_new}
use Rattle.table_runs.proofs.LegArrives.{cancelled_nobody, due_of_leg, kept_beside_leg, new_leg_within, waits_then}
use Rattle.table_runs.proofs.MarkedRuns.{put_adds, put_marks}
use Rattle.table_runs.proofs.OneChange.{leg_written}
use Rattle.table_runs.proofs.runs.Runs.begin_leg.Goals as goal

pub is_in_group_of_run-requires : goal.is_in_group_of_run-requires
is_in_group_of_run-requires c = there_if_new c.args.self.now c.args.site c.requires.new

pub change_within-requires-clause-within : goal.change_within-requires-clause-within
change_within-requires-clause-within c = new_leg_within c.args.self.now c.args.site c.requires.new

pub change_within-requires-clause-nobody : goal.change_within-requires-clause-nobody
change_within-requires-clause-nobody c =
    let runs = c.args.self.now in
    let p = c.args.site in
    let written = leg_written runs p c.in-Some.leg.now c.in_phase-ended.result (leg_in_phase (leg.Ended outcome.Cancelled)) (sym c.in-Some.ensures)
    c.in_phase-ended.ensures in
    subst (ChangesNobody runs) (sym written) (cancelled_nobody runs p c.requires.new c.requires.sound)

pub mark-requires : goal.mark-requires
mark-requires c =
    let within : c.args.site.run < length c.self.inside.rows.runs =
    subst (λ (rs : List RunState). c.args.site.run < length rs) (sym c.self.view_is) (new_leg_within c.args.self.now c.args.site c.requires.new) in
    let covers : Covers c.self.inside.due (length c.self.inside.rows.runs) = c.self.invariant.1.covers in
    omega (arith, within, covers)

pub enter-to_stop-requires-clause-sound : goal.enter-to_stop-requires-clause-sound
enter-to_stop-requires-clause-sound c =
    let runs = c.args.self.now in
    let p = c.args.site in
    let rows = c.self.inside.rows in
    let now = c.change.new.self in
    let is_now : now.runs ≡ with_leg_in leg.Waiting p runs =
    waits_then runs rows.runs now.runs p c.in-Some.leg.now c.in_phase-waiting.result (sym c.in-Some.ensures) c.in_phase-waiting.ensures
    c.self.view_is c.change.ensures.runs in
    subst (λ (rs : List RunState). RunsAreSound rs) (sym is_now) (arriving_sound runs p c.requires.new c.requires.sound)

pub enter-to_stop-requires-clause-waits : goal.enter-to_stop-requires-clause-waits
enter-to_stop-requires-clause-waits c =
    let runs = c.args.self.now in
    let p = c.args.site in
    let rows = c.self.inside.rows in
    let now = c.change.new.self in
    let is_now : now.runs ≡ with_leg_in leg.Waiting p runs =
    waits_then runs rows.runs now.runs p c.in-Some.leg.now c.in_phase-waiting.result (sym c.in-Some.ensures) c.in_phase-waiting.ensures
    c.self.view_is c.change.ensures.runs in
    ap (λ (rs : List RunState). waits rs (Leg p)) is_now ∙ arriving_waits runs p c.requires.new

pub enter-to_stop-requires-clause-beside : goal.enter-to_stop-requires-clause-beside
enter-to_stop-requires-clause-beside c =
    let runs = c.args.self.now in
    let p = c.args.site in
    let rows = c.self.inside.rows in
    let now = c.change.new.self in
    let is_now : now.runs ≡ with_leg_in leg.Waiting p runs =
    waits_then runs rows.runs now.runs p c.in-Some.leg.now c.in_phase-waiting.result (sym c.in-Some.ensures) c.in_phase-waiting.ensures
    c.self.view_is c.change.ensures.runs in
    let book = c.self.inside.book in
    let kept : GroupsAreKept runs rows.bindings book =
    subst (λ (rs : List RunState). GroupsAreKept rs rows.bindings book) c.self.view_is c.self.invariant.0 in
    subst (λ (rs : List RunState). KeptBeside (Leg p) rs now.bindings book) (sym is_now)
    (subst (λ (bs : List RunBindings). KeptBeside (Leg p) (with_leg_in leg.Waiting p runs) bs book) (sym c.change.ensures.bindings)
    (kept_beside_leg runs p c.requires.new c.requires.sound (arriving_waits runs p c.requires.new) rows.bindings book kept))

pub enter-to_stop-requires-clause-due : goal.enter-to_stop-requires-clause-due
enter-to_stop-requires-clause-due c =
    let runs = c.args.self.now in
    let p = c.args.site in
    let rows = c.self.inside.rows in
    let now = c.change.new.self in
    let is_now : now.runs ≡ with_leg_in leg.Waiting p runs =
    waits_then runs rows.runs now.runs p c.in-Some.leg.now c.in_phase-waiting.result (sym c.in-Some.ensures) c.in_phase-waiting.ensures
    c.self.view_is c.change.ensures.runs in
    let due = c.self.inside.due in
    let marks = c.mark.new.self in
    let were : AreMarked (is_due runs) runs due = subst (λ (rs : List RunState). AreMarked (is_due rs) rs due) c.self.view_is c.self.invariant.1 in
    subst (λ (rs : List RunState). AreMarked (is_due rs) rs marks) (sym is_now)
    (due_of_leg runs p c.requires.new c.requires.sound due marks (λ i is. put_adds p.run i due marks c.mark.ensures.puts is)
    (put_marks p.run p.run due marks c.mark.ensures.puts refl) c.mark.ensures.keeps were)

pub returns-in_default : goal.returns-in_default
returns-in_default c =
    let none = ap (λ (o : Option LegState). option_map_or (λ (x : LegState). is_new x.phase) o false) (sym c.in_default.ensures) in
    absurd (true≢false (sym c.requires.new ∙ none))

pub returns-then-is_in_group_of_run : goal.returns-then-is_in_group_of_run
returns-then-is_in_group_of_run c =
    let runs = c.args.self.now in
    let p = c.args.site in
    let written = leg_written runs p c.in-Some.leg.now c.in_phase-ended.result (leg_in_phase (leg.Ended outcome.Cancelled)) (sym c.in-Some.ensures)
    c.in_phase-ended.ensures in
    c.change_within.ensures ∙ written
    ∙ sym (ap (λ b. (if b then without_moves (with_leg_in (leg.Ended outcome.Cancelled) p runs) else arrived (Leg p) (with_leg_in leg.Waiting p runs)).runs)
    (sym c.is_in_group_of_run.ensures ∙ c.if-is_in_group_of_run.true))

pub returns : goal.returns
returns c =
    let runs = c.args.self.now in
    let p = c.args.site in
    let rows = c.self.inside.rows in
    let now = c.change.new.self in
    let is_now : now.runs ≡ with_leg_in leg.Waiting p runs =
    waits_then runs rows.runs now.runs p c.in-Some.leg.now c.in_phase-waiting.result (sym c.in-Some.ensures) c.in_phase-waiting.ensures
    c.self.view_is c.change.ensures.runs in
    let book = c.self.inside.book in
    let kept : GroupsAreKept runs rows.bindings book =
    subst (λ (rs : List RunState). GroupsAreKept rs rows.bindings book) c.self.view_is c.self.invariant.0 in
    let beside = subst (λ (rs : List RunState). KeptBeside (Leg p) rs now.bindings book) (sym is_now)
    (subst (λ (bs : List RunBindings). KeptBeside (Leg p) (with_leg_in leg.Waiting p runs) bs book) (sym c.change.ensures.bindings)
    (kept_beside_leg runs p c.requires.new c.requires.sound (arriving_waits runs p c.requires.new) rows.bindings book kept)) in
    let all = arrives now.runs c.enter-to_stop.new.rows.runs c.stop_running.new.self now.bindings book (Leg p) c.enter-to_stop.result
    (subst (λ (rs : List RunState). RunsAreSound rs) (sym is_now) (arriving_sound runs p c.requires.new c.requires.sound))
    (ap (λ (rs : List RunState). waits rs (Leg p)) is_now ∙ arriving_waits runs p c.requires.new) beside c.enter-to_stop.ensures.displaced
    c.enter-to_stop.ensures.to_stop c.stop_running.ensures in
    all ∙ ap (λ (rs : List RunState). (arrived (Leg p) rs).runs) is_now
    ∙ sym (ap (λ b. (if b then without_moves (with_leg_in (leg.Ended outcome.Cancelled) p runs) else arrived (Leg p) (with_leg_in leg.Waiting p runs)).runs)
    (sym c.is_in_group_of_run.ensures ∙ c.if-is_in_group_of_run.false))
