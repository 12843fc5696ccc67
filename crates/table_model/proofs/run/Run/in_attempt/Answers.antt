use Rattle.std.proofs.Common.{ap, ◌∙◌, subst, sym, Ok, List, ℕ}
use Rattle.std.specs.Prelude.{map, false}
use Rattle.definitions.specs.SmallText.{Admitted}
use Rattle.run_plan.specs.PlanOf.{plan_graph, plan_of}
use Rattle.table_model.specs.inner.Cells.{blocked_cells, rooms, states, legs_planned}
use Rattle.table_model.specs.inner.NeedsLeft.{NeedsAreLeft}
use Rattle.table_model.specs.Runs.{JobState, RunState}
use Rattle.table_model.specs.declared.phases.RunPhase.TheVariants as run
use Rattle.table_model.proofs.Doors.{blocked_rooms, blocked_states}
use Rattle.table_model.proofs.run.Run.in_attempt.Goals as goal
use Rattle.wf_value.proofs.PassedOn.{same_Ok}

pub invariant_of-result : goal.invariant_of-result
invariant_of-result c =
    let made = sym (same_Ok _ _ c.in_ok-jobs.ensures) ∙ ap (map blocked_cells) (c.as_slice.ensures ∙ c.plan-plan.ensures) in
    let copied = same_Ok _ _ c.in_ok-share.ensures in
    let jobs = c.count_needs.new.jobs.items in
    let graph = c.graph.ensures.needs ∙ ap plan_graph c.plan-plan.ensures ∙ ap (λ (a : Admitted). plan_graph (plan_of a.body)) copied in (
      c.count_needs.ensures.rooms
          ∙ ap rooms made
          ∙ blocked_rooms (plan_of c.args.prepared.now.body)
          ∙ ap (λ a. legs_planned (plan_of a.body)) copied,
      subst (λ (needs : List (List ℕ)). NeedsAreLeft needs jobs) graph c.count_needs.ensures.left,
    )

pub returns : goal.returns
returns c =
    let made = sym (same_Ok _ _ c.in_ok-jobs.ensures) ∙ ap (map blocked_cells) (c.as_slice.ensures ∙ c.plan-plan.ensures) in
    let copied = same_Ok _ _ c.in_ok-share.ensures in
    let jobs = sym (blocked_states (plan_of c.args.prepared.now.body)) ∙ ap states (sym made) ∙ sym c.count_needs.ensures.states in
    let made_of : Admitted → List JobState → RunState =
    λ a js. record {
      id = c.args.id;
      number = c.args.number;
      admitted = a;
      attempt = c.args.attempt;
      phase = run.Waiting;
      stopping = false;
      jobs = js;
    } in
    ap (λ js. Ok (made_of c.args.prepared.now js)) jobs ∙ ap (λ a. Ok (made_of a (states c.count_needs.new.jobs.items))) copied
