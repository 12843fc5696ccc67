use Rattle.std.proofs.Common.{◌++◌, length, Ok, sym, ap, ◌∙◌, arith, refl}
use Rattle.std.specs.Vec.Iter.{into_iter_items}
use Rattle.wf_reader.proofs.InOrder.{one_more}
use Rattle.run_plan.specs.PlanOf.{legs_of}
use Rattle.run_plan.proofs.Jobs.{all_done, nothing_left}
use Rattle.run_plan.proofs.planning.legs_of.Goals as goal

pub loop-combo-preserved : goal.loop-combo-preserved
loop-combo-preserved c =
    let at = c.loop-combo in
    let steps = c.in-Some.ensures.steps.0 in
    let short = ap length steps in
    let was = at.invariant.counted in
    let gone = c.in-Some.ensures.steps.1 in
    record {
      done = ap (λ ls. ls ++ legs_of (into_iter_items c.next.new.self)) c.in_ok-push.ensures.items
          ∙ one_more (λ combo. record { combo = combo }) c.args.combos.items (into_iter_items at.combo-iterator)
          (into_iter_items c.next.new.self) at.legs.items c.in-Some.combo _ at.invariant.done steps refl;
      counted = omega arith;
    }

pub returns : goal.returns
returns c =
    let at = c.loop-combo in
    let none = nothing_left (into_iter_items at.combo-iterator) (sym c.in-None.ensures.steps.0 ∙ at.invariant.counted) in
    let all = all_done (λ combo. record { combo = combo }) at.legs.items (into_iter_items at.combo-iterator) c.args.combos.items
    at.invariant.done none in
    ap Ok (sym all ∙ sym c.new.ensures)
