use Rattle.std.proofs.Common.{◌≡◌, ◌+◌, ◌++◌, ◌∷◌, [], List, take, length, arith, ap, sym, subst, ◌∙◌, rules}
use Rattle.std.proofs.lemmas.List.{length-map, take_all}
use Rattle.run_plan.specs.declared.planned.PlannedJob.{PlannedJob}
use Rattle.table_model.specs.AsPlanned.{HasItsRoom, HasRoom}
use Rattle.table_model.specs.inner.Cells.{JobCells, legs_planned, rooms, states}
use Rattle.table_model.proofs.OneAfterAnother.{all_passed, grown, one_passed, read_at}
use Rattle.table_model.proofs.RoomsRead.{planned_here, room_here}
use Rattle.table_model.proofs.run.of.jobs_of_parts.Goals as goal

pub returns-in-None-clause-of : goal.returns-in-None-clause-of
returns-in-None-clause-of c = λ have.
    let part = c.index-parts-j.result in
    let planned = c.index-plan-j.result in
    let n : length c.as_slice.result.now ≡ length planned.legs = ap length c.as_slice.ensures in
    let none : HasRoom (length c.as_slice.result.now) part.legs → ⊥ = search rules in
    none (subst (λ m. HasRoom m part.legs) (sym n)
    (have c.loop-j.j part (read_at c.args.parts.now c.loop-j.j part (omega arith) c.index-parts-j.is) planned
    (read_at c.args.plan.now c.loop-j.j planned (omega arith) c.index-plan-j.is)))

pub loop-j-preserved : goal.loop-j-preserved
loop-j-preserved c =
    let parts = c.args.parts.now in
    let plan = c.args.plan.now in
    let j = c.loop-j.j in
    let part = c.index-parts-j.result in
    let planned = c.index-plan-j.result in
    let x = c.in-Some.job in
    let old = c.loop-j.jobs.items in
    let n : length c.as_slice.result.now ≡ length planned.legs = ap length c.as_slice.ensures in
    let now : c.push.new.self.items ≡ old ++ x ∷ [] = search rules in
    let room = length c.as_slice.result.now in
    let is : (x ≡ record { state = part; room = room; needs_left = 0 }) × HasRoom room part.legs = search rules in
    let at = read_at parts j part (omega arith) c.index-parts-j.is in
    let at_plan = read_at plan j planned (omega arith) c.index-plan-j.is in (
      subst (λ (items : List JobCells). states items ≡ take (j + 1) parts) (sym now)
          (grown (λ (y : JobCells). y.state) old x parts j part c.loop-j.invariant.0 (ap (λ (y : JobCells). y.state) is.0) at),
      subst (λ (items : List JobCells). rooms items ≡ take (j + 1) (legs_planned plan)) (sym now)
          (grown (λ (y : JobCells). y.room) old x (legs_planned plan) j (length planned.legs) c.loop-j.invariant.1
          (ap (λ (y : JobCells). y.room) is.0 ∙ n) (planned_here plan j planned at_plan)),
      one_passed (HasItsRoom plan) parts j part c.loop-j.invariant.2 (omega arith) c.index-parts-j.is
          (room_here plan j planned part at_plan (subst (λ m. HasRoom m part.legs) n is.1)),
    )

pub returns-clause-of : goal.returns-clause-of
returns-clause-of c =
    let j = c.loop-j.j in
    let plan = c.args.plan.now in
    let as_many = length-map plan (λ (k : PlannedJob). length k.legs) in (
      c.loop-j.invariant.0 ∙ take_all j c.args.parts.now (omega arith),
      c.loop-j.invariant.1 ∙ take_all j (legs_planned plan) (omega (arith, as_many)),
      all_passed (HasItsRoom plan) c.args.parts.now j c.loop-j.invariant.2 (omega arith),
    )
