use Rattle.std.proofs.Common.{◌≡◌, ap, ◌∙◌}
use Rattle.std.specs.Prelude.{Bool, ℕ, Option, Some, cond, false, refl, true}
use Rattle.std.specs.Option.{option_map_or}
use Rattle.table_model.specs.LegContext.{same_workflow}
use Rattle.table_runs.specs.inner.Counted.{count_of}
use Rattle.table_runs.specs.declared.rows.counts.Counted.{Counted}
use Rattle.table_runs.proofs.rows.counts.Counts.add.Goals as goal

chosen : (b : Bool) (put : Counted) (was : Option Counted)
    → option_map_or (λ (c : Counted). c.runs) (cond b (Some put) was) 0 ≡ cond b put.runs (option_map_or (λ (c : Counted). c.runs) was 0)
chosen true put was = refl
chosen false put was = refl

pub returns : goal.returns
returns c = λ event.
    ap (λ (found : Option Counted). option_map_or (λ (c : Counted). c.runs) found 0) (c.in-Ok.ensures.updates.0 event)
    ∙ chosen (same_workflow c.args.workflow event) _ _
    ∙ ap (λ (n : ℕ). cond (same_workflow c.args.workflow event) n (count_of c.args.self.now.counts event)) c.get.ensures.value
