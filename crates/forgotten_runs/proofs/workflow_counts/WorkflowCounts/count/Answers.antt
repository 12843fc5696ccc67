use Rattle.std.specs.Prelude.{◌≡◌, List, OnErr, Result, Ok, Err, true}
use Rattle.std.proofs.Common.{ap, sym, ◌∙◌}
use Rattle.wf_value.specs.Gives.{Gives}
use Rattle.wf_value.specs.declared.refusal.Refusal.{Refusal}
use Rattle.wf_value.proofs.PassedOn.{same_Ok}
use Rattle.table_model.specs.Forgotten.{WorkflowCount, increases, next_count, put_in_order, workflow_order}
use Rattle.table_model.proofs.Counts.{workflow_total}
use Rattle.table_model.proofs.InOrder.{put_increases}
use Rattle.forgotten_runs.proofs.workflow_counts.WorkflowCounts.count.Goals as goal

-- whether a count was put in place or nothing has changed, the counts are in order
still_in_order : (old new : List WorkflowCount) (count : WorkflowCount) (r : Result (Unit {0}) Refusal) → increases workflow_order old ≡ true
    → Gives (λ (_ : Unit {0}). new) r (Ok (put_in_order workflow_order old count)) → OnErr r (new ≡ old) → increases workflow_order new ≡ true
still_in_order old new count (Ok done) h gave kept =
    ap (increases workflow_order) (sym (same_Ok (put_in_order workflow_order old count) new gave))
    ∙ put_increases workflow_order workflow_total old count h
still_in_order old new count (Err e) h gave kept = ap (increases workflow_order) kept ∙ h

pub invariant_of-self : goal.invariant_of-self
invariant_of-self c =
    let old = c.self.inside.counts.items in
    still_in_order old c.count_in.new.counts.items (next_count old c.args.event.now) c.count_in.result c.self.invariant c.count_in.ensures.put
    c.count_in.ensures.err
