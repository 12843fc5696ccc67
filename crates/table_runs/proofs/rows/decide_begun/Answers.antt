use Rattle.std.proofs.Common.{◌≡◌, ◌+◌, ap, arith, subst, sym, ◌∙◌}
use Rattle.table_bindings.specs.declared.bindings.RunBindings.{RunBindings}
use Rattle.table_runs.specs.inner.Begun.{IsBegunBelow}
use Rattle.table_runs.specs.inner.RowsKept.{decided_in}
use Rattle.table_runs.proofs.Begun.{all_begun, begun_more, begun_passed, not_yet}
use Rattle.table_runs.proofs.rows.decide_begun.Goals as goal
use Rattle.table_runs.proofs.rows.decide_begun.Goals.{else-has_legs, then-has_legs}

-- the legs of the job at the index are not decided yet
pub decide_job-requires : goal.decide_job-requires
decide_job-requires c = λ legs at. not_yet c.loop-j.j c.args.run.now c.loop-j.bindings legs c.loop-j.invariant.begun at

pub returns-clause-begun : goal.returns-clause-begun
returns-clause-begun c = all_begun c.loop-j.j c.args.run.now c.loop-j.bindings c.loop-j.invariant.begun (omega arith)

pub loop-j-preserved : goal.loop-j-preserved
loop-j-preserved c =
    let run = c.args.run.now in
    let j = c.loop-j.j in
    let were = c.loop-j.invariant in
    elim c.if-has_legs.branch [
      | then-has_legs w ↦
          let is : c.if-has_legs.bindings ≡ decided_in j run c.loop-j.bindings = w.bindings-is ∙ w.decide_job.ensures.decided in
          record {
            begun = subst (IsBegunBelow (j + 1) run) (sym is)
                (begun_more j run c.loop-j.bindings were.begun (sym c.has_legs.ensures ∙ w.if-has_legs.true));
            own = ap (λ (b : RunBindings). b.own) is ∙ were.own;
            jobs = ap (λ (b : RunBindings). b.jobs) is ∙ were.jobs;
            lists = ap (λ (b : RunBindings). b.lists) is ∙ were.lists;
          }
      | else-has_legs w ↦
          record {
            begun = subst (IsBegunBelow (j + 1) run) (sym w.bindings-is)
                (begun_passed j run c.loop-j.bindings were.begun (sym c.has_legs.ensures ∙ w.if-has_legs.false));
            own = ap (λ (b : RunBindings). b.own) w.bindings-is ∙ were.own;
            jobs = ap (λ (b : RunBindings). b.jobs) w.bindings-is ∙ were.jobs;
            lists = ap (λ (b : RunBindings). b.lists) w.bindings-is ∙ were.lists;
          }
    ]
