use Rattle.std.proofs.Common.{◌<◌, List, length, arith, refl, subst, sym}
use Rattle.run_marks.specs.Marked.{Covers}
use Rattle.table_model.specs.Changes.{changed}
use Rattle.table_model.specs.Runs.{with_run, RunState}
use Rattle.table_runs.specs.inner.HolderChanges.{ChangesNobody}
use Rattle.table_runs.proofs.DueStill.{due_changed, still_where_nobody}
use Rattle.table_runs.proofs.GroupsHeld.{kept_where_nobody}
use Rattle.table_runs.proofs.MarkedRuns.{put_adds, put_marks}
use Rattle.table_runs.proofs.runs.Runs.change_within.Goals as goal

pub mark-requires : goal.mark-requires
mark-requires c =
    let within : c.args.r < length c.self.inside.rows.runs =
    subst (λ (xs : List RunState). c.args.r < length xs) (sym c.self.view_is) c.requires.within in
    let covers : Covers c.self.inside.due (length c.self.inside.rows.runs) = c.self.invariant.1.covers in
    omega (arith, within, covers)

pub invariant_of-self : goal.invariant_of-self
invariant_of-self c =
    let runs = c.self.inside.rows.runs in
    let r = c.args.r in
    let f = changed c.args.change in
    let next = with_run r f runs in
    let nobody : ChangesNobody runs next =
    subst (λ (xs : List RunState). ChangesNobody xs (with_run r f xs)) (sym c.self.view_is) c.requires.nobody in
    rw (c.change.ensures.runs, c.change.ensures.bindings) (
      kept_where_nobody runs next c.self.inside.rows.bindings c.self.inside.book nobody c.self.invariant.0,
      due_changed runs f c.self.inside.due c.mark.new.self r
          (λ s other none. still_where_nobody runs next nobody s)
          (λ i is. put_adds r i c.self.inside.due c.mark.new.self c.mark.ensures.puts is)
          (put_marks r r c.self.inside.due c.mark.new.self c.mark.ensures.puts refl) c.mark.ensures.keeps c.self.invariant.1,
    )
