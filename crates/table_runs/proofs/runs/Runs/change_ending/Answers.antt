use Rattle.std.proofs.Common.{◌≡◌, ◌<◌, List, length, ℕ, true, arith, ap, subst, sym, ◌∙◌}
use Rattle.std.proofs.lemmas.Bool.{true≢false}
use Rattle.run_marks.specs.Marked.{Covers, is_marked}
use Rattle.table_model.specs.Changes.{changed}
use Rattle.table_model.specs.Groups.{group_at}
use Rattle.table_model.specs.Holders.{run_of}
use Rattle.table_model.specs.Runs.{with_run, RunState}
use Rattle.table_runs.specs.inner.HolderChanges.{EndsOnly}
use Rattle.table_runs.specs.inner.RowsKept.{key_at}
use Rattle.table_runs.proofs.DueStill.{due_changed, next_within, still_after_end}
use Rattle.table_runs.proofs.GroupsHeld.{kept_ended}
use Rattle.table_runs.proofs.HoldersThere.{within_there}
use Rattle.table_runs.proofs.MarkedRuns.{put_adds, put_marks}
use Rattle.table_runs.proofs.runs.Runs.change_ending.Goals as goal

pub mark_run_of-requires : goal.mark_run_of-requires
mark_run_of-requires c = λ h is.
    let runs = c.self.inside.rows.runs in
    let within : run_of h < length runs =
    next_within runs c.self.inside.book.entries c.leave_group-next.new.book.entries c.args.holder.now
    (key_at c.self.inside.rows.bindings c.args.holder.now) c.leave_group-next.result h c.self.invariant.0.exact
    c.leave_group-next.ensures.leaves is in
    let covers : Covers c.self.inside.due (length runs) = c.self.invariant.1.covers in
    omega (arith, within, covers)

pub mark-requires : goal.mark-requires
mark-requires c =
    let runs = c.self.inside.rows.runs in
    let one = c.args.holder.now in
    let ends : EndsOnly one runs (with_run (run_of one) (changed c.args.change) runs) =
    subst (λ (xs : List RunState). EndsOnly one xs (with_run (run_of one) (changed c.args.change) xs)) (sym c.self.view_is) c.requires in
    let within : run_of one < length runs = within_there runs one ends.there in
    let covers : Covers c.self.inside.due (length runs) = c.self.invariant.1.covers in
    omega (arith, within, covers, c.run-r.ensures, c.mark_run_of.ensures.len)

pub invariant_of-self : goal.invariant_of-self
invariant_of-self c =
    let runs = c.self.inside.rows.runs in
    let bindings = c.self.inside.rows.bindings in
    let one = c.args.holder.now in
    let f = changed c.args.change in
    let r = run_of one in
    let next = with_run r f runs in
    let ends : EndsOnly one runs next = subst (λ (xs : List RunState). EndsOnly one xs (with_run r f xs)) (sym c.self.view_is) c.requires in
    let key : key_at bindings one ≡ group_at runs one = (c.self.invariant.0.told.groups one ends.there).group in
    let freed = c.leave_group-next.result in
    let marks = c.mark.new.self in
    let adds : (i : ℕ) → is_marked c.mark_run_of.new.marks i ≡ true → is_marked marks i ≡ true =
    λ i is. put_adds c.run-r.result i c.mark_run_of.new.marks marks c.mark.ensures.puts is in
    let kept = kept_ended runs next bindings c.self.inside.book c.leave_group-next.new.book one (key_at bindings one) freed ends key
    c.leave_group-next.ensures.leaves c.leave_group-next.ensures.expected c.self.invariant.0 in
    rw (c.change.ensures.runs, c.change.ensures.bindings, c.run-r.ensures) (
      kept,
      due_changed runs f c.self.inside.due marks r
          (λ s other none.
          still_after_end runs next c.self.inside.book.entries c.leave_group-next.new.book.entries one (key_at bindings one) freed ends
          c.self.invariant.0.exact key c.leave_group-next.ensures.leaves s
          (λ h is of_run.
          true≢false
          (sym (adds (run_of h) (c.mark_run_of.ensures.marked h is)) ∙ ap (is_marked marks) of_run ∙ none)))
          (λ i is. adds i (c.mark_run_of.ensures.kept i is))
          (put_marks c.run-r.result r c.mark_run_of.new.marks marks c.mark.ensures.puts (sym c.run-r.ensures))
          (c.mark.ensures.keeps ∙ c.mark_run_of.ensures.len) c.self.invariant.1,
    )
