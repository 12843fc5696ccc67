use Rattle.std.proofs.Common.{◌≡◌, ◌<◌, List, length, Some, arith, subst, sym, ◌∙◌}
use Rattle.run_marks.specs.Marked.{Covers}
use Rattle.table_model.specs.Changes.{changed}
use Rattle.table_model.specs.Groups.{group_at}
use Rattle.table_model.specs.Holders.{run_of}
use Rattle.table_model.specs.Runs.{with_run, RunState}
use Rattle.table_runs.specs.inner.HolderChanges.{StartsOnly}
use Rattle.table_runs.specs.inner.RowsKept.{key_at}
use Rattle.table_runs.proofs.DueStill.{due_changed, still_after_start}
use Rattle.table_runs.proofs.GroupsHeld.{free_slot, kept_started}
use Rattle.table_runs.proofs.HoldersThere.{there_if_waits, within_there}
use Rattle.table_runs.proofs.MarkedRuns.{put_adds, put_marks}
use Rattle.table_runs.proofs.runs.Runs.change_starting.Goals as goal

pub begin_in_group-requires : goal.begin_in_group-requires
begin_in_group-requires c = λ g at.
    let runs = c.self.inside.rows.runs in
    let one = c.args.holder.now in
    let starts : StartsOnly one runs (with_run (run_of one) (changed c.args.change) runs) =
    subst (λ (xs : List RunState). StartsOnly one xs (with_run (run_of one) (changed c.args.change) xs)) (sym c.self.view_is) c.requires in
    let its : group_at runs one ≡ Some g = sym (c.self.invariant.0.told.groups one (there_if_waits runs one starts.waited)).group ∙ at in
    free_slot runs c.self.inside.book.entries c.self.invariant.0.exact g one its starts.may

pub mark-requires : goal.mark-requires
mark-requires c =
    let runs = c.self.inside.rows.runs in
    let one = c.args.holder.now in
    let starts : StartsOnly one runs (with_run (run_of one) (changed c.args.change) runs) =
    subst (λ (xs : List RunState). StartsOnly one xs (with_run (run_of one) (changed c.args.change) xs)) (sym c.self.view_is) c.requires in
    let within : run_of one < length runs = within_there runs one (there_if_waits runs one starts.waited) in
    let covers : Covers c.self.inside.due (length runs) = c.self.invariant.1.covers in
    omega (arith, within, covers, c.run-r.ensures)

pub invariant_of-self : goal.invariant_of-self
invariant_of-self c =
    let runs = c.self.inside.rows.runs in
    let bindings = c.self.inside.rows.bindings in
    let one = c.args.holder.now in
    let f = changed c.args.change in
    let r = run_of one in
    let next = with_run r f runs in
    let starts : StartsOnly one runs next =
    subst (λ (xs : List RunState). StartsOnly one xs (with_run r f xs)) (sym c.self.view_is) c.requires in
    let key : key_at bindings one ≡ group_at runs one =
    (c.self.invariant.0.told.groups one (there_if_waits runs one starts.waited)).group in
    let kept = kept_started runs next bindings c.self.inside.book c.begin_in_group.new.book one (key_at bindings one) starts key
    c.begin_in_group.ensures.begins c.begin_in_group.ensures.expected c.self.invariant.0 in
    rw (c.change.ensures.runs, c.change.ensures.bindings, c.run-r.ensures) (
      kept,
      due_changed runs f c.self.inside.due c.mark.new.self r
          (λ s other none. still_after_start runs next one starts s)
          (λ i is. put_adds c.run-r.result i c.self.inside.due c.mark.new.self c.mark.ensures.puts is)
          (put_marks c.run-r.result r c.self.inside.due c.mark.new.self c.mark.ensures.puts (sym c.run-r.ensures)) c.mark.ensures.keeps
          c.self.invariant.1,
    )
