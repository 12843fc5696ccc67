use Rattle.std.proofs.Common.{◌≡◌, ◌++◌, ◌∷◌, ℕ, [], List, Ok, ap, arith, length, length-append, subst, sym, ◌∙◌}
use Rattle.group_book.specs.Books.{BookState}
use Rattle.table_model.specs.Settling.{arrived}
use Rattle.table_model.specs.Groups.{group_at}
use Rattle.table_model.specs.Runs.{RunState}
use Rattle.table_model.specs.Sound.{RunsAreSound}
use Rattle.table_model.specs.declared.holder.Holder.{Holder}
use Rattle.table_model.specs.declared.holder.Holder.TheVariants.{Run}
use Rattle.table_runs.specs.inner.Counted.{number_among}
use Rattle.table_runs.specs.inner.GroupsKept.{GroupsAreKept}
use Rattle.table_runs.specs.inner.MarkedRuns.{AreMarked, is_due}
use Rattle.table_runs.specs.inner.RowsKept.{RowState}
use Rattle.table_runs.proofs.Added.{added_waits, due_added, kept_beside_added}
use Rattle.table_runs.proofs.Entered.{arrives, same_start}
use Rattle.table_runs.proofs.MarkedRuns.{roomier}
use Rattle.table_runs.proofs.runs.Runs.arrive.Goals as goal

pub add-requires-clause-number : goal.add-requires-clause-number
add-requires-clause-number c =
    c.requires.number ∙ ap (λ (rs : List RunState). number_among rs c.args.run.admitted) (sym c.self.view_is)

pub enter-to_stop-requires-clause-sound : goal.enter-to_stop-requires-clause-sound
enter-to_stop-requires-clause-sound c =
    subst (λ (rs : List RunState). RunsAreSound rs) (sym c.in_ok-add.ensures.adds.runs)
    (subst (λ (rs : List RunState). RunsAreSound (rs ++ c.args.run ∷ [])) (sym c.self.view_is) c.requires.sound)

pub enter-to_stop-requires-clause-waits : goal.enter-to_stop-requires-clause-waits
enter-to_stop-requires-clause-waits c =
    added_waits c.self.inside.rows.runs c.add.new.self.runs c.len-r.result c.args.run c.in_ok-add.ensures.adds.runs
    (c.len-r.ensures.len ∙ sym (ap (λ (rs : List RunState). length rs) c.self.view_is)) c.requires.waits

pub enter-to_stop-requires-clause-beside : goal.enter-to_stop-requires-clause-beside
enter-to_stop-requires-clause-beside c =
    kept_beside_added c.self.inside.rows c.add.new.self c.self.inside.book c.add.new.book c.len-r.result c.args.run
    (c.len-r.ensures.len ∙ sym (ap (λ (rs : List RunState). length rs) c.self.view_is))
    c.in_ok-add.ensures.adds.runs
    (subst (λ (rs : List RunState). RunsAreSound (rs ++ c.args.run ∷ [])) (sym c.self.view_is) c.requires.sound) c.requires.waits
    c.self.invariant.0 c.in_ok-add.ensures.adds.entries (c.in_ok-add.ensures.adds.told c.self.invariant.0.told) c.in_ok-add.ensures.adds.tickets
    (c.in_ok-add.ensures.adds.expected c.self.invariant.0.expected)

pub enter-to_stop-requires-clause-due : goal.enter-to_stop-requires-clause-due
enter-to_stop-requires-clause-due c =
    due_added c.self.inside.rows.runs c.add.new.self.runs c.args.run c.self.inside.due c.reserve_up_to.new.self c.mark.new.self c.len-r.result
    c.in_ok-add.ensures.adds.runs (c.len-r.ensures.len ∙ sym (ap (λ (rs : List RunState). length rs) c.self.view_is)) c.reserve_up_to.ensures.marks c.reserve_up_to.ensures.keeps
    c.in_ok-reserve_up_to.ensures.covers c.mark.ensures.keeps c.mark.ensures.puts c.self.invariant.1

pub start_of_search-start-requires : goal.start_of_search-start-requires
start_of_search-start-requires c =
    let items = c.self.inside.rows.runs in
    let many : length c.add.new.self.runs ≡ length (items ++ c.args.run ∷ []) =
    ap (λ (rs : List RunState). length rs) c.in_ok-add.ensures.adds.runs in
    let end : c.len-r.result ≡ length items = c.len-r.ensures.len ∙ sym (ap (λ (rs : List RunState). length rs) c.self.view_is) in
    omega (arith, c.enter-to_stop.ensures.len, many, length-append items (c.args.run ∷ []), end)

pub returns-clause-admitted : goal.returns-clause-admitted
returns-clause-admitted c =
    let items = c.self.inside.rows.runs in
    let added = c.add.new.self in
    let r = c.len-r.result in
    let run = c.args.run in
    let is_added : added.runs ≡ items ++ run ∷ [] = c.in_ok-add.ensures.adds.runs in
    let end : r ≡ length items = c.len-r.ensures.len ∙ sym (ap (λ (rs : List RunState). length rs) c.self.view_is) in
    let sound : RunsAreSound (items ++ run ∷ []) =
    subst (λ (rs : List RunState). RunsAreSound (rs ++ run ∷ [])) (sym c.self.view_is) c.requires.sound in
    let waiting = added_waits items added.runs r run is_added end c.requires.waits in
    let kept = kept_beside_added c.self.inside.rows added c.self.inside.book c.add.new.book r run end is_added sound c.requires.waits
    c.self.invariant.0 c.in_ok-add.ensures.adds.entries (c.in_ok-add.ensures.adds.told c.self.invariant.0.told) c.in_ok-add.ensures.adds.tickets
    (c.in_ok-add.ensures.adds.expected c.self.invariant.0.expected) in
    let all = arrives added.runs c.enter-to_stop.new.rows.runs c.stop_running.new.self added.bindings c.add.new.book (Run r) c.enter-to_stop.result
    (subst (λ (rs : List RunState). RunsAreSound rs) (sym is_added) sound) waiting kept c.enter-to_stop.ensures.displaced
    c.enter-to_stop.ensures.to_stop c.stop_running.ensures in
    ap Ok
    (sym (all ∙ ap (λ (rs : List RunState). (arrived (Run r) rs).runs) is_added
    ∙ ap (λ (n : ℕ). (arrived (Run n) (items ++ run ∷ [])).runs) end
    ∙ ap (λ (rs : List RunState). (arrived (Run (length rs)) (rs ++ run ∷ [])).runs) c.self.view_is))

pub returns-clause-start : goal.returns-clause-start
returns-clause-start c =
    let items = c.self.inside.rows.runs in
    let added = c.add.new.self in
    let r = c.len-r.result in
    let run = c.args.run in
    let is_added : added.runs ≡ items ++ run ∷ [] = c.in_ok-add.ensures.adds.runs in
    let now : items ≡ c.args.self.now = c.self.view_is in
    let end : r ≡ length c.args.self.now = c.len-r.ensures.len in
    c.start_of_search-start.ensures
    ∙ same_start c.enter-to_stop.new.rows.runs (c.args.self.now ++ run ∷ []) r (length c.args.self.now)
    (c.enter-to_stop.ensures.group ∙ ap (λ (rs : List RunState). group_at rs (Run r)) (is_added ∙ ap (λ (rs : List RunState). rs ++ run ∷ []) now)) end

-- an error leaves the rows and the book as they were
pub invariant_of-self-in_err-add : goal.invariant_of-self-in_err-add
invariant_of-self-in_err-add c =
    let rows = c.self.inside.rows in
    subst (λ (now : RowState). GroupsAreKept now.runs now.bindings c.add.new.book × AreMarked (is_due now.runs) now.runs c.reserve_up_to.new.self)
    (sym c.in_err-add.ensures.adds.rows) (
      subst (λ (book : BookState Holder). GroupsAreKept rows.runs rows.bindings book) (sym c.in_err-add.ensures.adds.book) c.self.invariant.0,
      roomier (is_due rows.runs) rows.runs c.self.inside.due c.reserve_up_to.new.self c.reserve_up_to.ensures.marks c.reserve_up_to.ensures.keeps
          c.self.invariant.1,
    )
