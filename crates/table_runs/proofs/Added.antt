-- A run has been added, or has begun its next attempt, and is not in the book of groups yet: all that its entry asks.
use Rattle.std.specs.Prelude.{◌≡◌, ◌+◌, ◌*◌, ◌≤◌, ◌<◌, ◌++◌, ◌∷◌, [], ℕ, List, length, true, false, Option, Some, IfSome, is_some, option_map, slice_get, refl}
use Rattle.std.specs.Option.{option_map_or}
use Rattle.std.proofs.Common.{arith, ap, inl, inr, subst, sym, ◌∙◌}
use Rattle.std.proofs.lemmas.Option.{slice_get_cases}
use Rattle.group_book.specs.Books.{BookState}
use Rattle.run_marks.specs.Marked.{Covers, Puts, SameMarks}
use Rattle.table_model.specs.Groups.{run_waits, waits}
use Rattle.table_model.specs.Runs.{again, run_at, with_run, RunState}
use Rattle.table_model.specs.Sound.{RunsAreSound}
use Rattle.table_model.specs.declared.holder.Holder.{Holder}
use Rattle.table_model.specs.declared.holder.Holder.TheVariants.{Run}
use Rattle.table_model.specs.declared.phases.RunPhase.TheVariants as run
use Rattle.table_model.proofs.Changed.{at_changed}
use Rattle.table_model.proofs.Found.{at_the_end}
use Rattle.table_runs.specs.inner.Arriving.{ExactBeside, KeptBeside}
use Rattle.table_runs.specs.inner.Begun.{HaveTickets}
use Rattle.table_runs.specs.inner.GroupsKept.{AreTold, GroupsAreKept, arrivals_to_come, is_there}
use Rattle.table_runs.specs.inner.MarkedRuns.{AreMarked, is_due}
use Rattle.table_runs.specs.inner.RowsKept.{RowState}
use Rattle.table_runs.proofs.DueStill.{due_changed}
use Rattle.table_runs.proofs.MarkedRuns.{due_more, put_adds, put_marks, roomier}
use Rattle.table_runs.proofs.RunComes.{added_beside, again_beside, again_still}

-- ---- it waits

there_it_is : (runs : List RunState) (r : ℕ) (x : RunState) → run_at runs r ≡ Some x → is_there runs (Run r) ≡ true
there_it_is runs r x at = ap (λ (o : Option RunState). is_some o) at

it_waits : (runs : List RunState) (r : ℕ) (x : RunState) → run_at runs r ≡ Some x → run_waits x.phase ≡ true → waits runs (Run r) ≡ true
it_waits runs r x at waiting = ap (λ o. option_map_or (λ (y : RunState). run_waits y.phase) o false) at ∙ waiting

pub added_waits : (runs next : List RunState) (r : ℕ) (x : RunState) → next ≡ runs ++ x ∷ [] → r ≡ length runs → run_waits x.phase ≡ true
    → waits next (Run r) ≡ true
added_waits runs next r x is end waiting =
    it_waits next r x (ap (λ rs. slice_get rs r) is ∙ ap (slice_get (runs ++ x ∷ [])) end ∙ at_the_end runs x) waiting

pub again_waits : (runs next : List RunState) (r : ℕ) (x : RunState) → next ≡ with_run r again runs → run_at runs r ≡ Some x
    → waits next (Run r) ≡ true
again_waits runs next r x is there =
    it_waits next r (again x) (ap (λ rs. run_at rs r) is ∙ at_changed r again runs ∙ ap (option_map again) there) refl

-- ---- what is kept beside it

-- what its bindings say
module _ (next : List RunState) (now : RowState) (r : ℕ) (before after : BookState Holder) (x : RunState) (is : now.runs ≡ next)
    (there : run_at next r ≡ Some x) (entries : after.entries ≡ before.entries) (told : AreTold now.runs now.bindings)
    (tickets : HaveTickets r now.runs now.bindings) (expected : arrivals_to_come now.bindings ≤ after.expected)
    (exact : ExactBeside (Run r) next before.entries) where
  kept_beside : KeptBeside (Run r) now.runs now.bindings after
  kept_beside = record {
    exact = subst (λ (rs : List RunState). ExactBeside (Run r) rs after.entries) (sym is)
        (subst (λ es. ExactBeside (Run r) next es) (sym entries) exact);
    told = told;
    ticket = tickets (Run r) refl (ap (λ rs. is_there rs (Run r)) is ∙ there_it_is next r x there);
    expected = expected;
  }

pub kept_beside_added : (was now : RowState) (before after : BookState Holder) (r : ℕ) (x : RunState) → r ≡ length was.runs
    → now.runs ≡ was.runs ++ x ∷ [] → RunsAreSound (was.runs ++ x ∷ []) → run_waits x.phase ≡ true → GroupsAreKept was.runs was.bindings before
    → after.entries ≡ before.entries → AreTold now.runs now.bindings → HaveTickets (length was.runs) now.runs now.bindings
    → arrivals_to_come now.bindings ≤ after.expected → KeptBeside (Run r) now.runs now.bindings after
kept_beside_added was now before after r x end is sound waiting kept entries told tickets expected =
    subst (λ n. KeptBeside (Run n) now.runs now.bindings after) (sym end)
    (kept_beside (was.runs ++ x ∷ []) now (length was.runs) before after x is (at_the_end was.runs x) entries told tickets expected
    (added_beside was.runs x before.entries sound waiting kept.exact))

pub kept_beside_again : (was now : RowState) (before after : BookState Holder) (r : ℕ) (x : RunState) → run_at was.runs r ≡ Some x
    → x.phase ≡ run.Ended → now.runs ≡ with_run r again was.runs → RunsAreSound was.runs → RunsAreSound (with_run r again was.runs)
    → GroupsAreKept was.runs was.bindings before → after.entries ≡ before.entries → AreTold now.runs now.bindings
    → HaveTickets r now.runs now.bindings → arrivals_to_come now.bindings ≤ after.expected → KeptBeside (Run r) now.runs now.bindings after
kept_beside_again was now before after r x there ended is sound begun kept entries told tickets expected =
    kept_beside (with_run r again was.runs) now r before after (again x) is
    (at_changed r again was.runs ∙ ap (option_map again) there) entries told tickets expected
    (again_beside was.runs r x before.entries sound begun there ended kept.exact)

-- the run that is to begin again is there
ended_there : (runs : List RunState) (r : ℕ) → r < length runs → IfSome (run_at runs r) (λ x. x.phase ≡ run.Ended)
    → (x : RunState) × (run_at runs r ≡ Some x) × (x.phase ≡ run.Ended)
ended_there runs r lt ended =
    elim (slice_get_cases runs r).1 [
      | inl here ↦ (here.0, here.2, subst (λ o. IfSome o (λ x. x.phase ≡ run.Ended)) here.2 ended)
      | inr past ↦ absurd (omega (arith, lt, past.0))
    ]

pub kept_beside_rerun : (was now : RowState) (before after : BookState Holder) (r : ℕ) → r < length was.runs
    → IfSome (run_at was.runs r) (λ x. x.phase ≡ run.Ended) → now.runs ≡ with_run r again was.runs → RunsAreSound was.runs
    → RunsAreSound (with_run r again was.runs) → GroupsAreKept was.runs was.bindings before → after.entries ≡ before.entries
    → AreTold now.runs now.bindings → HaveTickets r now.runs now.bindings → arrivals_to_come now.bindings ≤ after.expected
    → KeptBeside (Run r) now.runs now.bindings after
kept_beside_rerun was now before after r lt ended is sound begun kept entries told tickets expected =
    let x = ended_there was.runs r lt ended in
    kept_beside_again was now before after r x.0 x.1 x.2 is sound begun kept entries told tickets expected

pub rerun_waits : (runs next : List RunState) (r : ℕ) → r < length runs → IfSome (run_at runs r) (λ x. x.phase ≡ run.Ended)
    → next ≡ with_run r again runs → waits next (Run r) ≡ true
rerun_waits runs next r lt ended is = let x = ended_there runs r lt ended in again_waits runs next r x.0 is x.1

-- ---- the marks

pub due_added : (runs next : List RunState) (x : RunState) (old more new : List ℕ) (r : ℕ) → next ≡ runs ++ x ∷ [] → r ≡ length runs
    → SameMarks old more → length old ≤ length more → Covers more (r + 1) → length new ≡ length more → Puts true r more new
    → AreMarked (is_due runs) runs old → AreMarked (is_due next) next new
due_added runs next x old more new r is end same longer room as_long puts are =
    subst (λ rs. AreMarked (is_due rs) rs new) (sym is)
    (due_more runs x more new r end (covers_still more new (r + 1) as_long room)
    (λ i marked. put_adds r i more new puts marked) (put_marks r r more new puts refl)
    (roomier (is_due runs) runs old more same longer are))
  where
    covers_still : (old new : List ℕ) (bound : ℕ) → length new ≡ length old → Covers old bound → Covers new bound
    covers_still old new bound as_long covers = subst (λ n. bound ≤ 64 * n) (sym as_long) covers

pub due_rerun : (runs next : List RunState) (old new : List ℕ) (r : ℕ) → r < length runs → IfSome (run_at runs r) (λ x. x.phase ≡ run.Ended)
    → next ≡ with_run r again runs → RunsAreSound runs → length new ≡ length old → Puts true r old new → AreMarked (is_due runs) runs old
    → AreMarked (is_due next) next new
due_rerun runs next old new r lt ended is sound as_long puts are =
    let x = ended_there runs r lt ended in
    subst (λ rs. AreMarked (is_due rs) rs new) (sym is)
    (due_changed runs again old new r (λ s other none. again_still runs r x.0 sound x.1 x.2 s)
    (λ i marked. put_adds r i old new puts marked) (put_marks r r old new puts refl) as_long are)
