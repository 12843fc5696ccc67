-- The runs that are due after a holder that waited is stopped, and after a newcomer waits.
use Rattle.std.specs.Prelude.{◌≡◌, ℕ, List, length, true, false, Option, None, Some, refl}
use Rattle.std.proofs.Common.{arith, ap, sym, ◌∙◌}
use Rattle.group_book.proofs.Exact.{pick}
use Rattle.run_marks.specs.Marked.{is_marked}
use Rattle.table_model.specs.Groups.{holds, waits}
use Rattle.table_model.specs.Holders.{run_of}
use Rattle.table_model.specs.Runs.{RunState}
use Rattle.table_model.specs.Sound.{RunsAreSound}
use Rattle.table_model.specs.Stops.{stop_holder, stopped, stopped_run}
use Rattle.table_model.specs.declared.holder.Holder.{Holder}
use Rattle.table_model.specs.declared.holder.Holder.TheVariants.{Run, Leg}
use Rattle.table_model.proofs.JobKeeps.{with_job_of, with_leg_of}
use Rattle.settling_laws.proofs.KeptBack.{RunsStillFor}
use Rattle.table_runs.specs.inner.Arriving.{stopped_if}
use Rattle.table_runs.specs.inner.HolderChanges.{EndsOnly}
use Rattle.table_runs.specs.inner.MarkedRuns.{AreMarked, is_due}
use Rattle.table_runs.proofs.Arriving.{stop_ends}
use Rattle.table_runs.proofs.DueStill.{due_changed, still_in}
use Rattle.table_runs.proofs.HoldersThere.{holds_not, tells}

-- a holder that waited holds nothing, so its end frees no group
still_displaced : (runs : List RunState) (d : Holder) → RunsAreSound runs → waits runs d ≡ true → (s : ℕ)
    → RunsStillFor runs (stop_holder d runs).runs s
still_displaced runs d sound waiting s h of_run waits_too g group k e =
    let ends : EndsOnly d runs (stop_holder d runs).runs = stop_ends runs d sound waiting in
    still_in runs (stop_holder d runs).runs ends.same g k
    (λ held.
    pick tells k d (holds (stop_holder d runs).runs k ≡ true)
    (λ is. let both : true ≡ false = sym held ∙ ap (holds runs) is ∙ holds_not runs d waiting in cc)
    (λ other. (ends.others k other).holds ∙ held)) e

due_stopped : (runs : List RunState) (d : Holder) (old new : List ℕ) → RunsAreSound runs → waits runs d ≡ true
    → ((i : ℕ) → is_marked old i ≡ true → is_marked new i ≡ true) → is_marked new (run_of d) ≡ true → length new ≡ length old
    → AreMarked (is_due runs) runs old → AreMarked (is_due (stop_holder d runs).runs) (stop_holder d runs).runs new
due_stopped runs (Run r) old new sound waiting kept itself as_long are =
    due_changed runs stopped_run old new r (λ s other none. still_displaced runs (Run r) sound waiting s) kept itself as_long are
due_stopped runs (Leg p) old new sound waiting kept itself as_long are =
    due_changed runs (with_job_of p.job (with_leg_of p.leg stopped)) old new p.run
    (λ s other none. still_displaced runs (Leg p) sound waiting s) kept itself as_long are

pub due_displaced : (runs : List RunState) (displaced : Option Holder) (old new : List ℕ) → RunsAreSound runs
    → ((h : Holder) → displaced ≡ Some h → waits runs h ≡ true) → ((i : ℕ) → is_marked old i ≡ true → is_marked new i ≡ true)
    → ((h : Holder) → displaced ≡ Some h → is_marked new (run_of h) ≡ true) → length new ≡ length old
    → AreMarked (is_due runs) runs old → AreMarked (is_due (stopped_if displaced runs)) (stopped_if displaced runs) new
due_displaced runs None old new sound waiting kept itself as_long are = record {
  covers = omega (arith, as_long, are.covers);
  marked = (λ s x at due. kept s (are.marked s x at due));
}
due_displaced runs (Some d) old new sound waiting kept itself as_long are =
    due_stopped runs d old new sound (waiting d refl) kept (itself d refl) as_long are
