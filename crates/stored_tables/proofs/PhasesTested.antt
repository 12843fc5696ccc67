-- Whether the jobs of a run have come as far as its phase requires, from tests of all of them.
use Rattle.std.specs.Prelude.{◌≡◌, ℕ, List, Bool, true, false, Some, slice_get}
use Rattle.std.specs.Bool.{Decides}
use Rattle.std.specs.List.{list_all}
use Rattle.std.proofs.Common.{ap, sym, subst, ◌∙◌}
use Rattle.table_model.specs.Runs.{JobState, is_blocked, is_finished}
use Rattle.table_model.specs.Sound.{PhaseFits}
use Rattle.table_model.specs.declared.phases.JobPhase.TheVariants as job
use Rattle.table_model.specs.declared.phases.RunPhase.{RunPhase}
use Rattle.table_model.specs.declared.phases.RunPhase.TheVariants as run
use Rattle.table_model.proofs.JobPhases.{is_blocked_blocked}
use Rattle.table_model.proofs.OneAfterAnother.{all_pass}
use Rattle.table_model.proofs.Optional.{each_passes}

are_blocked : (jobs : List JobState) → Decides (list_all (λ (y : JobState). is_blocked y.phase) jobs)
    ((j : ℕ) (x : JobState) → slice_get jobs j ≡ Some x → x.phase ≡ job.Blocked)
are_blocked jobs = (
  (λ all j x at. is_blocked_blocked x.phase (each_passes (λ (y : JobState). is_blocked y.phase) jobs j x all at)),
  (λ each. all_pass (λ (y : JobState). is_blocked y.phase) jobs (λ j x at. ap is_blocked (each j x at))),
)

are_finished : (jobs : List JobState) → Decides (list_all is_finished jobs)
    ((j : ℕ) (x : JobState) → slice_get jobs j ≡ Some x → is_finished x ≡ true)
are_finished jobs = ((λ all j x at. each_passes is_finished jobs j x all at), (λ each. all_pass is_finished jobs each))

pub waiting_fits : (phase : RunPhase) (stopping b : Bool) (jobs : List JobState) → phase ≡ run.Waiting → stopping ≡ false
    → b ≡ list_all (λ (y : JobState). is_blocked y.phase) jobs → Decides b (PhaseFits phase stopping jobs)
waiting_fits phase stopping b jobs is not_stopping test =
    subst (λ (ph : RunPhase). Decides b (PhaseFits ph stopping jobs)) (sym is) (
      (λ e. (not_stopping, (are_blocked jobs).0 (sym test ∙ e))),
      (λ fits. test ∙ (are_blocked jobs).1 fits.1),
    )

pub ended_fits : (phase : RunPhase) (stopping b : Bool) (jobs : List JobState) → phase ≡ run.Ended
    → b ≡ list_all is_finished jobs → Decides b (PhaseFits phase stopping jobs)
ended_fits phase stopping b jobs is test =
    subst (λ (ph : RunPhase). Decides b (PhaseFits ph stopping jobs)) (sym is) (
      (λ e. (are_finished jobs).0 (sym test ∙ e)),
      (λ fits. test ∙ (are_finished jobs).1 fits),
    )
