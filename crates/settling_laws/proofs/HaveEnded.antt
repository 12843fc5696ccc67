-- The runs that a `forget` drops have completed, and so have all their legs: none of them waits for a group or holds one.
use Rattle.std.specs.Prelude.{◌≡◌, ◌⊎◌, ℕ, ◌<◌, ◌≤◌, ◌&&◌, List, [], length, nat_le, Bool, true, false, Option, Some, None, is_some}
use Rattle.std.specs.Prelude.{slice_get, refl}
use Rattle.std.specs.List.{list_all, prefix_len}
use Rattle.std.specs.Option.{option_map_or}
use Rattle.std.proofs.Common.{arith, ap, inl, inr, subst, sym, ◌∙◌, get_or, ltb}
use Rattle.std.proofs.lemmas.Bool.{and_parts, ltb-false, ltb-true, true≢false}
use Rattle.std.proofs.lemmas.List.Sums.{prefix_len-le-length, prefix_len_passes}
use Rattle.std.proofs.lemmas.Option.{same_Some, slice_get-get_or}
use Rattle.wf_value.specs.declared.outcome.JobResult.{JobResult}
use Rattle.table_model.specs.Fitting.{is_at_work}
use Rattle.table_model.specs.Groups.{holds, leg_holds, leg_waits, run_waits, waits}
use Rattle.table_model.specs.Holders.{run_of}
use Rattle.table_model.specs.LegContext.{planned_legs}
use Rattle.table_model.specs.Runs.{JobState, LegState, RunState, finished_result, is_finished, is_live, job_at, leg_at, leg_has_ended}
use Rattle.table_model.specs.Runs.{outcome_of, run_at}
use Rattle.table_model.specs.Settling.{result_at}
use Rattle.table_model.specs.Sound.{JobsFit, LegsFit, PhaseFits, RunPhasesFit}
use Rattle.table_model.specs.Step.{has_completed, is_forgettable}
use Rattle.table_model.specs.declared.holder.Holder.{Holder}
use Rattle.table_model.specs.declared.holder.Holder.TheVariants.{Run, Leg}
use Rattle.table_model.specs.declared.phases.JobPhase.{JobPhase}
use Rattle.table_model.specs.declared.phases.JobPhase.TheVariants as job
use Rattle.table_model.specs.declared.phases.LegPhase.{LegPhase}
use Rattle.table_model.specs.declared.phases.LegPhase.TheVariants as leg
use Rattle.table_model.specs.declared.phases.RunPhase.{RunPhase}
use Rattle.table_model.specs.declared.phases.RunPhase.TheVariants as run
use Rattle.table_model.specs.declared.sites.LegSite.{LegSite}
use Rattle.table_model.proofs.Optional.{each_passes, from_and_then}

-- the first k runs have ended, and all their legs
pub record HaveEnded (k : ℕ) (runs : List RunState) : Type 0 where
  pub runs_ended : (r : ℕ) (x : RunState) → r < k → run_at runs r ≡ Some x → x.phase ≡ run.Ended
  pub legs_ended : (p : LegSite) (z : LegState) → p.run < k → leg_at runs p ≡ Some z → leg_has_ended z ≡ true

-- ---- the runs that a `forget` drops

passes_before : {X : Type 0} (test : X → Bool) (xs : List X) (i : ℕ) (x : X) → i < prefix_len test xs → slice_get xs i ≡ Some x
    → test x ≡ true
passes_before test xs i x lt at =
    let most = prefix_len-le-length test xs in
    let within : i < length xs = omega (arith, lt, most) in
    let is : get_or xs i x ≡ x = same_Some (get_or xs i x) x (sym (slice_get-get_or xs i x within) ∙ at) in
    subst (λ y. test y ≡ true) is (prefix_len_passes test xs i x lt)

completed : (phase : RunPhase) → has_completed phase ≡ true → phase ≡ run.Ended
completed run.Waiting e = cc
completed run.Live e = cc
completed run.Ended e = refl

first_completed : (id : ℕ) (runs : List RunState) (r : ℕ) (x : RunState) → r < prefix_len (is_forgettable id) runs → run_at runs r ≡ Some x
    → x.phase ≡ run.Ended
first_completed id runs r x lt at =
    completed x.phase (and_parts (has_completed x.phase) (nat_le x.id id) (passes_before (is_forgettable id) runs r x lt at)).0

-- all legs of a finished job have ended
finished_legs : (planned : ℕ) (gathered : JobResult) (phase : JobPhase) (legs : List LegState) (l : ℕ) (z : LegState)
    → is_some (finished_result phase) ≡ true → LegsFit planned gathered phase legs → slice_get legs l ≡ Some z → leg_has_ended z ≡ true
finished_legs planned gathered job.Blocked legs l z done fit at = cc
finished_legs planned gathered job.Open legs l z done fit at = cc
finished_legs planned gathered (job.Finished r) legs l z done fit at =
    elim fit [
      | inl none ↦
          let gone : slice_get legs l ≡ None = ap (λ (xs : List LegState). slice_get xs l) none.0 in
          let clash : None ≡ Some z = sym gone ∙ at in cc
      | inr all ↦ each_passes leg_has_ended legs l z all.1 at
    ]

ended_jobs : (x : RunState) → x.phase ≡ run.Ended → PhaseFits x.phase x.stopping x.jobs → (j : ℕ) (y : JobState)
    → slice_get x.jobs j ≡ Some y → is_finished y ≡ true
ended_jobs x is fits = subst (λ (phase : RunPhase). PhaseFits phase x.stopping x.jobs) is fits

pub first_have_ended : (id : ℕ) (runs : List RunState) → RunPhasesFit runs → JobsFit runs
    → HaveEnded (prefix_len (is_forgettable id) runs) runs
first_have_ended id runs phases jobs = record {
  runs_ended = first_completed id runs;
  legs_ended = (λ p z lt at.
      let of_job = from_and_then (λ (y : JobState). slice_get y.legs p.leg) (job_at runs p.run p.job) z at in
      let of_run = from_and_then (λ (x : RunState). slice_get x.jobs p.job) (run_at runs p.run) of_job.value of_job.is in
      let ended = first_completed id runs p.run of_run.value lt of_run.is in
      let done = ended_jobs of_run.value ended (phases p.run of_run.value of_run.is) p.job of_job.value of_run.gives in
      finished_legs (planned_legs runs p.run p.job) (result_at runs p.run p.job of_job.value) of_job.value.phase of_job.value.legs p.leg z done
      (jobs p.run p.job of_job.value of_job.is) of_job.gives);
}

-- ---- what has ended holds nothing and waits for nothing

ended_holds_not : (phase : LegPhase) → is_some (outcome_of phase) ≡ true → leg_holds phase ≡ false
ended_holds_not leg.New e = refl
ended_holds_not leg.Waiting e = refl
ended_holds_not leg.Ready e = cc
ended_holds_not leg.Running e = cc
ended_holds_not leg.Stopping e = cc
ended_holds_not (leg.Ended r) e = refl

ended_waits_not : (phase : LegPhase) → is_some (outcome_of phase) ≡ true → leg_waits phase ≡ false
ended_waits_not leg.New e = refl
ended_waits_not leg.Waiting e = cc
ended_waits_not leg.Ready e = refl
ended_waits_not leg.Running e = refl
ended_waits_not leg.Stopping e = refl
ended_waits_not (leg.Ended r) e = refl

ended_works_not : (phase : LegPhase) → is_some (outcome_of phase) ≡ true → is_at_work phase ≡ false
ended_works_not leg.New e = refl
ended_works_not leg.Waiting e = refl
ended_works_not leg.Ready e = refl
ended_works_not leg.Running e = cc
ended_works_not leg.Stopping e = cc
ended_works_not (leg.Ended r) e = refl

module _ (k : ℕ) (runs : List RunState) (ended : HaveEnded k runs) where
  run_fails : (test : RunState → Bool) → ((x : RunState) → x.phase ≡ run.Ended → test x ≡ false) → (r : ℕ) → r < k
      → option_map_or test (run_at runs r) false ≡ false
  run_fails test fails r lt =
      elim (run_at runs r) as (λ o. run_at runs r ≡ o → option_map_or test o false ≡ false) [
        | None ↦ λ at. refl
        | Some x ↦ λ at. fails x (ended.runs_ended r x lt at)
      ] refl

  leg_fails : (test : LegState → Bool) → ((z : LegState) → leg_has_ended z ≡ true → test z ≡ false) → (p : LegSite) → p.run < k
      → option_map_or test (leg_at runs p) false ≡ false
  leg_fails test fails p lt =
      elim (leg_at runs p) as (λ o. leg_at runs p ≡ o → option_map_or test o false ≡ false) [
        | None ↦ λ at. refl
        | Some z ↦ λ at. fails z (ended.legs_ended p z lt at)
      ] refl

  pub holds_not : (h : Holder) → run_of h < k → holds runs h ≡ false
  holds_not (Run r) lt = run_fails (λ x. is_live x.phase) (λ x is. ap is_live is) r lt
  holds_not (Leg p) lt = leg_fails (λ z. leg_holds z.phase) (λ z is. ended_holds_not z.phase is) p lt

  pub waits_not : (h : Holder) → run_of h < k → waits runs h ≡ false
  waits_not (Run r) lt = run_fails (λ x. run_waits x.phase) (λ x is. ap run_waits is) r lt
  waits_not (Leg p) lt = leg_fails (λ z. leg_waits z.phase) (λ z is. ended_waits_not z.phase is) p lt

  -- a leg on which a runner is at work is of a run that stays
  pub work_stays : (p : LegSite) (z : LegState) → leg_at runs p ≡ Some z → is_at_work z.phase ≡ true → k ≤ p.run
  work_stays p z at work =
      elim (ltb p.run k) as (λ b. ltb p.run k ≡ b → k ≤ p.run) [
        | true ↦ λ is.
            absurd (true≢false (sym work ∙ ended_works_not z.phase (ended.legs_ended p z (ltb-true p.run k is) at)))
        | false ↦ λ is. ltb-false p.run k is
      ] refl
