-- A new run that arrives in its group preserves the invariants of a table.
use Rattle.std.specs.Prelude.{◌≡◌, ◌⊎◌, ℕ, ◌+◌, List, [], ◌∷◌, ◌++◌, length, Bool, true, false, Option, Some, None, option_map}
use Rattle.std.specs.Prelude.{slice_get, refl}
use Rattle.std.proofs.Common.{ap, inl, inr, sym, ◌∙◌}
use Rattle.std.proofs.lemmas.Bool.{cases_eq, false≢true}
use Rattle.std.proofs.lemmas.Option.{slice_get-map}
use Rattle.definitions.specs.SmallText.{Admitted}
use Rattle.run_plan.specs.PlanOf.{plan_of}
use Rattle.run_plan.specs.declared.planned.PlannedJob.{PlannedJob}
use Rattle.table_model.specs.Settling.{arrived}
use Rattle.table_model.specs.Groups.{HasOneBeside, HasOneEach, holds, leg_holds, leg_waits, run_waits, waits}
use Rattle.table_model.specs.Runs.{leg_at, is_live, blocked_job, run_in_attempt, RunState}
use Rattle.table_model.specs.Forgotten.{ForgottenRuns, next_run, number_of_next}
use Rattle.table_model.specs.declared.sites.LegSite.{LegSite}
use Rattle.table_model.specs.Step.{admission_answer, entered}
use Rattle.table_model.specs.TableState.{TableState}
use Rattle.table_model.specs.declared.phases.LegPhase.{LegPhase}
use Rattle.run_table.proofs.AdmitKeeps.{admit_keeps, all_fit}
use Rattle.table_model.proofs.Found.{at_the_end, before_the_end}
use Rattle.settling_laws.proofs.AddedRun.{groups_before}
use Rattle.settling_laws.proofs.ArrivalKeeps.{arrival_one_each}
use Rattle.settling_laws.proofs.HoldersFade.{by_run, job_passes, leg_passes, passes, run_passes}
use Rattle.settling_laws.proofs.HoldersKeep.{arrival_settles}
use Rattle.run_table.proofs.Kept.{IsKept, kept_settles}
use Rattle.table_model.proofs.RunFits.{RunsFit}
use Rattle.table_model.proofs.Settles.{Settles}
use Rattle.settling_laws.proofs.OneEach.{Comes, newcomer_besides}
use Rattle.table_model.specs.declared.holder.Holder.{Holder}
use Rattle.table_model.specs.declared.holder.Holder.TheVariants.{Run, Leg}

-- ---- holders that wait and holders in progress

no_leg_of_blocked : (test : LegPhase → Bool) (l : ℕ) (o : Option PlannedJob)
    → passes (job_passes test l) (option_map (λ _. blocked_job) o) ≡ false
no_leg_of_blocked test l None = refl
no_leg_of_blocked test l (Some planned) = refl

pub no_leg_of_new_run : (test : LegPhase → Bool) (j l id number attempt : ℕ) (event : Admitted)
    → run_passes test j l (run_in_attempt id number attempt event) ≡ false
no_leg_of_new_run test j l id number attempt event =
    ap (passes (job_passes test l)) (slice_get-map (λ _. blocked_job) (plan_of event.body) j)
    ∙ no_leg_of_blocked test l (slice_get (plan_of event.body) j)

module _ (forgotten : ForgottenRuns) (runs : List RunState) (event : Admitted) where
  leg_before_it : (test : LegPhase → Bool) (p : LegSite)
      → passes (leg_passes test) (leg_at (runs ++ next_run forgotten runs event ∷ []) p) ≡ true → passes (leg_passes test) (leg_at runs p) ≡ true
  leg_before_it test p e =
      let next = runs ++ next_run forgotten runs event ∷ [] in
      let requested = run_passes test p.job p.leg in
      let of_run = sym (by_run test next p) ∙ e in
      elim (cases_eq p.run (length runs)) [
        | inl same ↦
            let none = ap (passes requested) (ap (slice_get next) same ∙ at_the_end runs (next_run forgotten runs event))
            ∙ no_leg_of_new_run test p.job p.leg (forgotten.through + length runs + 1) (number_of_next forgotten runs event) 1 event in
            absurd (false≢true (sym none ∙ of_run))
        | inr other ↦ by_run test runs p ∙ ap (passes requested) (sym (before_the_end runs (next_run forgotten runs event) p.run other)) ∙ of_run
      ]

  pub waited : (h : Holder) → waits (runs ++ next_run forgotten runs event ∷ []) h ≡ true → (h ≡ Run (length runs)) ⊎ (waits runs h ≡ true)
  waited (Run r) e =
      elim (cases_eq r (length runs)) [
        | inl same ↦ inl (ap Run same)
        | inr other ↦ inr (ap (passes (λ (x : RunState). run_waits x.phase)) (sym (before_the_end runs (next_run forgotten runs event) r other)) ∙ e)
      ]
  waited (Leg p) e = inr (leg_before_it leg_waits p e)

  pub held : (h : Holder) → holds (runs ++ next_run forgotten runs event ∷ []) h ≡ true → holds runs h ≡ true
  held (Run r) e =
      let live = passes (λ (x : RunState). is_live x.phase) in
      elim (cases_eq r (length runs)) [
        | inl same ↦ absurd (false≢true
            (sym (ap live (ap (slice_get (runs ++ next_run forgotten runs event ∷ [])) same ∙ at_the_end runs (next_run forgotten runs event))) ∙ e))
        | inr other ↦ ap live (sym (before_the_end runs (next_run forgotten runs event) r other)) ∙ e
      ]
  held (Leg p) e = leg_before_it leg_holds p e

  pub new_run_waits : waits (runs ++ next_run forgotten runs event ∷ []) (Run (length runs)) ≡ true
  new_run_waits = ap (passes (λ (x : RunState). run_waits x.phase)) (at_the_end runs (next_run forgotten runs event))

  beside_new_run : HasOneEach runs → HasOneBeside (runs ++ next_run forgotten runs event ∷ []) (Run (length runs))
  beside_new_run each =
      let next = runs ++ next_run forgotten runs event ∷ [] in
      let comes : Comes runs next (Run (length runs)) = record { waited = waited; held = held } in
      newcomer_besides runs next (Run (length runs)) (groups_before runs (next_run forgotten runs event)) comes each

  new_run_one_each : RunsFit runs → HasOneEach runs → HasOneEach (arrived (Run (length runs)) (runs ++ next_run forgotten runs event ∷ [])).runs
  new_run_one_each fit each =
      arrival_one_each (runs ++ next_run forgotten runs event ∷ []) (all_fit forgotten runs event fit) (Run (length runs)) new_run_waits
      (beside_new_run each)

-- ---- in a table

pub entered_settles : (t : TableState) (event : Admitted) → RunsFit t.runs → Settles (t.runs ++ next_run t.forgotten t.runs event ∷ []) (entered t event).runs
entered_settles t event fit = arrival_settles (Run (length t.runs)) (t.runs ++ next_run t.forgotten t.runs event ∷ []) (all_fit t.forgotten t.runs event fit)

pub entered_keeps : (t : TableState) (event : Admitted) → IsKept t → admission_answer t event ≡ None
    → IsKept (record t { runs = (entered t event).runs })
entered_keeps t event s none =
    kept_settles (record t { runs = t.runs ++ next_run t.forgotten t.runs event ∷ [] }) (entered t event).runs (admit_keeps t event s none)
    (entered_settles t event s.fit)

pub entered_one_each : (t : TableState) (event : Admitted) → RunsFit t.runs → HasOneEach t.runs → HasOneEach (entered t event).runs
entered_one_each t event fit each = new_run_one_each t.forgotten t.runs event fit each
