-- The runs of a table after a command and before settling: each run still fits, and each group has at most one holder
-- of each kind.
use Rattle.std.specs.Prelude.{◌≡◌, ℕ, ◌<◌, List, [], ◌∷◌, ◌++◌, true, false, length, Option, Some, None, IfSome, refl}
use Rattle.std.proofs.Common.{ap, sym, ◌∙◌, subst}
use Rattle.std.proofs.lemmas.Option.{slice_get_within}
use Rattle.definitions.specs.SmallText.{Admitted}
use Rattle.run_plan.specs.declared.command.Attempt.{Attempt}
use Rattle.run_plan.specs.declared.command.Done.{Done as Reported}
use Rattle.table_model.specs.Settling.{arrived}
use Rattle.table_model.specs.Fitting.{first_fit}
use Rattle.table_model.specs.Groups.{HasOneBeside, HasOneEach, waits}
use Rattle.table_model.specs.Forgotten.{ForgottenRuns, next_run}
use Rattle.table_model.specs.Runs.{run_at, with_leg, with_run, leg_has_ended, again, leased_leg, RunState}
use Rattle.table_model.specs.declared.sites.LegSite.{LegSite}
use Rattle.table_model.specs.Sound.{IsSound, RunsAreSound}
use Rattle.table_model.specs.Step.{entered_again, report_answer, rerun_answer}
use Rattle.table_model.specs.Stops.{with_ended, outcome_of_loss, stopped_run}
use Rattle.table_model.specs.declared.phases.RunPhase.TheVariants as run
use Rattle.table_model.specs.TableState.{RunnerState, TableState, index_of, runner_named}
use Rattle.table_model.specs.declared.phases.LegPhase.{LegPhase}
use Rattle.run_table.proofs.AdmitKeeps.{all_fit}
use Rattle.run_table.proofs.BeginsAgain.{BeginsAgain, begins_again}
use Rattle.run_table.proofs.ClaimKeeps.{fitting_leg}
use Rattle.run_table.proofs.CommandsOneEach.{ended_one_each, leased_one_each, stopped_one_each}
use Rattle.run_table.proofs.EnteredAgain.{again_fits, again_waits, beside_again, entered_again_one_each, entered_again_settles}
use Rattle.table_model.proofs.JobKeeps.{leg_in, leg_stays}
use Rattle.settling_laws.proofs.HoldersKeep.{run_stop_settles}
use Rattle.run_table.proofs.Kept.{kept_from_sound}
use Rattle.run_table.proofs.ReportKeeps.{loss_stays, report_stays}
use Rattle.table_model.proofs.RunFits.{RunsFit}
use Rattle.settling_laws.proofs.SoundRuns.{sound_runs}
use Rattle.table_model.specs.declared.holder.Holder.{Holder}
use Rattle.table_model.specs.declared.holder.Holder.TheVariants.{Run}

-- the runs fit, and no group has two holders of a kind
pub record MaySettle (runs : List RunState) : Type 0 where
  pub sound : RunsAreSound runs
  pub one_each : HasOneEach runs

table_fits : (t : TableState) → IsSound t → RunsFit t.runs
table_fits t s = (kept_from_sound t s).fit

-- equal runs may settle too
pub so_settles : (runs new : List RunState) → new ≡ runs → MaySettle runs → MaySettle new
so_settles runs new is may = subst MaySettle (sym is) may

-- ---- a run is entered

pub sound_with_it : (t : TableState) (event : Admitted) (forgotten : ForgottenRuns) (runs : List RunState) → IsSound t → runs ≡ t.runs
    → RunsAreSound (runs ++ next_run forgotten runs event ∷ [])
sound_with_it t event forgotten runs s runs_are =
    subst (λ (xs : List RunState). RunsAreSound (xs ++ next_run forgotten xs event ∷ [])) (sym runs_are)
    (sound_runs (t.runs ++ next_run forgotten t.runs event ∷ []) (all_fit forgotten t.runs event (table_fits t s)))

-- ---- a run begins again

-- the newcomer may arrive
pub record MayArrive (runs : List RunState) (newcomer : Holder) : Type 0 where
  pub is_pending : waits runs newcomer ≡ true
  pub sound : RunsAreSound runs
  pub one_beside : HasOneBeside runs newcomer

pub again_arrives : (t : TableState) (r attempt : ℕ) → IsSound t → BeginsAgain t.runs r attempt
    → MayArrive (with_run r again t.runs) (Run r)
again_arrives t r attempt s begins = record {
  is_pending = again_waits t.runs r begins.was begins.there;
  sound = sound_runs (with_run r again t.runs) (again_fits t.runs r (table_fits t s));
  one_beside = beside_again t.runs r s.one_of_each_group;
}

pub again_may_settle : (t : TableState) (r attempt : ℕ) → IsSound t → BeginsAgain t.runs r attempt → MaySettle (entered_again t r).runs
again_may_settle t r attempt s begins = record {
  sound = sound_runs (entered_again t r).runs (entered_again_settles t r (table_fits t s)).stay.fit;
  one_each = entered_again_one_each t r attempt (table_fits t s) begins s.one_of_each_group;
}

-- the run with an id, at its index
pub may_begin : (t : TableState) (requested : Attempt) (runs : List RunState) (index : ℕ) → rerun_answer t requested ≡ None → runs ≡ t.runs
    → index ≡ index_of t requested.run → IfSome (run_at runs index) (λ x. x.attempt < 1000)
may_begin t requested runs index due runs_are place_is =
    let begins = begins_again t requested due in
    subst (λ (o : Option RunState). IfSome o (λ x. x.attempt < 1000))
    (sym (ap (run_at runs) place_is ∙ ap (λ (rs : List RunState). run_at rs (index_of t requested.run)) runs_are ∙ begins.there)) begins.below

-- it has ended, and all runs are sound
pub may_begin_again : (t : TableState) (requested : Attempt) (runs : List RunState) (index : ℕ) → rerun_answer t requested ≡ None → runs ≡ t.runs
    → index ≡ index_of t requested.run → IfSome (run_at runs index) (λ x. x.phase ≡ run.Ended)
may_begin_again t requested runs index due runs_are place_is =
    let begins = begins_again t requested due in
    subst (λ (o : Option RunState). IfSome o (λ x. x.phase ≡ run.Ended))
    (sym (ap (run_at runs) place_is ∙ ap (λ (rs : List RunState). run_at rs (index_of t requested.run)) runs_are ∙ begins.there)) begins.ended

pub begins_within : (t : TableState) (requested : Attempt) (runs : List RunState) (index : ℕ) → rerun_answer t requested ≡ None → runs ≡ t.runs
    → index ≡ index_of t requested.run → index < length runs
begins_within t requested runs index due runs_are place_is =
    let begins = begins_again t requested due in
    slice_get_within runs index begins.was
    (ap (run_at runs) place_is ∙ ap (λ (rs : List RunState). run_at rs (index_of t requested.run)) runs_are ∙ begins.there)

pub sound_as_they_are : (t : TableState) (runs : List RunState) → IsSound t → runs ≡ t.runs → RunsAreSound runs
sound_as_they_are t runs s runs_are = subst RunsAreSound (sym runs_are) (sound_runs t.runs (table_fits t s))

-- runs among which it has begun again
pub record Begun (t : TableState) (requested : Attempt) (begun : List RunState) (index : ℕ) : Type 0 where
  pub sound : IsSound t
  pub due : rerun_answer t requested ≡ None
  pub begun_is : begun ≡ with_run (index_of t requested.run) again t.runs
  pub at_place : index ≡ index_of t requested.run

pub has_begun : (t : TableState) (requested : Attempt) (runs begun : List RunState) (index : ℕ) → IsSound t → rerun_answer t requested ≡ None
    → runs ≡ t.runs → begun ≡ with_run index again runs → index ≡ index_of t requested.run → Begun t requested begun index
has_begun t requested runs begun index s due runs_are begun_is place_is = record {
  sound = s;
  due = due;
  begun_is = begun_is ∙ ap (λ n. with_run n again runs) place_is ∙ ap (with_run (index_of t requested.run) again) runs_are;
  at_place = place_is;
}

pub begun_arrives : {t : TableState} {requested : Attempt} {begun : List RunState} {index : ℕ} → Begun t requested begun index
    → MayArrive begun (Run index)
begun_arrives {t} {requested} {begun} {index} b =
    subst (λ (xs : List RunState). MayArrive xs (Run index)) (sym b.begun_is)
    (subst (λ (n : ℕ). MayArrive (with_run (index_of t requested.run) again t.runs) (Run n)) (sym b.at_place)
    (again_arrives t (index_of t requested.run) requested.attempt b.sound (begins_again t requested b.due)))

pub begun_settles : {t : TableState} {requested : Attempt} {begun : List RunState} {index : ℕ} → Begun t requested begun index
    → (new : List RunState) → new ≡ (arrived (Run index) begun).runs → MaySettle new
begun_settles {t} {requested} {begun} {index} b new new_is =
    let is : new ≡ (entered_again t (index_of t requested.run)).runs =
    new_is ∙ ap (λ n. (arrived (Run n) begun).runs) b.at_place
    ∙ ap (λ xs. (arrived (Run (index_of t requested.run)) xs).runs) b.begun_is in
    subst MaySettle (sym is) (again_may_settle t (index_of t requested.run) requested.attempt b.sound (begins_again t requested b.due))

-- ---- a leg is leased

pub leased_may_settle : (t : TableState) (labels : List (List ℕ)) (p : LegSite) (lease : ℕ) → IsSound t
    → first_fit labels t.runs ≡ Some p → MaySettle (with_leg p (λ _. leased_leg lease) t.runs)
leased_may_settle t labels p lease s fits =
    let ready = fitting_leg labels t.runs p fits in
    let z = ready.leg_of in
    let unended : leg_has_ended z ≡ false = ap (λ (phase : LegPhase). leg_has_ended (record z { phase = phase })) ready.ready in
    let stay = leg_stays t.runs (table_fits t s) p z (λ _. leased_leg lease) (leg_in t.runs p z ready.is) unended refl in
    record {
      sound = sound_runs (with_leg p (λ _. leased_leg lease) t.runs) stay.fit;
      one_each = leased_one_each t.runs (table_fits t s) labels p lease fits s.one_of_each_group;
    }

-- ---- a leg ends

pub reported_may_settle : (t : TableState) (report : Reported) → IsSound t → report_answer t report ≡ None
    → MaySettle (with_ended report.lease report.result t.runs)
reported_may_settle t report s none =
    let stay = report_stays t report (kept_from_sound t s) none in
    record {
      sound = sound_runs (with_ended report.lease report.result t.runs) stay.fit;
      one_each = ended_one_each report.lease report.result t.runs (table_fits t s) stay s.one_of_each_group;
    }

pub lost_may_settle : (t : TableState) (name : List ℕ) (runner : RunnerState) (lease : ℕ) → IsSound t
    → runner_named t.runners name ≡ Some runner
    → runner.holds ≡ Some lease → MaySettle (with_ended lease (outcome_of_loss t.runs lease) t.runs)
lost_may_settle t name runner lease s named holds =
    let stay = loss_stays t name runner lease (kept_from_sound t s) named holds in
    record {
      sound = sound_runs (with_ended lease (outcome_of_loss t.runs lease) t.runs) stay.fit;
      one_each = ended_one_each lease (outcome_of_loss t.runs lease) t.runs (table_fits t s) stay s.one_of_each_group;
    }

-- ---- a run is stopped

pub stopped_may_settle : (t : TableState) (r : ℕ) → IsSound t → MaySettle (with_run r stopped_run t.runs)
stopped_may_settle t r s = record {
  sound = sound_runs (with_run r stopped_run t.runs) (run_stop_settles t.runs r (table_fits t s)).stay.fit;
  one_each = stopped_one_each r t.runs (table_fits t s) s.one_of_each_group;
}
