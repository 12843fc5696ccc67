-- A run that is not marked for any list that a runner serves has no leg that fits the runner.
use Rattle.std.specs.Prelude.{◌≡◌, ◌≤◌, ◌<◌, ℕ, ◌&&◌, List, length, Bool, true, false, IfNone, IfSome, Option, Some, None, option_and_then, option_map}
use Rattle.std.specs.Prelude.{MatchOption, slice_get, if◌then◌else◌, refl}
use Rattle.std.specs.Option.{option_map_or}
use Rattle.std.proofs.Common.{arith, ap, subst, sym, ◌∙◌, inl, inr}
use Rattle.std.proofs.lemmas.Bool.{cases_lt, true≢false}
use Rattle.std.proofs.lemmas.Option.{same_Some, slice_get_past}
use Rattle.label_lists.specs.Known.{IsBefore}
use Rattle.label_lists.specs.Lists.{ListsState, labels_of, may_offer}
use Rattle.run_plan.specs.declared.planned.PlannedJob.{PlannedJob}
use Rattle.table_model.specs.Fitting.{has_labels, is_ready, is_served, has_room}
use Rattle.table_model.specs.LegContext.{context_at, label_texts, labels_at}
use Rattle.table_model.specs.inner.Resuming.{NoneBefore, apply_at}
use Rattle.table_model.specs.Runs.{leg_at, leg_site, plan_at, run_at, JobState, LegState, RunState}
use Rattle.table_model.specs.declared.sites.LegSite.{LegSite}
use Rattle.table_model.specs.inner.WithinRun.{fit_in_job, fit_in_run, served_in_job}
use Rattle.table_model.proofs.RunFits.{job_in_run, leg_in_job}
use Rattle.table_bindings.specs.Bindings.{AreBound}
use Rattle.table_bindings.specs.KnownLabels.{AreAlike}
use Rattle.table_bindings.specs.inner.LabelNumbers.{IsReadyAt, LegsAreOffered, MayServe, ServesList}
use Rattle.table_bindings.specs.LabelNumbers.{list_number, texts_of}
use Rattle.table_bindings.specs.declared.bindings.RunBindings.{RunBindings}
use Rattle.table_runs.proofs.KnownSays.{KnownLabels, texts_there}
use Rattle.table_bindings.proofs.LabelNumbers.{as_long}
use Rattle.table_runs.proofs.NoneActive.{none_placed}

unplanned : (runs : List RunState) (p : LegSite) → plan_at runs p.run p.job ≡ None → labels_at runs p ≡ None
unplanned runs p none = ap (option_map (λ (planned : PlannedJob). label_texts (context_at runs p) planned.labels)) none

none_taken : (b : Bool) (o : Option LegSite) → o ≡ None → (if b then o else None) ≡ None
none_taken true o e = e
none_taken false o e = refl

module _ (labels : List (List ℕ)) (runs : List RunState) (bindings : List RunBindings) (lists : ListsState) (bound : AreBound runs bindings)
    (are : LegsAreOffered runs bindings lists) (i : ℕ) (none : (n : ℕ) → MayServe lists labels n → may_offer lists n i ≡ false)
    (kept : RunBindings) (requested : slice_get bindings i ≡ Some kept) where
  -- the runner cannot serve a ready leg of it
  misfits : (j l : ℕ) → IsReadyAt runs (leg_site i j l) → is_served labels runs (leg_site i j l) ≡ false
  misfits j l ready = by_plan (plan_at runs i j) refl
    where
      p : LegSite
      p = leg_site i j l

      n : ℕ
      n = list_number kept.lists j l

      offered : may_offer lists n i ≡ true
      offered = are.offered p kept ready requested

      never : MayServe lists labels n → is_served labels runs p ≡ false
      never may = absurd (true≢false (sym offered ∙ none n may))

      by_labels : (texts : List (List ℕ)) → labels_of lists n ≡ Some texts → (own : KnownLabels runs p texts)
          → (b : Bool) → has_labels labels own.texts ≡ b → is_served labels runs p ≡ false
      by_labels texts listed own true is =
          never (inr (record { kept = texts; listed = listed; whole = own.texts; alike = own.alike; served = is }))
      by_labels texts listed own false is = ap (λ o. option_map_or (has_labels labels) o false) own.are ∙ is

      by_texts : (job : PlannedJob) → plan_at runs i j ≡ Some job → (o : Option (List (List ℕ))) → texts_of kept.jobs j l ≡ o
          → MatchOption o ⊥ (λ texts. labels_of lists n ≡ Some texts) → is_served labels runs p ≡ false
      by_texts job planned None known says = absurd says
      by_texts job planned (Some texts) known says =
          let own = texts_there runs bindings bound p job kept texts planned requested known in
          by_labels texts says own (has_labels labels own.texts) refl

      by_plan : (o : Option PlannedJob) → plan_at runs i j ≡ o → is_served labels runs p ≡ false
      by_plan None planned =
          ap (λ (o : Option (List (List ℕ))). option_map_or (has_labels labels) o false) (unplanned runs p planned)
      by_plan (Some job) planned =
          elim ((are.numbers i kept requested j l).says) [
            | inl zero ↦ never (inl zero)
            | inr says ↦ by_texts job planned (texts_of kept.jobs j l) refl says
          ]

  leg_passed : (j : ℕ) (y : JobState) (l : ℕ) (z : LegState) → leg_at runs (leg_site i j l) ≡ Some z → (b : Bool) → is_ready z.phase ≡ b
      → (if is_ready z.phase && is_served labels runs (leg_site i j l) then Some (leg_site i j l) else None) ≡ None
  leg_passed j y l z at true is =
      let ready : IsReadyAt runs (leg_site i j l) = ap (λ o. option_map_or (λ (leg : LegState). is_ready leg.phase) o false) at ∙ is in
      ap (λ b. if b && is_served labels runs (leg_site i j l) then Some (leg_site i j l) else None) is
      ∙ ap (λ b. if b then Some (leg_site i j l) else None) (misfits j l ready)
  leg_passed j y l z at false is =
      ap (λ b. if b && is_served labels runs (leg_site i j l) then Some (leg_site i j l) else None) is

  job_passed : (x : RunState) → run_at runs i ≡ Some x → (j : ℕ) (y : JobState) → slice_get x.jobs j ≡ Some y
      → fit_in_job labels runs i j y ≡ None
  job_passed x here j y at =
      none_taken (has_room runs i j y) (served_in_job labels runs i j y)
      (none_placed _ y.legs
      (λ l z leg.
      leg_passed j y l z (leg_in_job runs (leg_site i j l) y (job_in_run runs i j x here ∙ at) ∙ leg) (is_ready z.phase) refl))

  run_passed : (x : RunState) → run_at runs i ≡ Some x → fit_in_run labels runs i x ≡ None
  run_passed x here = none_placed _ x.jobs (λ j y at. job_passed x here j y at)

pub none_fits_there : (labels : List (List ℕ)) (runs : List RunState) (bindings : List RunBindings) (lists : ListsState) → AreBound runs bindings
    → LegsAreOffered runs bindings lists → (i : ℕ) → ((n : ℕ) → MayServe lists labels n → may_offer lists n i ≡ false)
    → apply_at (fit_in_run labels runs) runs i ≡ None
none_fits_there labels runs bindings lists bound are i none = by (slice_get runs i) refl (slice_get bindings i) refl
  where
    by : (o : Option RunState) → slice_get runs i ≡ o → (k : Option RunBindings) → slice_get bindings i ≡ k
        → apply_at (fit_in_run labels runs) runs i ≡ None
    by None here k requested = ap (option_and_then (fit_in_run labels runs i)) here
    by (Some x) here None requested =
        let gone : slice_get runs i ≡ None = as_long bindings runs i bound.as_many requested in
        let bad : Some x ≡ None = sym here ∙ gone in
        cc
    by (Some x) here (Some kept) requested =
        ap (option_and_then (fit_in_run labels runs i)) here ∙ run_passed labels runs bindings lists bound are i none kept requested x here

-- ---- a list that does not serve a runner

pub no_list_serves : (lists : ListsState) (labels : List (List ℕ)) (n : ℕ) → labels_of lists n ≡ None → ServesList lists labels n → ⊥
no_list_serves lists labels n none serves =
    let listed = serves.listed in
    let bad : Some serves.kept ≡ None = sym listed ∙ none in
    cc

pub lacks_one : (lists : ListsState) (labels : List (List ℕ)) (n : ℕ) (kept : List (List ℕ)) (has : Bool) → labels_of lists n ≡ Some kept
    → ((whole : List (List ℕ)) → AreAlike whole kept → has ≡ has_labels labels whole) → has ≡ false → ServesList lists labels n → ⊥
lacks_one lists labels n kept has listed tests lacks serves =
    let same = same_Some serves.kept kept (sym serves.listed ∙ listed) in
    true≢false (sym serves.served ∙ sym (tests serves.whole (subst (AreAlike serves.whole) same serves.alike)) ∙ lacks)

-- ---- the next run in which a leg may fit

pub next_from : (from : ℕ) (found next : Option ℕ) → IfSome next (λ r. found ≡ Some r) → IfSome found (λ r. from ≤ r)
    → IfSome next (λ r. from ≤ r)
next_from from found None same le = tt
next_from from found (Some r) same le = subst (λ (o : Option ℕ). IfSome o (λ s. from ≤ s)) same le

module _ (labels : List (List ℕ)) (runs : List RunState) (bindings : List RunBindings) (lists : ListsState) (bound : AreBound runs bindings)
    (are : LegsAreOffered runs bindings lists) (from : ℕ) (found : Option ℕ)
    (passed : (n s : ℕ) → from ≤ s → IsBefore s found → MayServe lists labels n → may_offer lists n s ≡ false) where
  passed_there : (i : ℕ) → from ≤ i → IsBefore i found → apply_at (fit_in_run labels runs) runs i ≡ None
  passed_there i le before = none_fits_there labels runs bindings lists bound are i (λ n may. passed n i le before may)

  pub next_between : (next : Option ℕ) → IfSome next (λ r. found ≡ Some r)
      → IfSome next (λ r. (i : ℕ) → from ≤ i → i < r → apply_at (fit_in_run labels runs) runs i ≡ None)
  next_between None same = tt
  next_between (Some r) same = λ i le lt. passed_there i le (subst (IsBefore i) (sym same) lt)

  none_after : (o : Option ℕ) → found ≡ o → IfSome o (λ r. length runs ≤ r) → (i : ℕ) → from ≤ i
      → apply_at (fit_in_run labels runs) runs i ≡ None
  none_after None is past i le = passed_there i le (subst (IsBefore i) (sym is) tt)
  none_after (Some r) is past i le =
      elim (cases_lt i (length runs)) [
        | inl within ↦ passed_there i le (subst (IsBefore i) (sym is) (omega (arith, within, past)))
        | inr suffix ↦ ap (option_and_then (fit_in_run labels runs i)) (slice_get_past runs i suffix)
      ]

  pub next_none : (count : ℕ) → count ≡ length runs → (next : Option ℕ) → IfNone next (IfSome found (λ r. count ≤ r))
      → IfNone next ((i : ℕ) → from ≤ i → apply_at (fit_in_run labels runs) runs i ≡ None)
  next_none count many None past = none_after found refl (subst (λ (n : ℕ). IfSome found (λ r. n ≤ r)) many past)
  next_none count many (Some r) past = tt

-- no leg fits before run `r`, if none fits before `from` and none from there to `r`
pub none_before : (labels : List (List ℕ)) (runs : List RunState) (from r : ℕ) → NoneBefore (fit_in_run labels runs) runs from
    → ((i : ℕ) → from ≤ i → i < r → apply_at (fit_in_run labels runs) runs i ≡ None) → NoneBefore (fit_in_run labels runs) runs r
none_before labels runs from r before between k lt =
    elim (cases_lt k from) [
      | inl early ↦ before k early
      | inr late ↦ between k late lt
    ]
