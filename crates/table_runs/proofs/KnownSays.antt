-- What is kept of the labels of a leg are their texts in the leg's context, whatever the results.
use Rattle.std.specs.Prelude.{◌≡◌, ◌<◌, ℕ, List, length, map, IfSome, MatchOption, Option, Some, None, option_and_then, option_map, slice_get, refl}
use Rattle.std.specs.Option.{option_map_or}
use Rattle.std.proofs.Common.{arith, ap, subst, sym, ◌∙◌}
use Rattle.std.proofs.lemmas.Option.{same_Some}
use Rattle.wf_expr.specs.Bound.{no_results}
use Rattle.wf_expr.specs.TemplateValue.{Values}
use Rattle.run_plan.specs.PlanOf.{plan_of}
use Rattle.run_plan.specs.declared.planned.PlannedJob.{PlannedJob}
use Rattle.table_model.specs.Groups.{RunFacts, run_facts, run_facts_at}
use Rattle.table_model.specs.LegContext.{context_at, context_of, nothing, label_texts, labels_at}
use Rattle.table_model.specs.Runs.{plan_at, run_at, RunState}
use Rattle.table_model.specs.declared.sites.LegSite.{LegSite}
use Rattle.table_model.proofs.Optional.{from_and_then}
use Rattle.table_bindings.specs.Bindings.{AreBound, JobSays, KeepsLabels, KeepsLabelsAt, RunSays}
use Rattle.table_bindings.specs.BoundGroups.{facts_by, need_of_job, results_by_index}
use Rattle.table_bindings.specs.KnownLabels.{AreAlike, KeepsTexts, short_text}
use Rattle.table_bindings.specs.LabelNumbers.{kept_texts, texts_in, texts_of}
use Rattle.table_bindings.specs.PlainLabels.{AreTheTexts}
use Rattle.table_bindings.specs.declared.bindings.JobBindings.{JobBindings}
use Rattle.table_bindings.specs.declared.bindings.RunBindings.{RunBindings}
use Rattle.table_bindings.specs.declared.resolved_labels.ResolvedLabels.{ResolvedLabels}
use Rattle.table_bindings.specs.declared.resolved_labels.ResolvedLabels.TheVariants as wanted
use Rattle.table_bindings.proofs.Binding.{leg_has_results_at_last}
use Rattle.table_bindings.proofs.BoundSays.{as_long, leg_facts_of, leg_told, run_told}
use Rattle.table_bindings.proofs.KeptLabels.{kept_whatever}
use Rattle.table_runs.proofs.PlannedLegs.{PlannedLeg, found_below}
use Rattle.table_bindings.proofs.ShortLabels.{alike_if_kept}

-- ---- the labels of a leg of a table

pub context_told : (runs : List RunState) (p : LegSite) (x : RunState) (job : PlannedJob) → run_at runs p.run ≡ Some x
    → slice_get (plan_of x.admitted.body) p.job ≡ Some job → context_at runs p ≡ context_of (leg_facts_of p x job)
unfolding context_at
context_told runs p x job at planned = ap (λ o. option_map_or context_of o nothing) (leg_told runs p x job at planned)

in_any_context : (o : Option (List (List ℕ))) (texts : List (List ℕ)) (job : PlannedJob) → IfSome o (AreTheTexts job.labels)
    → o ≡ Some texts → AreTheTexts job.labels texts
in_any_context None texts job says is = cc
in_any_context (Some others) texts job says is = λ values. says values ∙ same_Some others texts is

-- a leg of a run whose bindings were made, with what was bound for its job
module _ (runs : List RunState) (p : LegSite) (x : RunState) (job : PlannedJob) (k : RunBindings) (a : JobBindings)
    (at : run_at runs p.run ≡ Some x) (there : slice_get (plan_of x.admitted.body) p.job ≡ Some job)
    (says : (facts : RunFacts) → run_facts_at runs p.run ≡ Some facts → RunSays facts k) (requested : slice_get k.jobs p.job ≡ Some a) where
  abbrev facts : RunFacts
  facts = run_facts x

  said : JobSays facts p.job job a
  said = (says facts (run_told runs p.run x at)).jobs p.job a requested job there

  abbrev values : Values
  values = context_of (leg_facts_of p x job)

  -- the texts of its labels
  abbrev own_texts : List (List ℕ)
  own_texts = label_texts values job.labels

  has_own_texts : labels_at runs p ≡ Some own_texts
  has_own_texts =
      ap (λ o. option_map (λ (j : PlannedJob). label_texts (context_at runs p) j.labels)
      (option_and_then (λ (run : RunState). slice_get (plan_of run.admitted.body) p.job) o)) at
      ∙ ap (option_map (λ (j : PlannedJob). label_texts (context_at runs p) j.labels)) there
      ∙ ap (λ (v : Values). Some (label_texts v job.labels)) (context_told runs p x job at there)

  kept_of_own : (kept : ResolvedLabels) → slice_get a.labels p.leg ≡ Some kept → KeepsTexts (results_by_index x) kept own_texts
  kept_of_own kept found =
      kept_whatever (context_of (facts_by facts p.job job p.leg no_results)) (need_of_job (plan_of x.admitted.body) p.job) job.labels kept
      (said.labels.each p.leg kept found) (results_by_index x) values (leg_has_results_at_last facts job p.job p.leg (results_by_index x))

  plain_are_own : (texts : List (List ℕ)) → a.plain ≡ Some texts → own_texts ≡ texts
  plain_are_own texts plain = in_any_context a.plain texts job said.plain plain values

  -- what was bound of them is kept of these texts
  keeps_own : p.leg < length job.legs → KeepsLabels (results_by_index x) a p.leg own_texts
  keeps_own within = by (slice_get a.labels p.leg) refl
    where
      by_plain : (o : Option (List (List ℕ))) → a.plain ≡ o → slice_get a.labels p.leg ≡ None → a.plain ≡ Some own_texts
      by_plain (Some texts) plain none = plain ∙ ap (λ (ts : List (List ℕ)). Some ts) (sym (plain_are_own texts plain))
      by_plain None plain none =
          let many : length a.labels ≡ length job.legs =
          said.labels.many ∙ ap (λ (o : Option (List (List ℕ))). option_map_or (λ texts. 0) o (length job.legs)) plain in
          let found = found_below a.labels p.leg (omega (arith, many, within)) in
          let bad : Some found.0 ≡ None = sym found.1 ∙ none in
          cc

      by : (o : Option ResolvedLabels) → slice_get a.labels p.leg ≡ o
          → MatchOption o (a.plain ≡ Some own_texts) (λ kept. KeepsTexts (results_by_index x) kept own_texts)
      by (Some kept) found = kept_of_own kept found
      by None none = by_plain a.plain refl none

  -- and the texts that are known are the same for runners
  known_alike : (texts : List (List ℕ)) → texts_in a p.leg ≡ Some texts → AreAlike own_texts texts
  known_alike texts = by (slice_get a.labels p.leg) refl
    where
      by : (o : Option ResolvedLabels) → slice_get a.labels p.leg ≡ o → option_map_or kept_texts o a.plain ≡ Some texts
          → AreAlike own_texts texts
      by None none plain = ap (map short_text) (plain_are_own texts plain)
      by (Some (wanted.Known others)) found is =
          alike_if_kept own_texts texts (sym (same_Some others texts is) ∙ kept_of_own (wanted.Known others) found)
      by (Some (wanted.ByResults labels)) found is = cc

-- the labels of a planned leg
pub record OwnLabels (runs : List RunState) (p : LegSite) (x : RunState) (k : RunBindings) : Type 0 where
  pub texts : List (List ℕ)
  pub are : labels_at runs p ≡ Some texts
  pub keeps : KeepsLabelsAt (results_by_index x) k p.job p.leg texts

pub labels_kept : (runs : List RunState) (p : LegSite) (x : RunState) (k : RunBindings) → run_at runs p.run ≡ Some x
    → ((facts : RunFacts) → run_facts_at runs p.run ≡ Some facts → RunSays facts k) → PlannedLeg (plan_of x.admitted.body) p.job p.leg
    → OwnLabels runs p x k
labels_kept runs p x k at says planned =
    let run = says (run_facts x) (run_told runs p.run x at) in
    let bindings = as_long (plan_of x.admitted.body) k.jobs p.job planned.job run.as_many planned.is in
    record {
      texts = own_texts runs p x planned.job k bindings.0 at planned.is says bindings.1;
      are = has_own_texts runs p x planned.job k bindings.0 at planned.is says bindings.1;
      keeps = subst (λ (o : Option JobBindings). MatchOption o ⊥
          (λ job. KeepsLabels (results_by_index x) job p.leg (own_texts runs p x planned.job k bindings.0 at planned.is says bindings.1))) (sym bindings.1)
          (keeps_own runs p x planned.job k bindings.0 at planned.is says bindings.1 planned.within);
    }

-- ---- the known labels of a leg, whether kept for the leg or the same for all legs of its job

-- the labels of a leg, which are for runners as the texts that are known
pub record KnownLabels (runs : List RunState) (p : LegSite) (known : List (List ℕ)) : Type 0 where
  pub texts : List (List ℕ)
  pub are : labels_at runs p ≡ Some texts
  pub alike : AreAlike texts known

pub texts_there : (runs : List RunState) (kept : List RunBindings) → AreBound runs kept → (p : LegSite) (job : PlannedJob) (k : RunBindings)
    → (texts : List (List ℕ)) → plan_at runs p.run p.job ≡ Some job → slice_get kept p.run ≡ Some k
    → texts_of k.jobs p.job p.leg ≡ Some texts → KnownLabels runs p texts
texts_there runs kept bound p job k texts planned is known =
    let run = from_and_then (λ (x : RunState). slice_get (plan_of x.admitted.body) p.job) (run_at runs p.run) job planned in
    let bindings = from_and_then (λ (a : JobBindings). texts_in a p.leg) (slice_get k.jobs p.job) texts known in
    let says : (facts : RunFacts) → run_facts_at runs p.run ≡ Some facts → RunSays facts k = λ facts identity. bound.each p.run facts k identity is in
    record {
      texts = own_texts runs p run.value job k bindings.value run.is run.gives says bindings.is;
      are = has_own_texts runs p run.value job k bindings.value run.is run.gives says bindings.is;
      alike = known_alike runs p run.value job k bindings.value run.is run.gives says bindings.is texts bindings.gives;
    }
