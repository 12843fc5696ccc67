-- The labels that a leg asks for, bound when an attempt of its run begins. If none depends on the result of a job, they are texts;
-- otherwise their texts follow from the results. A claim looks nothing up.
use Rattle.std.specs.Prelude.{◌≡◌, ℕ, List, [], map, Bool, length, nat_eq, nat_le, Option, Some, slice_get, if◌then◌else◌}
use Rattle.std.specs.List.{flat_map, list_all}
use Rattle.std.specs.Option.{option_map_or}
use Rattle.definitions.specs.Limits.{max_text_bytes}
use Rattle.wf_expr.specs.Bound.{Results, bound_of, bound_text, no_results}
use Rattle.wf_expr.specs.declared.bound.BoundPiece.{BoundPiece}
use Rattle.run_plan.specs.PlanOf.{plan_of}
use Rattle.run_plan.specs.declared.planned.PlannedJob.{PlannedJob}
use Rattle.table_model.specs.Groups.{RunFacts}
use Rattle.table_model.specs.LegContext.{context_of}
use Rattle.table_bindings.specs.BoundGroups.{facts_by, need_of_job}
use Rattle.table_bindings.specs.declared.resolved_labels.ResolvedLabels.{ResolvedLabels}
use Rattle.table_bindings.specs.declared.resolved_labels.ResolvedLabels.TheVariants as wanted

-- ---- labels that depend on no result

abbrev pub needs_nothing : BoundPiece → Bool
needs_nothing piece = nat_eq (length piece.needs) 0

abbrev pub ask_nothing : List BoundPiece → Bool
ask_nothing label = list_all needs_nothing label

-- the text of a label while no need has a result
abbrev pub otherwise_text : List BoundPiece → List ℕ
otherwise_text label = flat_map (λ (piece : BoundPiece). piece.otherwise) label

-- ---- what is kept

-- the text that is kept of a label: the empty text if the label is longer than a runner's label can be, since no runner has either
abbrev pub short_text : List ℕ → List ℕ
short_text text = if nat_le (length text) max_text_bytes then text else []

-- the texts if no label depends on a result, and otherwise the bound labels
abbrev pub kept_of : List (List BoundPiece) → ResolvedLabels
kept_of labels =
    if list_all ask_nothing labels then wanted.Known (map (λ label. short_text (otherwise_text label)) labels) else wanted.ByResults labels

-- for a leg, in its context before any job has a result
abbrev pub kept_of_leg : RunFacts → ℕ → PlannedJob → ℕ → ResolvedLabels
kept_of_leg run j job l =
    kept_of (map (bound_of (context_of (facts_by run j job l no_results)) (need_of_job (plan_of run.event.body) j)) job.labels)

-- for a job: one element for each leg, or none if all legs ask for the same texts
pub record AreKept (run : RunFacts) (j : ℕ) (job : PlannedJob) (plain : Option (List (List ℕ))) (kept : List ResolvedLabels) : Type 0 where
  pub many : length kept ≡ option_map_or (λ texts. 0) plain (length job.legs)
  pub each : (l : ℕ) (wanted : ResolvedLabels) → slice_get kept l ≡ Some wanted → wanted ≡ kept_of_leg run j job l

-- ---- what the labels are

-- given the results, these are the labels for which it is kept
abbrev pub KeepsTexts : Results → ResolvedLabels → List (List ℕ) → Type 0
KeepsTexts results (wanted.Known texts) whole = texts ≡ map short_text whole
KeepsTexts results (wanted.ByResults labels) whole = map (bound_text results) labels ≡ whole

-- the same texts, except for texts that are no runner's label
abbrev pub AreAlike : List (List ℕ) → List (List ℕ) → Type 0
AreAlike texts others = map short_text texts ≡ map short_text others
