-- The kept labels have the texts of the labels, whatever the results.
use Rattle.std.specs.Prelude.{◌≡◌, ℕ, List, [], ◌∷◌, ◌++◌, map, length, Bool, true, false, Option, Some, None}
use Rattle.std.specs.Prelude.{nat_eq, filter_map, if◌then◌else◌, refl}
use Rattle.std.specs.List.{list_all}
use Rattle.std.specs.Option.{option_map_or}
use Rattle.std.proofs.Common.{arith, ap, subst, sym, ◌∙◌}
use Rattle.std.proofs.Math.Path.{fun_ext}
use Rattle.std.proofs.lemmas.Bool.{and_parts, eqb-true}
use Rattle.wf_value.specs.ScalarValue.{scalar_text}
use Rattle.wf_value.specs.declared.scalar.Scalar.{Scalar}
use Rattle.wf_expr.specs.Bound.{HasResults, NeedOf, Results, before_true, bound_of, bound_piece, bound_piece_text, bound_text}
use Rattle.wf_expr.specs.Bound.{need_of_operand, no_results, result_value, with_results}
use Rattle.wf_expr.specs.TemplateValue.{Values, piece_text, template_value}
use Rattle.wf_expr.specs.declared.bound.BoundPiece.{BoundPiece}
use Rattle.wf_expr.specs.declared.piece.Piece.{Piece}
use Rattle.wf_expr.specs.declared.piece.Piece.TheVariants.{Plain, Braced}
use Rattle.wf_expr.proofs.BoundLemmas.{text-when-bound}
use Rattle.table_model.specs.LegContext.{label_texts}
use Rattle.table_bindings.specs.KnownLabels.{KeepsTexts, ask_nothing, needs_nothing, kept_of, otherwise_text, short_text}
use Rattle.table_bindings.specs.declared.resolved_labels.ResolvedLabels.{ResolvedLabels}
use Rattle.table_bindings.specs.declared.resolved_labels.ResolvedLabels.TheVariants as wanted

-- ---- labels that depend on no result

no_needs : (needs : List ℕ) → nat_eq (length needs) 0 ≡ true → needs ≡ []
no_needs [] none = refl
no_needs (need ∷ needs) none = absurd (omega (arith, eqb-true (length (need ∷ needs)) 0 none))

says_otherwise : (results : Results) (piece : BoundPiece) → needs_nothing piece ≡ true → bound_piece_text results piece ≡ piece.otherwise
says_otherwise results piece none =
    ap (λ needs. bound_piece_text results (record { needs = needs; otherwise = piece.otherwise })) (no_needs piece.needs none)

text_whatever_results : (results : Results) (label : List BoundPiece) → ask_nothing label ≡ true
    → bound_text results label ≡ otherwise_text label
text_whatever_results results [] none = refl
text_whatever_results results (piece ∷ label) none =
    let parts = and_parts (needs_nothing piece) (ask_nothing label) none in
    ap (λ text. text ++ bound_text results label) (says_otherwise results piece parts.0)
    ∙ ap (λ text. piece.otherwise ++ text) (text_whatever_results results label parts.1)

all_whatever_results : (results : Results) (labels : List (List BoundPiece)) → list_all ask_nothing labels ≡ true
    → map otherwise_text labels ≡ map (bound_text results) labels
all_whatever_results results [] none = refl
all_whatever_results results (label ∷ labels) none =
    let parts = and_parts (ask_nothing label) (list_all ask_nothing labels) none in
    ap (λ text. text ∷ map otherwise_text labels) (sym (text_whatever_results results label parts.0))
    ∙ ap (λ texts. bound_text results label ∷ texts) (all_whatever_results results labels parts.1)

-- ---- the kept labels, given the results

all_short : (labels : List (List BoundPiece)) → map (λ label. short_text (otherwise_text label)) labels ≡ map short_text (map otherwise_text labels)
all_short [] = refl
all_short (label ∷ labels) = ap (λ texts. short_text (otherwise_text label) ∷ texts) (all_short labels)

kept_as_bound : (results : Results) (labels : List (List BoundPiece)) → KeepsTexts results (kept_of labels) (map (bound_text results) labels)
kept_as_bound results labels = by (list_all ask_nothing labels) refl
  where
    by : (b : Bool) → list_all ask_nothing labels ≡ b
        → KeepsTexts results (if b then wanted.Known (map (λ label. short_text (otherwise_text label)) labels) else wanted.ByResults labels)
        (map (bound_text results) labels)
    by true none = all_short labels ∙ ap (map short_text) (all_whatever_results results labels none)
    by false some = refl

all_when_bound : (known : Values) (need_of : NeedOf) (labels : List (List Piece)) (results : Results) (values : Values)
    → HasResults known need_of results values → map (bound_text results) (map (bound_of known need_of) labels) ≡ label_texts values labels
all_when_bound known need_of [] results values has = refl
all_when_bound known need_of (label ∷ labels) results values has =
    ap (λ text. text ∷ map (bound_text results) (map (bound_of known need_of) labels))
    (sym (text-when-bound known need_of label (bound_of known need_of label) refl results values has))
    ∙ ap (λ texts. scalar_text (template_value values label) ∷ texts) (all_when_bound known need_of labels results values has)

-- by any results it is kept of the texts that the labels have by them
pub kept_whatever : (known : Values) (need_of : NeedOf) (labels : List (List Piece)) (kept : ResolvedLabels)
    → kept ≡ kept_of (map (bound_of known need_of) labels) → (results : Results) (values : Values) → HasResults known need_of results values
    → KeepsTexts results kept (label_texts values labels)
kept_whatever known need_of labels kept is results values has =
    subst (λ k. KeepsTexts results k (label_texts values labels)) (sym is)
    (subst (KeepsTexts results (kept_of (map (bound_of known need_of) labels))) (all_when_bound known need_of labels results values has)
    (kept_as_bound results (map (bound_of known need_of) labels)))

-- ---- bound labels do not depend on the results that exist already

-- the needs of a piece, and its text, from the values of its paths
abbrev seen : Values → NeedOf → Piece → BoundPiece
seen values need_of (Plain text) = record { needs = []; otherwise = text }
seen values need_of (Braced operands) = record {
  needs = filter_map (need_of_operand need_of) (before_true values operands);
  otherwise = piece_text values (Braced operands);
}

bound_as_seen : (known : Values) (need_of : NeedOf) (piece : Piece)
    → bound_piece known need_of piece ≡ seen (with_results known need_of no_results) need_of piece
bound_as_seen known need_of (Plain text) = refl
bound_as_seen known need_of (Braced operands) = refl

all_as_seen : (known : Values) (need_of : NeedOf) (label : List Piece)
    → bound_of known need_of label ≡ map (seen (with_results known need_of no_results) need_of) label
all_as_seen known need_of [] = refl
all_as_seen known need_of (piece ∷ label) =
    ap (λ p. p ∷ bound_of known need_of label) (bound_as_seen known need_of piece)
    ∙ ap (λ ps. seen (with_results known need_of no_results) need_of piece ∷ ps) (all_as_seen known need_of label)

taken_twice : (o : Option ℕ) (value : Option Scalar)
    → option_map_or (λ need. result_value (no_results need)) o (option_map_or (λ need. result_value (no_results need)) o value)
    ≡ option_map_or (λ need. result_value (no_results need)) o value
taken_twice None value = refl
taken_twice (Some need) value = refl

twice : (known : Values) (need_of : NeedOf) → with_results (with_results known need_of no_results) need_of no_results
    ≡ with_results known need_of no_results
twice known need_of = fun_ext (λ path. taken_twice (need_of path) (known path))

pub bound_by_none : (known : Values) (need_of : NeedOf) (values : Values) → HasResults known need_of no_results values
    → bound_of known need_of ≡ bound_of values need_of
bound_by_none known need_of values has =
    let again : with_results known need_of no_results ≡ with_results values need_of no_results =
    sym (twice known need_of) ∙ ap (λ v. with_results v need_of no_results) (sym (fun_ext has)) in
    fun_ext (λ label. all_as_seen known need_of label
    ∙ ap (λ v. map (seen v need_of) label) again
    ∙ sym (all_as_seen values need_of label))
