use Rattle.std.specs.Prelude.{◌≡◌, map}
use Rattle.std.proofs.Common.{ap, subst, sym, ◌∙◌}
use Rattle.std.proofs.lemmas.List.Folds.{list_all-map}
use Rattle.wf_expr.specs.Bound.{bound_text}
use Rattle.table_model.specs.Fitting.{has_label, has_labels}
use Rattle.table_bindings.specs.KnownLabels.{KeepsTexts}
use Rattle.table_bindings.specs.declared.resolved_labels.ResolvedLabels.{ResolvedLabels}
use Rattle.table_bindings.specs.declared.resolved_labels.ResolvedLabels.TheVariants as wanted
use Rattle.table_bindings.proofs.ShortLabels.{alike_if_kept}
use Rattle.table_bindings.proofs.resolved_labels.ResolvedLabels.are_among.Goals as goal

pub returns-in-Known : goal.returns-in-Known
returns-in-Known g c = λ whole keeps.
    let results = g.R.NeedResults.result_of c.args.results.now in
    let is : c.args.self.now ≡ wanted.Known c.in-Known.texts = cc in
    let own = subst (λ (kept : ResolvedLabels). KeepsTexts results kept whole) is keeps in
    c.has_texts.ensures whole (alike_if_kept whole c.as_slice.result.now (c.as_slice.ensures ∙ own))

pub returns-in-ByResults : goal.returns-in-ByResults
returns-in-ByResults g c = λ whole keeps.
    let labels = c.args.labels.now in
    let results = g.R.NeedResults.result_of c.args.results.now in
    let is : c.args.self.now ≡ wanted.ByResults c.in-ByResults.wanted = cc in
    let own = subst (λ (kept : ResolvedLabels). KeepsTexts results kept whole) is keeps in
    c.has_bound_labels.ensures
    ∙ sym (list_all-map (has_label labels) (bound_text results) c.as_slice-in-ByResults.result.now)
    ∙ ap (λ bound. has_labels labels (map (bound_text results) bound)) c.as_slice-in-ByResults.ensures
    ∙ ap (has_labels labels) own
