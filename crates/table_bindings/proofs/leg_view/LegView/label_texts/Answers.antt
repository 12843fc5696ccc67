use Rattle.std.specs.Prelude.{◌≡◌, ℕ, List, Result, Ok}
use Rattle.std.proofs.Common.{ap, sym, ◌∙◌}
use Rattle.wf_value.specs.declared.refusal.Refusal.{Refusal}
use Rattle.wf_value.proofs.PassedOn.{same_Ok}
use Rattle.table_model.specs.LegContext.{LegFacts, context_of, label_texts}
use Rattle.table_bindings.proofs.leg_view.LegView.label_texts.Goals as goal

are_given : (xs ys : List (List ℕ)) → xs ≡ ys → ◌≡◌ {A = Result (List (List ℕ)) Refusal} (Ok xs) (Ok ys)
are_given xs ys is = ap Ok is

pub returns : goal.returns
returns c =
    let context = context_of c.context-context.result in
    are_given _ _ (sym (ap (λ (f : LegFacts). label_texts (context_of f) c.args.self.now.job.labels) c.context-context.ensures)
    ∙ sym (ap (label_texts context) (c.as_slice.ensures ∙ ap (λ (f : LegFacts). f.job.labels) c.self.view_is))
    ∙ same_Ok _ _ c.in_ok-texts.ensures
    ∙ sym c.new.ensures)
