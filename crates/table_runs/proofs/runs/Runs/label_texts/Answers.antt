use Rattle.std.specs.Prelude.{◌≡◌, ℕ, List, [], Option, Ok, Result}
use Rattle.std.specs.Option.{option_map_or}
use Rattle.std.proofs.Common.{ap, subst, sym, ◌∙◌}
use Rattle.wf_value.specs.Gives.{Gives}
use Rattle.wf_value.specs.declared.refusal.Refusal.{Refusal}
use Rattle.table_model.specs.LegContext.{LegFacts, context_of, label_texts}
use Rattle.table_runs.proofs.LabelsTold.{labels_told}
use Rattle.table_runs.proofs.runs.Runs.label_texts.Goals as goal

pub returns-in-Some : goal.returns-in-Some
returns-in-Some c =
    subst (λ (ts : List (List ℕ)). Gives (λ texts. texts) c.label_texts.result (Ok ts))
    (ap (λ (o : Option LegFacts). option_map_or (λ f. label_texts (context_of f) f.job.labels) o []) c.in-Some.ensures
    ∙ sym (labels_told c.args.self.now c.args.site))
    c.label_texts.ensures

are_given : (xs ys : List (List ℕ)) → xs ≡ ys → ◌≡◌ {A = Result (List (List ℕ)) Refusal} (Ok xs) (Ok ys)
are_given xs ys is = ap Ok is

pub returns-in-None : goal.returns-in-None
returns-in-None c =
    are_given _ _ (labels_told c.args.self.now c.args.site
    ∙ sym (ap (λ (o : Option LegFacts). option_map_or (λ f. label_texts (context_of f) f.job.labels) o []) c.in-None.ensures)
    ∙ sym c.new.ensures.items ∙ sym c.new-in-None.ensures)
