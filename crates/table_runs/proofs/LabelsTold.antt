-- The labels that a leg asks for, from the facts of the leg.
use Rattle.std.specs.Prelude.{◌≡◌, List, [], None, Option, Some, option_map, refl, unwrap_or}
use Rattle.std.specs.Option.{option_map_or}
use Rattle.std.proofs.Common.{ap, ◌∙◌}
use Rattle.table_model.specs.LegContext.{LegFacts, context_at, context_of, facts_at, nothing, label_texts, labels_at}
use Rattle.table_model.specs.declared.sites.LegSite.{LegSite}
use Rattle.table_model.specs.Runs.{RunState}
use Rattle.table_model.proofs.LegFacts.{plan_of_facts}

labels_by : (o : Option LegFacts)
    → unwrap_or (option_map (λ planned. label_texts (option_map_or context_of o nothing) planned.labels) (option_map (λ f. f.job) o)) []
    ≡ option_map_or (λ f. label_texts (context_of f) f.job.labels) o []
labels_by None = refl
labels_by (Some f) = refl

pub labels_told : (runs : List RunState) (p : LegSite)
    → unwrap_or (labels_at runs p) [] ≡ option_map_or (λ f. label_texts (context_of f) f.job.labels) (facts_at runs p) []
unfolding context_at
labels_told runs p =
    ap (λ o. unwrap_or (option_map (λ planned. label_texts (context_at runs p) planned.labels) o) []) (plan_of_facts runs p)
    ∙ labels_by (facts_at runs p)
