-- A text that is read gives its template, or else its fault.
use Rattle.std.proofs.Common.{◌≡◌, ℕ, List, Result, Ok, Err, refl, sym, subst}
use Rattle.wf_value.specs.Gives.{Gives}
use Rattle.wf_value.specs.declared.refusal.Refusal.{Refusal}
use Rattle.wf_expr.specs.declared.context_site.ContextSite.{ContextSite}
use Rattle.wf_expr.specs.declared.piece.Piece.{Piece}
use Rattle.wf_reader.specs.Faults.{outcome_faults, unless_faulty}
use Rattle.wf_reader.specs.Job.{outcome_pieces, template_faults, template_in}
use Rattle.wf_reader.specs.Templates.{template_of}

same_outcome : (o : Result (List Piece) Refusal) → unless_faulty (outcome_faults o) (outcome_pieces o) ≡ o
same_outcome (Ok t) = refl
same_outcome (Err e) = refl

pub read_as : (text : List ℕ) (site : ContextSite) (r : Result (List Piece) Refusal) → Gives (λ t. t) r (template_of text site)
    → Gives (λ t. t) r (unless_faulty (template_faults site text) (template_in site text))
read_as text site r gives =
    subst (λ (o : Result (List Piece) Refusal). Gives (λ t. t) r o) (sym (same_outcome (template_of text site))) gives
