-- The outcome of parsing a text for a site, in terms of the grammar.
use Rattle.std.specs.Prelude.{◌≡◌, ◌⊎◌, ℕ, List, Result, Ok, Err}
use Rattle.wf_value.specs.declared.refusal.Refusal.{Refusal}
use Rattle.wf_expr.specs.Faults.{wrong_expression, wrong_place}
use Rattle.wf_expr.specs.Profile.{Encodes, AllowedIn}
use Rattle.wf_expr.specs.declared.piece.Piece.{Piece}
use Rattle.wf_expr.specs.declared.context_site.ContextSite.{ContextSite}

-- the text is not a template
abbrev pub EncodesNone : List ℕ → Type 0
EncodesNone text = (t : List Piece) → ¬ (Encodes text t)

-- the text is a template with a context that the site does not allow
abbrev pub EncodesElsewhere : List ℕ → ContextSite → Type 0
EncodesElsewhere text site = (t : List Piece) × Encodes text t × (¬ (AllowedIn site t))

-- the template, if the text is one and the site allows its contexts; 17 if the text is not a template; 18 if it is a template with
-- a context that the site does not allow
abbrev pub IsOutcome : List ℕ → ContextSite → Result (List Piece) Refusal → Type 0
IsOutcome text site (Ok t) = Encodes text t × AllowedIn site t
IsOutcome text site (Err e) = ((e ≡ wrong_expression) × EncodesNone text) ⊎ ((e ≡ wrong_place) × EncodesElsewhere text site)

-- an outcome of a text in a site, with the proof that it is one
pub record Parsed (text : List ℕ) (site : ContextSite) : Type 0 where
  pub outcome : Result (List Piece) Refusal
  pub is_outcome : IsOutcome text site outcome
