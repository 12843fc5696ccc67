-- The template of a text, as a function. Its type says all of it: the outcome that the grammar defines, of which a text has exactly one
-- (`a_text_has_one_outcome`). How it is found need not be read.
use Rattle.std.specs.Prelude.{ℕ, List, Result}
use Rattle.wf_value.specs.declared.refusal.Refusal.{Refusal}
use Rattle.wf_expr.proofs.Found.{found}
use Rattle.wf_expr.specs.Outcome.{Parsed}
use Rattle.wf_expr.specs.declared.context_site.ContextSite.{ContextSite}
use Rattle.wf_expr.specs.declared.piece.Piece.{Piece}

abbrev pub parsed : (text : List ℕ) (site : ContextSite) → Parsed text site
parsed text site = found text site

-- the template, or else the refusal: 17 comes before 18
abbrev pub template_of : List ℕ → ContextSite → Result (List Piece) Refusal
template_of text site = (parsed text site).outcome
