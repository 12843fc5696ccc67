-- The contexts and paths that a template may use. GitHub Docs, "Contexts reference" (About contexts, Context availability).
use Rattle.std.specs.Prelude.{◌≡◌, ◌⊎◌, ◌≤◌, ℕ, List, [], ◌∷◌, Bool, true, false, codes, All, sum_by, count_by}
use Rattle.std.specs.Str.{chars}
use Rattle.definitions.specs.Limits.{max_references}
use Rattle.wf_expr.specs.Grammar.{EncodesPieces}
use Rattle.wf_expr.specs.declared.context_site.ContextSite.{ContextSite}
use Rattle.wf_expr.specs.declared.context_site.ContextSite.TheVariants.{Workflow, Job}
use Rattle.wf_expr.specs.declared.piece.Operand.{Operand}
use Rattle.wf_expr.specs.declared.piece.Operand.TheVariants.{Quoted, Reference}
use Rattle.wf_expr.specs.declared.piece.Piece.{Piece}
use Rattle.wf_expr.specs.declared.piece.Piece.TheVariants.{Plain, Braced}

-- the contexts that every site may use
abbrev pub IsShared : List ℕ → Type 0
IsShared name = (name ≡ codes "github") ⊎ (name ≡ codes "inputs") ⊎ (name ≡ codes "vars")

-- whether the context has paths with these names after the first two; `needs` has only `needs.ID.result`
abbrev pub IsInContext : List ℕ → List (List ℕ) → Type 0
IsInContext context names =
    IsShared context
    ⊎ (context ≡ codes "strategy")
    ⊎ (context ≡ codes "matrix")
    ⊎ ((context ≡ codes "needs") × (names ≡ codes "result" ∷ []))

-- one of the six contexts, followed by one or more names
abbrev pub InProfile : List (List ℕ) → Type 0
InProfile [] = ⊥
InProfile (context ∷ []) = ⊥
InProfile (context ∷ name ∷ names) = IsInContext context names

-- a job may use all six contexts
abbrev pub IsAllowed : ContextSite → List (List ℕ) → Type 0
IsAllowed Job path = Unit {0}
IsAllowed Workflow [] = ⊥
IsAllowed Workflow (context ∷ names) = IsShared context

-- the property holds for every reference of an operand or of a piece
abbrev pub OfReference : (List (List ℕ) → Type 0) → Operand → Type 0
OfReference P (Quoted text) = Unit {0}
OfReference P (Reference path) = P path

abbrev pub OfReferences : (List (List ℕ) → Type 0) → Piece → Type 0
OfReferences P (Plain text) = Unit {0}
OfReferences P (Braced operands) = All (OfReference P) operands

-- the number of references
abbrev pub is_reference : Operand → Bool
is_reference (Quoted text) = false
is_reference (Reference path) = true

abbrev pub reference_count : Piece → ℕ
reference_count (Plain text) = 0
reference_count (Braced operands) = count_by is_reference operands

-- each reference is in the profile, and there are at most `max_references`
pub record IsInProfile (pieces : List Piece) : Type 0 where
  pub each : All (OfReferences InProfile) pieces
  pub few : sum_by reference_count pieces ≤ max_references

-- the text is the source of the template
pub record Encodes (text : List ℕ) (pieces : List Piece) : Type 0 where
  pub grammar : EncodesPieces (chars text) pieces
  pub profile : IsInProfile pieces

-- the site allows each context
abbrev pub AllowedIn : ContextSite → List Piece → Type 0
AllowedIn site = All (OfReferences (IsAllowed site))
