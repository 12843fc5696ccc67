-- Examples, among them those of the documentation, computed from the definitions alone.
use Rattle.std.proofs.Common.{◌≡◌, ℕ, List, [], ◌∷◌, refl, false}
use Rattle.std.specs.Prelude.{Result, Ok, Err, codes, find, map}
use Rattle.std.specs.Cmp.Lexicographic.{pointwise}
use Rattle.std.specs.Option.{option_map}
use Rattle.std.specs.Str.{bytes_eq, chars}
use lib.Utf8.{encode}
use Rattle.wf_value.specs.declared.refusal.Refusal.{Refusal}
use Rattle.wf_value.specs.declared.scalar.Scalar.{Scalar}
use Rattle.wf_value.specs.declared.scalar.Scalar.TheVariants.{Null, Truth, Text}
use Rattle.wf_expr.specs.TemplateValue.{Values, template_value}
use Rattle.wf_expr.specs.Faults.{wrong_expression, wrong_place}
use Rattle.wf_expr.specs.Grammar.{begins_name, continues_name}
use Rattle.wf_expr.specs.inner.Parsing.{outcome_of, run}
use Rattle.wf_expr.specs.declared.context_site.ContextSite.{ContextSite}
use Rattle.wf_expr.specs.declared.context_site.ContextSite.TheVariants.{Workflow, Job}
use Rattle.wf_expr.specs.declared.piece.Operand.TheVariants.{Quoted, Reference}
use Rattle.wf_expr.specs.declared.piece.Piece.{Piece}
use Rattle.wf_expr.specs.declared.piece.Piece.TheVariants.{Plain, Braced}

abbrev run_name : List Piece
run_name =
    Braced (Reference (codes "github" ∷ codes "workflow" ∷ []) ∷ [])
    ∷ Plain (codes "-")
    ∷ Braced (Reference (codes "github" ∷ codes "head_ref" ∷ []) ∷ Reference (codes "github" ∷ codes "run_id" ∷ []) ∷ [])
    ∷ []

-- each text, its site, and the result of parsing it
abbrev texts : List (List ℕ × ContextSite × Result (List Piece) Refusal)
texts =
    (codes "${{ github.workflow }}-${{ github.head_ref || github.run_id }}", Workflow, Ok run_name)
    ∷ (codes "${{ 'it''s' }}", Workflow, Ok (Braced (Quoted (codes "it's") ∷ []) ∷ []))
    -- `${{` in quotes
    ∷ (codes "$${{ '${{ }}' }}", Workflow, Ok (Plain (codes "$") ∷ Braced (Quoted (codes "${{ }}") ∷ []) ∷ []))
    ∷ (codes "${{github . ref}}", Workflow, Ok (Braced (Reference (codes "github" ∷ codes "ref" ∷ []) ∷ []) ∷ []))
    ∷ ([], Workflow, Ok [])
    ∷ (codes "${{ github }}", Job, Err wrong_expression)
    ∷ (codes "${{ secrets.x }}", Job, Err wrong_expression)
    ∷ (codes "${{ needs.a }}", Workflow, Err wrong_expression)
    ∷ (codes "${{ needs.a.result }}", Workflow, Err wrong_place)
    -- the first fault
    ∷ (codes "${{ matrix.x }}${{", Workflow, Err wrong_expression)
    ∷ []

rows-read : map (λ row. outcome_of row.0 row.1) texts ≡ map (λ row. row.2) texts
unfolding run chars encode begins_name continues_name
rows-read = refl

-- the values of the listed paths
abbrev of_list : List (List (List ℕ) × Scalar) → Values
of_list entries path = option_map (λ e. e.1) (find (λ e. pointwise bytes_eq e.0 path) entries)

row-value : template_value
    (of_list ((codes "github" ∷ codes "workflow" ∷ [], Text (codes "ci.json")) ∷ (codes "github" ∷ codes "run_id" ∷ [], Text (codes "1"))
    ∷ [])) run_name ≡ Text (codes "ci.json-1")
row-value = refl

abbrev falses : Values
falses = of_list ((codes "inputs" ∷ codes "none" ∷ [], Null) ∷ (codes "inputs" ∷ codes "no" ∷ [], Truth false) ∷ [])

-- the last value if none is truthy; the value itself if the piece is the whole template
row-last : template_value falses
    (Braced (Reference (codes "inputs" ∷ codes "none" ∷ []) ∷ Reference (codes "inputs" ∷ codes "no" ∷ []) ∷ []) ∷ []) ≡ Truth false
row-last = refl

row-missing : template_value falses (Braced (Reference (codes "inputs" ∷ codes "x" ∷ []) ∷ []) ∷ []) ≡ Text []
row-missing = refl

row-joined : template_value falses
    (Plain (codes "<") ∷ Braced (Reference (codes "inputs" ∷ codes "none" ∷ []) ∷ [])
    ∷ Braced (Reference (codes "inputs" ∷ codes "no" ∷ []) ∷ []) ∷ []) ≡ Text (codes "<false")
row-joined = refl
