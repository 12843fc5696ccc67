-- Examples of `concurrency`, computed from the definitions: each list has all faults, in the order of the checks.
use Rattle.std.proofs.Common.{◌≡◌, [], ◌∷◌, true, false, codes, refl}
use Rattle.wf_value.specs.declared.code.Code.TheVariants.{Expression, PlaceOfContext, WrongKind}
use Rattle.wf_expr.specs.declared.piece.Operand.TheVariants.{Reference}
use Rattle.wf_expr.specs.declared.piece.Piece.TheVariants.{Plain, Braced}
use Rattle.wf_expr.specs.declared.context_site.ContextSite.TheVariants as context_site
use Rattle.wf_reader.specs.Workflow.{body_value}
use Rattle.wf_reader.specs.Job.{concurrency_faults, concurrency_in}
use Rattle.wf_reader.proofs.OnLiterals.{FaultsAre, wf_reader_on_literals}
use Rattle.wf_reader.specs.declared.flag.Flag.TheVariants.{Fixed, Template}

of_jobs : FaultsAre (λ text. concurrency_faults context_site.Job (body_value text)) (
    -- null value
    (codes "null", WrongKind ∷ [])
    -- list of groups
    ∷ (codes "[\"g\"]", WrongKind ∷ [])
    -- no group
    ∷ (codes "{\"cancel-in-progress\":true}", WrongKind ∷ [])
    -- other member
    ∷ (codes "{\"group\":\"g\",\"queue\":1}", WrongKind ∷ [])
    -- a wrong kind comes before a fault in the group's template, wherever it is
    ∷ (codes "{\"group\":\"${{ x }}\",\"cancel-in-progress\":null}", WrongKind ∷ Expression ∷ WrongKind ∷ [])
    -- matrix of a job
    ∷ (codes "\"${{ matrix.os }}\"", [])
    ∷ [])
unfolding wf_reader_on_literals
of_jobs = refl

of_workflows : FaultsAre (λ text. concurrency_faults context_site.Workflow (body_value text)) (
    -- group first
    (codes "{\"cancel-in-progress\":\"${{ x }}\",\"group\":\"${{ matrix.os }}\"}", PlaceOfContext ∷ Expression ∷ [])
    ∷ [])
unfolding wf_reader_on_literals
of_workflows = refl

text_alone : concurrency_in context_site.Workflow (body_value (codes "\"g\""))
    ≡ record { group = Plain (codes "g") ∷ []; cancel_in_progress = Fixed false }
unfolding wf_reader_on_literals
text_alone = refl

with_its_flag : concurrency_in context_site.Workflow (body_value (codes "{\"group\":\"g\",\"cancel-in-progress\":true}"))
    ≡ record { group = Plain (codes "g") ∷ []; cancel_in_progress = Fixed true }
unfolding wf_reader_on_literals
with_its_flag = refl

with_templates : concurrency_in context_site.Job (body_value (codes "{\"cancel-in-progress\":\"${{ vars.c }}\",\"group\":\"\"}"))
    ≡ record { group = []; cancel_in_progress = Template (Braced (Reference (codes "vars" ∷ codes "c" ∷ []) ∷ []) ∷ []) }
unfolding wf_reader_on_literals
with_templates = refl
