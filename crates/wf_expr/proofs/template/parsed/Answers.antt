use Rattle.std.proofs.Common.{refl, ap, ◌∙◌, inr}
use Rattle.wf_value.proofs.PassedOn.{passed_on}
use Rattle.wf_expr.specs.inner.Parsing.{judged, pieces_of}
use Rattle.wf_expr.proofs.OutcomeLemmas.{judged-off, judged-ok, judged-elsewhere, read-some, read-none}
use Rattle.wf_expr.proofs.template.parsed.Goals as goal

pub returns-in_err-pieces : goal.returns-in_err-pieces
returns-in_err-pieces c =
    passed_on _ _ _ _ c.in_err-pieces.field-0.0 c.from_residual.ensures.1 c.in_err-pieces.ensures
    (read-none c.args.site (pieces_of c.args.text.now) c.in_err-pieces.field-0.0)

pub returns-then-not-are_in_profile : goal.returns-then-not-are_in_profile
returns-then-not-are_in_profile c =
    inr (ap (judged c.args.site) (read-some _ _ c.in_ok-pieces.ensures)
    ∙ judged-off c.args.site c.in_ok-pieces.pieces (λ p. let h = c.if-not-are_in_profile.ensures.1 (rw c.as_slice.ensures p) in cc))

pub returns-then-not-pieces_allowed : goal.returns-then-not-pieces_allowed
returns-then-not-pieces_allowed c =
    inr (ap (judged c.args.site) (read-some _ _ c.in_ok-pieces.ensures)
    ∙ judged-elsewhere c.args.site c.in_ok-pieces.pieces (rw (← c.as_slice.ensures) (c.if-not-are_in_profile.ensures.0 refl))
    (λ a. let h = c.if-not-pieces_allowed.ensures.1 (rw c.as_slice-2.ensures a) in cc))

pub returns : goal.returns
returns c =
    ap (judged c.args.site) (read-some _ _ c.in_ok-pieces.ensures)
    ∙ judged-ok c.args.site c.in_ok-pieces.pieces (rw (← c.as_slice.ensures) (c.if-not-are_in_profile.ensures.0 refl))
    (rw (← c.as_slice-2.ensures) (c.if-not-pieces_allowed.ensures.0 refl))
