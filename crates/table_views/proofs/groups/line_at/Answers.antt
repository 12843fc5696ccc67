use Rattle.std.proofs.Common.{◌≡◌, ◌∙◌, ℕ, List, Result, Ok, ap, sym, subst}
use Rattle.std.specs.Prelude.{true, false, string_bytes}
use Rattle.wf_value.specs.Gives.{Gives}
use Rattle.wf_value.specs.declared.refusal.Refusal.{Refusal}
use Rattle.table_views.specs.GroupLines.{group_line}
use Rattle.table_views.proofs.FirstOfGroup.{earlier_claim}
use Rattle.table_views.proofs.GroupsOnce.{once_at}
use Rattle.table_views.proofs.groups.line_at.Goals as goal

given : (x y : List ℕ) → x ≡ y → ◌≡◌ {A = Result (List ℕ) Refusal} (Ok x) (Ok y)
given x y is = ap Ok is

pub returns-then-has_earlier_claim : goal.returns-then-has_earlier_claim
returns-then-has_earlier_claim c =
    let claims = c.args.claims.now in
    let i = c.args.i in
    let claim = c.index-claims-i.result in
    let told = sym c.if-has_earlier_claim.true ∙ c.has_earlier_claim.ensures
    ∙ sym (earlier_claim c.args.runs.now claims i claim c.requires.claims c.requires.within (sym c.index-claims-i.is)) in
    given _ _ (once_at (group_line c.args.form c.args.runs.now) claims i claim true c.requires.within (sym c.index-claims-i.is) told
    ∙ sym c.new.ensures.bytes)

pub returns : goal.returns
returns c =
    let line = group_line c.args.form c.args.runs.now in
    let claims = c.args.claims.now in
    let i = c.args.i in
    let claim = c.index-claims-i.result in
    let told = sym c.if-has_earlier_claim.false ∙ c.has_earlier_claim.ensures
    ∙ sym (earlier_claim c.args.runs.now claims i claim c.requires.claims c.requires.within (sym c.index-claims-i.is)) in
    subst (λ (x : List ℕ). Gives string_bytes c.group_line.result (Ok x))
    (sym (once_at line claims i claim false c.requires.within (sym c.index-claims-i.is) told)) c.group_line.ensures
