use Rattle.std.proofs.Common.{◌≡◌, ◌∙◌, ℕ, List, ◌++◌, map, take, Result, Ok, ap, sym}
use Rattle.wf_value.specs.declared.refusal.Refusal.{Refusal}
use Rattle.wf_value.proofs.PassedOn.{same_Ok}
use Rattle.std.specs.List.{flat_map}
use Rattle.table_views.specs.GroupLines.{distinct_groups, group_line}
use Rattle.table_views.proofs.GroupsOnce.{all_lines, lines_more}
use Rattle.table_views.proofs.groups.lines_of.Goals as goal

given : (x y : List ℕ) → x ≡ y → ◌≡◌ {A = Result (List ℕ) Refusal} (Ok x) (Ok y)
given x y is = ap Ok is

pub loop-i-preserved : goal.loop-i-preserved
loop-i-preserved c =
    let line = group_line c.args.form c.args.runs.now in
    let groups = map (λ d. d.group) c.args.claims.now in
    c.in_ok-push_str.ensures.bytes
    ∙ ap (λ (text : List ℕ). text ++ c.as_str.result.now) c.loop-i.invariant
    ∙ ap (λ part. flat_map line (distinct_groups (take c.loop-i.i groups)) ++ part) (c.as_str.ensures.value ∙ sym (same_Ok _ _ c.in_ok-line.ensures))
    ∙ sym (lines_more line groups c.loop-i.i)

pub returns : goal.returns
returns c =
    given _ _ (sym (all_lines (group_line c.args.form c.args.runs.now) c.args.runs.now c.args.claims.now c.loop-i.i _ c.loop-i-test.false
    c.requires c.loop-i.invariant))
