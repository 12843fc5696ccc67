use Rattle.std.proofs.Common.{◌≡◌, ◌∙◌, ◌<◌, ℕ, List, [], ◌∷◌, ◌++◌, length, ap, sym, arith}
use Rattle.std.specs.Prelude.{string_bytes}
use Rattle.table_model.specs.Runs.{leg_site, LegState}
use Rattle.table_model.specs.declared.sites.LegSite.{LegSite}
use Rattle.table_views.specs.RunViews.{leg_row}
use Rattle.table_views.proofs.Paging.{gives_ok}
use Rattle.table_views.proofs.Placing.{one_value_more}
use Rattle.table_views.proofs.one_run.leg_rows.Goals as goal

pub loop-l-preserved : goal.loop-l-preserved
loop-l-preserved c =
    let t = c.args.table.now in
    let names = c.args.names.now in
    let legs = c.args.legs.now in
    let l = c.loop-l.l in
    let leg = c.index-legs-l.result in
    let f : ℕ × LegState → List ℕ = λ x. leg_row names t (leg_site c.args.r c.args.j x.0) x.1 in
    let lt : l < length legs = omega (arith, c.loop-l-test.true) in
    let row : string_bytes c.in_ok-row.row ≡ f (l, leg) =
    sym (gives_ok string_bytes c.in_ok-row.row _ c.in_ok-row.ensures) ∙ ap (λ (p : LegSite). leg_row names t p leg) c.new.ensures in
    c.in_ok-push.ensures.items ∙ ap (λ (r : List ℕ). c.loop-l.rows.items ++ r ∷ []) (c.new-in-loop-l.ensures ∙ row)
    ∙ ap (λ (rs : List (List ℕ)). rs ++ f (l, leg) ∷ []) c.loop-l.invariant ∙ sym (one_value_more f l legs leg lt (sym c.index-legs-l.is))
