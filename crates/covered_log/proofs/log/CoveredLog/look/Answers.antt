use Rattle.std.proofs.Common.{◌≡◌, ◌∙◌, ℕ, List, ap, ap₂}
use Rattle.covered_log.specs.Standings.{Standing, Standings, left_of, runs_after, table_news}
use Rattle.covered_log.proofs.NothingLeft.{nothing_left}
use Rattle.covered_log.proofs.log.CoveredLog.look.Goals as goal

pub returns-clause-left : goal.returns-clause-left
returns-clause-left c =
    let t = c.args.look.now.table.now in
    let names = c.args.look.now.names.now in
    let known = c.args.standings.now in
    let left = c.standings.view_is ∙ c.forget.ensures in
    let through : c.standings.inside.through ≡ t.forgotten.through = ap (λ (s : Standings). s.through) left in
    let runs : c.standings.inside.runs ≡ left_of t known = ap (λ (s : Standings). s.runs) left in
    ap₂ (λ (n : ℕ) (xs : List Standing). table_news c.args.look.now.at c.args.look.now.cancelled.now names t (record { through = n; runs = xs })) through
    (c.in_ok-look_at_all.ensures.told ∙ ap (runs_after names t) runs)
    ∙ nothing_left c.args.look.now.at c.args.look.now.cancelled.now names t known
