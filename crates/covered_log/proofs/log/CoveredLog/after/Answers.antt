use Rattle.std.proofs.Common.{◌≡◌, ◌≤◌, ◌+◌, ◌∙◌, length, ap, sym, arith}
use Rattle.covered_log.specs.LogState.{LogState}
use Rattle.covered_log.proofs.PageLemmas.{page_is}
use Rattle.covered_log.proofs.log.CoveredLog.after.Goals as goal

pub overflow_add-next : goal.overflow_add-next
overflow_add-next c = omega (arith, c.first.ensures.value, c.first.ensures.counted, c.page_end-end.ensures)

pub returns-clause-page : goal.returns-clause-page
returns-clause-page c =
    let count : length c.self.inside.told ≡ length c.args.self.now.changes = ap (λ (s : LogState). length s.changes) c.self.view_is in
    let at : c.args.line ≡ c.self.inside.kept.first + c.in-Some.from =
    c.in-Some.ensures.index ∙ ap (λ (s : LogState). s.first + c.in-Some.from) (sym c.self.view_is) in
    let within : c.args.line ≤ length c.self.inside.told = omega (arith, count, c.in-Some.ensures.within) in
    let next : c.first.result + c.page_end-end.result ≡ c.self.inside.kept.first + c.page_end-end.result =
    ap (λ n. n + c.page_end-end.result) c.first.ensures.value in
    rw (← c.self.view_is)
    (page_is c.self.inside.kept c.self.inside.entries c.self.inside.process c.self.inside.told c.in-Some.from c.args.line c.page_end-end.result
    _ c.self.invariant at within c.page_end-end.ensures c.in_ok-text.ensures next)
