use Rattle.std.proofs.Common.{◌∙◌, ℕ, List, length, ap, ap₂, subst, sym}
use Rattle.std.specs.Prelude.{codes, string_bytes}
use Rattle.table_views.specs.Members.{number_or_null}
use Rattle.table_views.specs.Pages.{IsPage, page_text, rows_from}
use Rattle.table_views.specs.RunPages.{IsRunsPage, newest_rows, next_below}
use Rattle.definitions.specs.Limits.{most_looked}
use Rattle.table_views.proofs.Paging.{gives_ok, if_gives}
use Rattle.table_views.proofs.newest_runs.runs_page.Goals as goal

pub returns-clause-page : goal.returns-clause-page
returns-clause-page c =
    let f = c.args.filter.now in
    let t = c.args.table.now in
    let count = c.in_ok-page.page.count in
    let top = c.runs_below-top.ensures.below in
    let rows = c.as_slice.ensures.value ∙ c.in_ok-page.ensures.rows ∙ ap (λ (n : ℕ). rows_from (newest_rows f t n) 0 count) top in
    let next = c.as_str.ensures.value ∙ sym (gives_ok string_bytes c.in_ok-next.next _ c.in_ok-next.ensures)
    ∙ ap number_or_null (c.next_below.ensures ∙ ap (λ (n : ℕ). next_below t n count) top) in
    if_gives string_bytes (IsRunsPage f c.args.before c.args.limit c.args.table.now) c.page_text.result _ c.page_text.ensures
    (record {
      count = count;
      page = subst (λ (n : ℕ). IsPage (λ index. length (newest_rows f t n index)) 0 n c.args.limit most_looked count) top c.in_ok-page.ensures.page;
      is = ap₂ (λ (rs : List (List ℕ)) (v : List ℕ). page_text (codes "runs") rs count (codes "before") v) rows next;
    })
