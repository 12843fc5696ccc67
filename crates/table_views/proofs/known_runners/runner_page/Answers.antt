use Rattle.std.proofs.Common.{◌∙◌, ◌-◌, ℕ, List, length, ap, ap₂, subst, sym}
use Rattle.std.specs.Prelude.{codes, string_bytes}
use Rattle.table_model.specs.TableState.{RunnerState}
use Rattle.table_views.specs.Members.{text_or_null}
use Rattle.table_views.specs.Pages.{IsPage, page_text, rows_from}
use Rattle.table_views.specs.RunnerPages.{IsRunnerPage, next_name, runner_rows}
use Rattle.definitions.specs.Limits.{most_looked}
use Rattle.table_views.proofs.Paging.{gives_ok, if_gives}
use Rattle.table_views.proofs.known_runners.runner_page.Goals as goal

pub returns-clause-page : goal.returns-clause-page
returns-clause-page c =
    let name = c.args.name.now in
    let heard = c.args.heard.now in
    let from = c.args.from in
    let count = c.in_ok-page.page.count in
    let same = c.runners-runners.ensures.runners in
    let rows = c.as_slice.ensures.value ∙ c.in_ok-page.ensures.rows ∙ ap (λ (rs : List RunnerState). rows_from (runner_rows name heard from rs) from count) same in
    let next = c.as_str.ensures.value ∙ sym (gives_ok string_bytes c.in_ok-next.next _ c.in_ok-next.ensures)
    ∙ ap text_or_null (c.next_name.ensures ∙ ap (λ (rs : List RunnerState). next_name rs from count) same) in
    if_gives string_bytes (IsRunnerPage name heard from c.args.limit c.args.table.now) c.page_text.result _ c.page_text.ensures
    (record {
      count = count;
      page = subst (λ (rs : List RunnerState). IsPage (λ index. length (runner_rows name heard from rs index)) from (length rs - from) c.args.limit most_looked count)
          same c.in_ok-page.ensures.page;
      is = ap₂ (λ (rs : List (List ℕ)) (v : List ℕ). page_text (codes "runners") rs count (codes "after") v) rows next;
    })
