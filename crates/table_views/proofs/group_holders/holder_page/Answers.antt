use Rattle.std.proofs.Common.{◌∙◌, ◌+◌, ◌-◌, ℕ, List, length, ap, ap₂, subst, sym}
use Rattle.std.specs.Prelude.{codes, string_bytes}
use Rattle.table_model.specs.Runs.{RunState}
use Rattle.table_views.specs.HolderPages.{IsHolderPage, holder_rows}
use Rattle.table_views.specs.Members.{number_or_null}
use Rattle.table_views.specs.Pages.{IsPage, page_text, rows_from}
use Rattle.table_views.specs.ReadyPages.{next_run}
use Rattle.definitions.specs.Limits.{most_looked}
use Rattle.table_views.proofs.Paging.{gives_ok, if_gives}
use Rattle.table_views.proofs.group_holders.holder_page.Goals as goal

pub returns-clause-page : goal.returns-clause-page
returns-clause-page c =
    let from = c.args.from in
    let count = c.in_ok-page.page.count in
    let same = c.kept_runs-runs.ensures.runs in
    let start = c.start_at-start.ensures.start in
    let rows = c.as_slice.ensures.value ∙ c.in_ok-page.ensures.rows
    ∙ ap₂ (λ (rs : List RunState) (s : ℕ). rows_from (holder_rows c.args.filter.now rs) s count) same start in
    let next = c.as_str.ensures.value ∙ sym (gives_ok string_bytes c.in_ok-next.next _ c.in_ok-next.ensures)
    ∙ ap number_or_null (c.next_run.ensures ∙ ap (λ (s : ℕ). next_run c.args.table.now (s + count)) start) in
    if_gives string_bytes (IsHolderPage c.args.filter.now from c.args.limit c.args.table.now) c.page_text.result _ c.page_text.ensures
    (record {
      count = count;
      page = subst (λ (s : ℕ). IsPage (λ r. length (holder_rows c.args.filter.now c.args.table.now.runs r)) s (length c.args.table.now.runs - s) c.args.limit most_looked count) start
          (subst (λ (rs : List RunState). IsPage (λ r. length (holder_rows c.args.filter.now rs r)) c.start_at-start.result (length rs - c.start_at-start.result) c.args.limit most_looked count) same
          (subst (λ (n : ℕ). IsPage (λ r. length (holder_rows c.args.filter.now c.kept_runs-runs.result.now r)) c.start_at-start.result (n - c.start_at-start.result) c.args.limit most_looked count)
          c.len.ensures.len c.in_ok-page.ensures.page));
      is = ap₂ (λ (rs : List (List ℕ)) (v : List ℕ). page_text (codes "groups") rs count (codes "from") v) rows next;
    })
