use Rattle.std.proofs.Common.{rules}
use Rattle.std.specs.Prelude.{string_bytes}
use Rattle.table_views.specs.RunViews.{IsRunView}
use Rattle.table_views.proofs.Paging.{if_gives}
use Rattle.table_views.proofs.one_run.view_text.Goals as goal

pub returns-clause-view : goal.returns-clause-view
returns-clause-view c =
    if_gives string_bytes (IsRunView c.args.from c.args.names.now c.args.table.now c.args.view.now) c.run_view_text.result _ c.run_view_text.ensures
    (record { count = c.in_ok-page.page.count; page = search rules; is = search rules })
