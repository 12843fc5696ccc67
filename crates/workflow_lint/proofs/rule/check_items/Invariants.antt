use Rattle.std.proofs.Common.{◌≡◌, ◌++◌, drop, map}
use Rattle.std.specs.List.{enumerate_from, flat_map}
use Rattle.serde_json.specs.View.{view}
use Rattle.workflow_lint.specs.Checks.{items_at}
use Rattle.workflow_lint.specs.Paths.{item_path}
use Rattle.workflow_lint.proofs.rule.check_items.Given as goal

-- the findings so far, followed by those of the remaining items, are all findings
abbrev pub invariant-loop-i : goal.invariant-loop-i
invariant-loop-i g l =
    l.found.items ++ flat_map (λ item. g.R.Rule.findings l.rule (item_path l.path item.0) item.1) (enumerate_from l.i (map view (drop l.i l.values)))
    ≡ l.initial.found.items ++ items_at (g.R.Rule.findings l.rule) l.path (map view l.values)
