use Rattle.std.proofs.Common.{◌≡◌, take}
use Rattle.std.specs.Prelude.{string_bytes}
use Rattle.std.specs.List.{flat_map}
use Rattle.table_views.specs.RunnerLines.{runner_line}
use Rattle.table_views.proofs.runners.runners_text.Given as goal

-- the lines of the runners so far
abbrev pub invariant-loop-runner : goal.invariant-loop-runner
invariant-loop-runner l = string_bytes l.text ≡ flat_map (runner_line l.form l.runs) (take l.runner-index l.runner-items)
