use Rattle.std.proofs.Common.{◌≡◌, take}
use Rattle.std.specs.Prelude.{string_bytes}
use Rattle.std.specs.List.{filter, flat_map}
use Rattle.table_views.specs.QueueLines.{is_ready_at, ready_line}
use Rattle.table_views.proofs.queue.ready_text.Given as goal

-- the lines of the ready legs so far
abbrev pub invariant-loop-site : goal.invariant-loop-site
invariant-loop-site l = string_bytes l.text ≡ flat_map (ready_line l.form l.runs) (filter (is_ready_at l.runs) (take l.site-index l.sites))
