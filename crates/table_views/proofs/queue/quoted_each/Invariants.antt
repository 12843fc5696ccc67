use Rattle.std.proofs.Common.{◌≡◌, map, take}
use Rattle.table_views.specs.Texts.{quoted}
use Rattle.table_views.proofs.queue.quoted_each.Given as goal

-- the texts so far
abbrev pub invariant-loop-text : goal.invariant-loop-text
invariant-loop-text l = l.all.items ≡ map quoted (take l.text-index l.texts)
