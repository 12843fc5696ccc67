use Rattle.std.proofs.Common.{◌≡◌, map, take}
use Rattle.std.specs.Prelude.{string_bytes}
use Rattle.std.specs.List.{flat_map}
use Rattle.table_views.specs.GroupLines.{distinct_groups, group_line}
use Rattle.table_views.proofs.groups.lines_of.Given as goal

-- the lines of the groups of the claims so far, each once
abbrev pub invariant-loop-i : goal.invariant-loop-i
invariant-loop-i l =
    string_bytes l.text ≡ flat_map (group_line l.form l.runs) (distinct_groups (take l.i (map (λ c. c.group) l.claims)))
