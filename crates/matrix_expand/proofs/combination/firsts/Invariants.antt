use Rattle.std.proofs.Common.{◌≡◌, ◌++◌, None, drop}
use Rattle.std.specs.Option.{option_copied}
use Rattle.matrix_expand.specs.inner.Entries.{flagged, firsts_after}
use Rattle.matrix_expand.proofs.combination.firsts.Given as goal

-- the pairs so far, followed by the remaining ones, are all pairs
abbrev pub invariant-loop-entry : goal.invariant-loop-entry
invariant-loop-entry l = l.combo ++ firsts_after (option_copied l.last) (flagged l.flags (drop l.entry-index l.entries)) ≡ firsts_after None
    (flagged l.flags l.entries)
