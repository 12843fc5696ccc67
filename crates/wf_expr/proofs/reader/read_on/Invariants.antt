use Rattle.std.proofs.Common.{◌≡◌, length, drop}
use Rattle.std.specs.Str.{chars}
use Rattle.wf_expr.specs.inner.Parsing.{run}
use Rattle.wf_expr.proofs.reader.read_on.Given as goal

-- parsing the remaining text from the current state gives the result for the whole
abbrev pub invariant-loop-c : goal.invariant-loop-c
invariant-loop-c l = run l.reader (drop (length l.yielded) (chars l.rest)) ≡ run l.fn.start (chars l.rest)
