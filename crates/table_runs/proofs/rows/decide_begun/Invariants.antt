use Rattle.std.proofs.Common.{◌≡◌}
use Rattle.table_runs.specs.inner.Begun.{IsBegunBelow}
use Rattle.table_runs.proofs.rows.decide_begun.Given as goal

-- the jobs before `j` that have legs are decided
abbrev pub invariant-loop-j : goal.invariant-loop-j
invariant-loop-j l = record {
  begun : IsBegunBelow l.j l.run l.bindings;
  own : l.bindings.own ≡ l.fn.bindings.own;
  jobs : l.bindings.jobs ≡ l.fn.bindings.jobs;
  lists : l.bindings.lists ≡ l.fn.bindings.lists;
}
