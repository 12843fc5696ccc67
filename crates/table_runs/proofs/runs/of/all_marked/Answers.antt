use Rattle.std.proofs.Common.{arith, inl, inr}
use Rattle.std.proofs.lemmas.Bool.{cases_eq}
use Rattle.table_runs.proofs.MarkedRuns.{put_adds, put_marks}
use Rattle.table_runs.proofs.runs.of.all_marked.Goals as goal

pub mark-requires : goal.mark-requires
mark-requires c = omega (arith, c.loop-r.invariant.0)

pub loop-r-preserved : goal.loop-r-preserved
loop-r-preserved c = (
  omega (arith, c.loop-r.invariant.0, c.mark.ensures.keeps),
  λ i lt.
      elim (cases_eq i c.loop-r.r) [
        | inl here ↦ put_marks c.loop-r.r i c.loop-r.marks c.mark.new.self c.mark.ensures.puts here
        | inr other ↦
            put_adds c.loop-r.r i c.loop-r.marks c.mark.new.self c.mark.ensures.puts (c.loop-r.invariant.1 i (omega (arith, lt, other)))
      ],
)
