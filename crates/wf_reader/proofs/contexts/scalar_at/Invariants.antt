use Rattle.std.proofs.Common.{◌≡◌, drop}
use Rattle.serde_json.specs.View.{view}
use Rattle.wf_reader.specs.Contexts.{scalar_at}
use Rattle.wf_reader.proofs.contexts.scalar_at.Given as goal

-- the remaining names lead from the current value to the scalar of the whole path
abbrev pub invariant-loop-name : goal.invariant-loop-name
invariant-loop-name l = scalar_at (drop l.name-index l.path) (view l.inner) ≡ scalar_at l.path (view l.value)
