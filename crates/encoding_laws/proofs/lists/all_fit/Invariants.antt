use Rattle.std.proofs.Common.{take}
use Rattle.std.specs.List.{AllByRecursion}
use Rattle.encoding_laws.proofs.lists.all_fit.Given as goal

-- the values so far can be encoded
abbrev pub invariant-loop-value : goal.invariant-loop-value
invariant-loop-value g l = AllByRecursion g.T.Fits.takes (take l.value-index l.list)
