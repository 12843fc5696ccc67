use Rattle.std.proofs.Common.{◌≡◌, [], take}
use Rattle.run_plan.proofs.ComboTokens.{opened}
use Rattle.run_plan.proofs.combo_text.printed.Given as goal

-- the opening bracket and the pairs so far are written
abbrev pub invariant-loop-name : goal.invariant-loop-name
invariant-loop-name l = (l.writer.before ≡ []) × (l.writer.tokens ≡ opened (take l.name-index l.name-items))
