use Rattle.std.proofs.Common.{◌≡◌, append_assoc, false}
use Rattle.std.specs.Prelude.{nat_le}
use Rattle.std.proofs.lemmas.Bool.{lt-leb}
use Rattle.std.proofs.lemmas.Result.{IfOk-weaker}
use Rattle.run_table.proofs.view.number_text.Goals as goal

pub returns-else-attempt-le1 : goal.returns-else-attempt-le1
returns-else-attempt-le1 c =
    let past : nat_le c.args.attempt 1 ≡ false = lt-leb c.args.attempt 1 c.if-attempt-le1.false in
    IfOk-weaker c.format-else-attempt-le1.result _ _ (λ s e. simp (append_assoc, past) e) c.format-else-attempt-le1.ensures.ok
