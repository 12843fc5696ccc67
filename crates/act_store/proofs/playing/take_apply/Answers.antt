use Rattle.std.proofs.Common.{◌≡◌, refl, ap}
use Rattle.std.specs.Prelude.{IfSome, None, Option, Result, Some, Err, Ok}
use Rattle.wf_value.specs.declared.refusal.Refusal.{Refusal}
use Rattle.act_store.specs.declared.receipt.Receipt.{Receipt}
use Rattle.act_store.proofs.Refused.{apply_refused}
use Rattle.act_store.proofs.playing.take_apply.Goals as goal

-- what was taken had no cause to be refused
none_due : (cause : Option Refusal) (r : Result Receipt Refusal) (receipt : Receipt) → r ≡ Ok receipt → IfSome cause (λ e. r ≡ Err e) → cause ≡ None
none_due None r receipt is due = refl
none_due (Some e) r receipt is due = absurd (cc (is, due))

pub returns-in-Ok-clause-takes : goal.returns-in-Ok-clause-takes
returns-in-Ok-clause-takes g c =
    let taken = c.in-Ok.ensures.entered in
    (none_due _ c.apply.result c.in-Ok.field-0 c.in-Ok.is c.apply.ensures.refused, (taken.0, ap (λ (receipt : Receipt). receipt.reply) taken.1))

pub returns-in-Err-clause-takes : goal.returns-in-Err-clause-takes
returns-in-Err-clause-takes g c =
    apply_refused c.args.store.now c.apply.new.self c.apply.result c.in-Err.refusal c.in-Err.is c.args.command c.apply.ensures.refused
    c.in-Err.ensures.cause c.in-Err.ensures.unchanged
