use Rattle.std.proofs.Common.{◌≡◌, Ok, Err, rules, refl}
use Rattle.std.specs.Prelude.{IfSome, Option, None, Some, Result}
use Rattle.wf_value.specs.declared.refusal.Refusal.{Refusal}
use Rattle.act_store.specs.declared.receipt.Receipt.{Receipt}
use Rattle.client_loop.proofs.author.enter.Goals as goal

none_refuses : (receipt : Receipt) (o : Option Refusal) → IfSome o (λ e. ◌≡◌ {A = Result Receipt Refusal} (Ok receipt) (Err e)) → o ≡ None
none_refuses receipt None refused = refl
none_refuses receipt (Some e) refused = absurd (cc refused)

pub returns-in-Ok : goal.returns-in-Ok
returns-in-Ok g c = (c.in-Ok.ensures.entered.0, search rules, none_refuses _ _ c.in-Ok.ensures.refused)
