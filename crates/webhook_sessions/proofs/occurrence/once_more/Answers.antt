use Rattle.std.proofs.Common.{◌≡◌, [], ◌∷◌, ◌++◌, ap}
use Rattle.webhook_sessions.specs.Fields.{OccursAs}
use Rattle.webhook_sessions.specs.declared.occurrence.Occurrence.TheVariants.{Repeated}
use Rattle.webhook_sessions.proofs.occurrence.once_more.Goals as goal

pub returns-in-Once : goal.returns-in-Once
returns-in-Once c values so_far =
    let value = c.args.value.now in
    let one : values ≡ c.in-Once.field-0.now ∷ [] = rw c.in-Once.is at so_far in
    (c.in-Once.field-0.now, value, [], ap (λ l. l ++ value ∷ []) one)

pub returns-in-Repeated : goal.returns-in-Repeated
returns-in-Repeated c values so_far =
    let value = c.args.value.now in
    let more : OccursAs values Repeated = rw c.in-Repeated.is at so_far in
    (more.0, more.1, more.2 ++ value ∷ [], ap (λ l. l ++ value ∷ []) more.3)
