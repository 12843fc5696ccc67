-- A call that made a step, or left the table unchanged, leaves it sound.
use Rattle.std.specs.Prelude.{◌≡◌, OnErr, Result, Ok, Err}
use Rattle.std.proofs.Common.{ap, subst, sym}
use Rattle.wf_value.specs.Gives.{Gives}
use Rattle.wf_value.specs.declared.refusal.Refusal.{Refusal}
use Rattle.wf_value.proofs.PassedOn.{same_Ok}
use Rattle.run_plan.specs.declared.command.Command.{Command}
use Rattle.run_plan.specs.declared.reply.Reply.{Reply}
use Rattle.table_model.specs.Sound.{IsSound}
use Rattle.table_model.specs.Step.{step}
use Rattle.table_model.specs.TableState.{TableState}
use Rattle.run_table.proofs.StepKeeps.{step_keeps}

pub stays_sound : (old new : TableState) (c : Command) (r : Result Reply Refusal)
    → Gives (λ (reply : Reply). (new, reply)) r (Ok (step old c)) → OnErr r (new ≡ old) → IsSound old → IsSound new
stays_sound old new c (Ok reply) gave kept sound =
    let is = same_Ok (step old c) (new, reply) gave in
    subst (λ t. IsSound t) (ap (λ (p : TableState × Reply). p.0) is) (step_keeps old c sound)
stays_sound old new c (Err e) gave kept sound = subst (λ t. IsSound t) (sym kept) sound

-- the same for a pair of replies
pub pair_stays_sound : (old new : TableState) (c : Command) (r : Result (Reply × Reply) Refusal)
    → Gives (λ (replies : Reply × Reply). (new, replies.0)) r (Ok (step old c)) → OnErr r (new ≡ old) → IsSound old → IsSound new
pair_stays_sound old new c (Ok replies) gave kept sound =
    let is = same_Ok (step old c) (new, replies.0) gave in
    subst (λ t. IsSound t) (ap (λ (p : TableState × Reply). p.0) is) (step_keeps old c sound)
pair_stays_sound old new c (Err e) gave kept sound = subst (λ t. IsSound t) (sym kept) sound
