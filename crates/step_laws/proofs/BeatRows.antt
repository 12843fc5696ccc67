-- Examples, by computation: the reply to a heartbeat of a runner that the table does not know, or that holds no lease.
use Rattle.std.specs.Prelude.{◌≡◌, [], ◌∷◌, None, codes, refl}
use Rattle.wf_value.specs.declared.code.Code.TheVariants.{LeaseNotHeld, NoRunner}
use Rattle.run_plan.specs.declared.command.Beat.{Beat}
use Rattle.run_plan.specs.declared.command.Claim.{Claim}
use Rattle.run_plan.specs.declared.command.Command.TheVariants as command
use Rattle.run_plan.specs.declared.last_command.ClaimReply.TheVariants as given
use Rattle.table_model.specs.Step.{claiming_runner, empty, refused, stepped}
use Rattle.table_model.specs.TableState.{TableState}

abbrev beat_of_one : Beat
beat_of_one = record { runner = codes "r1"; lease = 1 }

unknown_runner : (stepped empty (command.Beat beat_of_one)).reply ≡ refused NoRunner
unknown_runner = refl

-- r2 has claimed and got nothing
abbrev claim_of_two : Claim
claim_of_two = record { runner = codes "r2"; number = 1; labels = codes "linux" ∷ [] }

abbrev table_of_two : TableState
table_of_two = record empty { runners = claiming_runner claim_of_two None given.Nothing ∷ [] }

unknown_beside_another : (stepped table_of_two (command.Beat beat_of_one)).reply ≡ refused NoRunner
unknown_beside_another = refl

holds_no_lease : (stepped table_of_two (command.Beat (record { runner = codes "r2"; lease = 1 }))).reply ≡ refused LeaseNotHeld
holds_no_lease = refl
