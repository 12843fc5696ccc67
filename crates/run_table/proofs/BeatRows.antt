-- Examples, by computation: the printed reply to a runner's heartbeat.
use Rattle.std.specs.Prelude.{◌≡◌, [], ◌∷◌, Some, false, codes, refl}
use Rattle.run_plan.specs.ReplyText.{reply_text}
use Rattle.run_plan.specs.declared.command.Beat.{Beat as Requested}
use Rattle.run_plan.specs.declared.command.Claim.{Claim as Claimed}
use Rattle.run_plan.specs.declared.command.Command.TheVariants as command
use Rattle.run_plan.specs.declared.last_command.ClaimReply.TheVariants as given
use Rattle.table_model.specs.Forgotten.{none_forgotten}
use Rattle.table_model.specs.Step.{claiming_runner, stepped}
use Rattle.table_model.specs.TableState.{TableState}
use Rattle.table_model.specs.declared.phases.LegPhase.{LegPhase}
use Rattle.table_model.specs.declared.phases.LegPhase.TheVariants as leg
use Rattle.table_model.specs.declared.phases.RunPhase.TheVariants as run
use Rattle.run_table.proofs.StepRows.{open_job}
use Rattle.run_table.proofs.ViewRows.{claimed}

abbrev claim_of_one : Claimed
claim_of_one = record { runner = codes "r1"; number = 1; labels = codes "linux" ∷ [] }

-- a live run with one leg, which r1 holds under lease 1
abbrev table_with : LegPhase → TableState
table_with phase = record {
  last_lease = 1;
  forgotten = none_forgotten;
  runs = record {
    id = 1;
    number = 1;
    admitted = record { delivery = codes "d1"; event = codes "push"; body = codes "{}" };
    attempt = 1;
    phase = run.Live;
    stopping = false;
    jobs = open_job (claimed phase ∷ []) ∷ [];
  } ∷ [];
  runners = claiming_runner claim_of_one (Some 1) given.Nothing ∷ [];
}

abbrev beat_of_one : Requested
beat_of_one = record { runner = codes "r1"; lease = 1 }

running_leg_goes_on : reply_text (stepped (table_with leg.Running) (command.Beat beat_of_one)).reply ≡ codes "go on"
running_leg_goes_on = refl

stopping_leg_stops : reply_text (stepped (table_with leg.Stopping) (command.Beat beat_of_one)).reply ≡ codes "stop"
stopping_leg_stops = refl
