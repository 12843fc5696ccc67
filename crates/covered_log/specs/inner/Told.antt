-- What a line tells, as the code keeps it.
use Rattle.covered_log.specs.Lines.{Begins, Change, Displaced, Entered, Forgets, LegStands, Missed, Stands}
use Rattle.covered_log.specs.declared.told.Told.{Told}
use Rattle.covered_log.specs.declared.told.Told.TheVariants as told

abbrev pub change_of : Told → Change
change_of (told.Entry at command reply) = Entered at command.value reply.value
change_of (told.Attempt at table id number run) = Begins at table.value (record { id = id; number = number; run = run.value })
change_of (told.Run at id run) = Stands at id run.value
change_of (told.Leg at news) = LegStands at news.value
change_of (told.Displaced at runs r run) = Displaced at runs.value r run.value
change_of (told.Forgotten at through) = Forgets at through
change_of told.Missed = Missed
