-- How far bytes that wait were read.
use Rattle.act_sessions.specs.declared.request.Progress.{Progress}

abbrev pub nothing_read : Progress
nothing_read = record { read = 0; lines = 0 }
