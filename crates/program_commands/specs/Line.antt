-- The command of a line of a script: its word and the fields that follow. Any other line is refused with 75. The format
-- is defined by this project.
use Rattle.std.specs.Prelude.{ℕ, List, codes, ok_or, Result, Err, if◌then◌else◌}
use Rattle.std.specs.Option.{option_map_or}
use Rattle.std.specs.Str.{bytes_eq}
use Rattle.wf_value.specs.declared.refusal.Refusal.{Refusal}
use Rattle.run_plan.specs.declared.command.Command.{Command}
use Rattle.command_lines.specs.Commands.{not_a_line, admit_of, claim_of, done_of, beat_of, cancel_of, lost_of, look_of, fetch_of, rerun_of}
use Rattle.command_lines.specs.Commands.{forget_of, discharge_of}
use Rattle.command_lines.specs.Fields.{at_space}

abbrev pub command_by : List ℕ → List ℕ → Result Command Refusal
command_by word fields =
    if bytes_eq word (codes "admit") then admit_of fields
    else (if bytes_eq word (codes "claim") then ok_or (claim_of fields) not_a_line
    else (if bytes_eq word (codes "done") then ok_or (done_of fields) not_a_line
    else (if bytes_eq word (codes "beat") then ok_or (beat_of fields) not_a_line
    else (if bytes_eq word (codes "cancel") then ok_or (cancel_of fields) not_a_line
    else (if bytes_eq word (codes "lost") then ok_or (lost_of fields) not_a_line
    else (if bytes_eq word (codes "look") then ok_or (look_of fields) not_a_line
    else (if bytes_eq word (codes "fetch") then ok_or (fetch_of fields) not_a_line
    else (if bytes_eq word (codes "rerun") then ok_or (rerun_of fields) not_a_line
    else (if bytes_eq word (codes "forget") then ok_or (forget_of fields) not_a_line
    else (if bytes_eq word (codes "discharge") then ok_or (discharge_of fields) not_a_line else Err not_a_line))))))))))

abbrev pub command_of : List ℕ → Result Command Refusal
command_of line = option_map_or (λ p. command_by p.0 p.1) (at_space line) (Err not_a_line)
