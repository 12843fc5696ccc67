use Rattle.std.proofs.Common.{◌≤◌, ◌<◌, length, arith, refl}
use Rattle.std.proofs.KnownBytes.{Consumes-whole}
use Rattle.definitions.specs.Limits.{max_input}
use Rattle.program_commands.specs.Input.{IsReadAs}
use Rattle.program_commands.proofs.Inputs.{too_long, unread}
use Rattle.program_commands.proofs.input.read_input.Goals as goal

pub returns-in_err-input-clause-refused : goal.returns-in_err-input-clause-refused
returns-in_err-input-clause-refused g c =
    unread c.from_residual.result c.in_err-input.field-0.0 (g.R.Read.remaining c.args.reader.now) c.from_residual.ensures.1
    c.in_err-input.ensures.err

pub returns-then-len-gt-MAX_BYTES-clause-refused : goal.returns-then-len-gt-MAX_BYTES-clause-refused
returns-then-len-gt-MAX_BYTES-clause-refused g c =
    let long : max_input < length c.in_ok-input.input.items = omega arith in
    too_long _ _ c.in_ok-input.input.items c.in_ok-input.ensures.bytes long

pub returns-clause-whole : goal.returns-clause-whole
returns-clause-whole g c =
    let input = c.in_ok-input.input.items in
    let read = c.in_ok-input.ensures in
    let fits : length input ≤ max_input = omega arith in
    Consumes-whole _ _ input (IsReadAs input) read.bytes (read.end (omega arith)) (refl, fits)
