use Rattle.std.proofs.Common.{ℕ, List, subst}
use Rattle.std.specs.Io.KnownBytes.{Appends}
use Rattle.program_commands.specs.Check.{Written, ChecksTo}
use Rattle.program_commands.specs.Input.{IsReadAs}
use Rattle.program_commands.proofs.Checks.{checks_within, unread}
use Rattle.program_commands.proofs.Inputs.{from_each, nothing_written}
use Rattle.program_commands.proofs.check.run_check.Goals as goal

pub returns-in_err-text-clause-written : goal.returns-in_err-text-clause-written
returns-in_err-text-clause-written g c =
    let e = c.in_err-text.field-0.0 in
    let ended = c.from_residual.result in
    nothing_written (λ text out. ChecksTo text out ended) (g.R.Read.remaining c.args.reader.now)
    (g.W.Write.contents c.args.writer.now) e c.in_err-text.ensures.refused (λ text. unread text ended e c.from_residual.ensures.1)

pub returns-clause-written : goal.returns-clause-written
returns-clause-written g c =
    let text = c.in_ok-text.text.items in
    let written = c.write_checked.ensures in
    let whole : Written text written.0 c.write_checked.result =
    subst (λ s. Written s written.0 c.write_checked.result) c.deref.ensures.value written.2
    in
    let ended : (input : List ℕ) → IsReadAs text input → (out : List ℕ)
    × Appends (g.W.Write.contents c.args.writer.now) (g.W.Write.contents c.write_checked.new.writer) out
    × ChecksTo input out c.write_checked.result = λ input is. (
      written.0,
      written.1,
      checks_within input written.0 c.write_checked.result is.1 (subst (λ s. Written s written.0 c.write_checked.result) is.0 whole),
    ) in
    from_each (g.R.Read.remaining c.args.reader.now) c.in_ok-text.ensures.whole ended
