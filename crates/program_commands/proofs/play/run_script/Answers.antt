use Rattle.std.proofs.Common.{[], inl, inr, refl, arith}
use Rattle.std.proofs.KnownBytes.{Consumes-nil, Appends-nil}
use Rattle.program_commands.proofs.Inputs.{for_any}
use Rattle.program_commands.proofs.play.run_script.Goals as goal

pub returns-in-Err-clause-read : goal.returns-in-Err-clause-read
returns-in-Err-clause-read g c = ([], Consumes-nil (g.R.Read.remaining c.args.reader.now), omega arith)

pub returns-in-Err-clause-written : goal.returns-in-Err-clause-written
returns-in-Err-clause-written g c =
    let failed = c.in-Err.ensures.refused c.requires.empty in
    for_any (g.R.Read.remaining c.args.reader.now)
    (λ script. ([], Appends-nil (g.W.Write.contents c.args.writer.now), inr (inl (failed.0, refl, failed.1))))
