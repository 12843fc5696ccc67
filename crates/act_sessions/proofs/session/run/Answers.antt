use Rattle.std.proofs.Common.{refl, rules}
use Rattle.act_sessions.specs.declared.transcript.Part.TheVariants.{AwaitsInput, Over}
use Rattle.act_sessions.specs.Session.{moment, start, first, IsPart}
use Rattle.act_sessions.proofs.Closing.{finished, failed, waited, was_cut}
use Rattle.act_sessions.proofs.Going.{at}
use Rattle.act_sessions.proofs.session.run.Goals as goal

pub returns-in-AwaitsInput-clause-ok : goal.returns-in-AwaitsInput-clause-ok
returns-in-AwaitsInput-clause-ok g c =
    let p = g.P.Protocol.rules in
    let out = g.W.Write.contents c.args.writer.now in
    let asked = g.A.Answer.asked c.args.answerer.now in
    let written = g.W.Write.contents c.run_part-end.new.writer in
    let exchanges = g.A.Answer.asked c.run_part-end.new.answerer in
    let i = g.R.Read.remaining c.args.reader.now in
    let i2 = g.R.Read.remaining c.run_part-end.new.reader in
    let to = at c.run_part-end.new.count c.run_part-end.new.held in
    let new = c.run_part-end.new.transcript in
    let part : IsPart p first i i2 (start out asked) (moment written exchanges new) to AwaitsInput = rw (c.new-held.ensures, c.new-transcript.ensures.asked, c.new-transcript.ensures.written) at c.in-AwaitsInput.ensures.part in
    finished p i i2 out written asked exchanges c.ended.result (rw c.ended.ensures (waited p to i i2 out written asked exchanges new part)) (rw c.ended.ensures refl)

pub returns-in-Over-Done-clause-ok : goal.returns-in-Over-Done-clause-ok
returns-in-Over-Done-clause-ok g c =
    let p = g.P.Protocol.rules in
    let out = g.W.Write.contents c.args.writer.now in
    let asked = g.A.Answer.asked c.args.answerer.now in
    let written = g.W.Write.contents c.run_part-end.new.writer in
    let exchanges = g.A.Answer.asked c.run_part-end.new.answerer in
    let i = g.R.Read.remaining c.args.reader.now in
    let i2 = g.R.Read.remaining c.run_part-end.new.reader in
    finished p i i2 out written asked exchanges c.ended-in-Over-Done.result (search rules) (rw c.ended-in-Over-Done.ensures refl)

pub returns-clause-err : goal.returns-clause-err
returns-clause-err g c =
    let p = g.P.Protocol.rules in
    let out = g.W.Write.contents c.args.writer.now in
    let asked = g.A.Answer.asked c.args.answerer.now in
    let written = g.W.Write.contents c.run_part-end.new.writer in
    let exchanges = g.A.Answer.asked c.run_part-end.new.answerer in
    let i = g.R.Read.remaining c.args.reader.now in
    let i2 = g.R.Read.remaining c.run_part-end.new.reader in
    let to = at c.run_part-end.new.count c.run_part-end.new.held in
    let new = c.run_part-end.new.transcript in
    let part : IsPart p first i i2 (start out asked) (moment written exchanges new) to (Over c.in-Over.ending) = rw (c.new-held.ensures, c.new-transcript.ensures.asked, c.new-transcript.ensures.written) at c.in-Over.ensures.part in
    failed p i i2 out written asked exchanges c.ended-in-Over.result
    (rw c.ended-in-Over.ensures (was_cut p c.in-Over.ending to i i2 (start out asked) (moment written exchanges new) (search rules) part))
