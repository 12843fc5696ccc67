use Rattle.std.proofs.Common.{rules, refl, Ok, true}
use Rattle.std.specs.Prelude.{Some, None}
use Rattle.act_sessions.specs.declared.transcript.Ending.TheVariants.{Done}
use Rattle.act_sessions.specs.declared.transcript.Part.TheVariants.{AwaitsInput, Over}
use Rattle.act_sessions.specs.Session.{moment, first, IsPart}
use Rattle.act_sessions.specs.inner.Turns.{EndsRound, HasPaused}
use Rattle.act_sessions.proofs.Closing.{part_told}
use Rattle.act_sessions.proofs.Going.{at, goes_start, gave_up}
use Rattle.act_sessions.proofs.session.run_part.Goals as goal

pub rounds-init : goal.rounds-init
rounds-init g c =
    let p = g.P.Protocol.rules in
    let i = g.R.Read.remaining c.args.reader.now in
    let now = moment (g.W.Write.contents c.args.writer.now) (g.A.Answer.asked c.args.answerer.now) c.args.transcript.now in
    goes_start p i now (at c.args.count.now c.args.held.now) c.requires.room (search rules) (search rules)

pub returns-in-Ok-Some-true-clause-part : goal.returns-in-Ok-Some-true-clause-part
returns-in-Ok-Some-true-clause-part g c =
    let p = g.P.Protocol.rules in
    let from = at c.args.count.now c.args.held.now in
    let i = g.R.Read.remaining c.args.reader.now in
    let i2 = g.R.Read.remaining c.take_round.new.reader in
    let old = moment (g.W.Write.contents c.args.writer.now) (g.A.Answer.asked c.args.answerer.now) c.args.transcript.now in
    let new = moment (g.W.Write.contents c.take_round.new.writer) (g.A.Answer.asked c.take_round.new.answerer) c.take_round.new.transcript in
    let round : EndsRound p from i i2 old new c.take_round.new.held c.rounds.turns (Ok (Some true)) =
    rw (c.in-Ok-Some-true.field-0-is, c.in-Ok-Some-true.field-0-0-test) at (c.in-Ok-Some-true.ensures from i old c.rounds.invariant) in
    round

pub returns-in-Ok-None-clause-part : goal.returns-in-Ok-None-clause-part
returns-in-Ok-None-clause-part g c =
    let p = g.P.Protocol.rules in
    let from = at c.args.count.now c.args.held.now in
    let i = g.R.Read.remaining c.args.reader.now in
    let i2 = g.R.Read.remaining c.take_round.new.reader in
    let old = moment (g.W.Write.contents c.args.writer.now) (g.A.Answer.asked c.args.answerer.now) c.args.transcript.now in
    let new = moment (g.W.Write.contents c.take_round.new.writer) (g.A.Answer.asked c.take_round.new.answerer) c.take_round.new.transcript in
    let round : EndsRound p from i i2 old new c.take_round.new.held c.rounds.turns (Ok None) =
    rw c.in-Ok-None.field-0-is at (c.in-Ok-None.ensures from i old c.rounds.invariant) in
    round

pub returns-in-Err-clause-part : goal.returns-in-Err-clause-part
returns-in-Err-clause-part g c =
    let p = g.P.Protocol.rules in
    let from = at c.args.count.now c.args.held.now in
    let i = g.R.Read.remaining c.args.reader.now in
    let i2 = g.R.Read.remaining c.take_round.new.reader in
    let old = moment (g.W.Write.contents c.args.writer.now) (g.A.Answer.asked c.args.answerer.now) c.args.transcript.now in
    let asked = g.A.Answer.asked c.take_round.new.answerer in
    let mid = moment (g.W.Write.contents c.take_round.new.writer) asked c.take_round.new.transcript in
    let new = moment (g.W.Write.contents c.abort.new.writer) asked c.abort.new.transcript in
    let paused : HasPaused p c.in-Err.error from i i2 old mid = c.in-Err.ensures from i old c.rounds.invariant in
    gave_up p c.in-Err.error from (at c.args.count.now c.take_round.new.held) i i2 old mid new c.abort.result paused refl (c.abort.ensures asked)

pub returns-in-Ok-Some-true-clause-exchanges : goal.returns-in-Ok-Some-true-clause-exchanges
returns-in-Ok-Some-true-clause-exchanges g c =
    let p = g.P.Protocol.rules in
    let from = at c.args.count.now c.args.held.now in
    let i = g.R.Read.remaining c.args.reader.now in
    let i2 = g.R.Read.remaining c.take_round.new.reader in
    let out = g.W.Write.contents c.args.writer.now in
    let written = g.W.Write.contents c.take_round.new.writer in
    let asked = g.A.Answer.asked c.args.answerer.now in
    let now = g.A.Answer.asked c.take_round.new.answerer in
    let old = moment out asked c.args.transcript.now in
    let new = moment written now c.take_round.new.transcript in
    let round : EndsRound p from i i2 old new c.take_round.new.held c.rounds.turns (Ok (Some true)) =
    rw (c.in-Ok-Some-true.field-0-is, c.in-Ok-Some-true.field-0-0-test) at (c.in-Ok-Some-true.ensures from i old c.rounds.invariant) in
    part_told p from first i i2 out written asked now c.args.transcript.now c.take_round.new.transcript (Over Done) round

pub returns-in-Ok-None-clause-exchanges : goal.returns-in-Ok-None-clause-exchanges
returns-in-Ok-None-clause-exchanges g c =
    let p = g.P.Protocol.rules in
    let from = at c.args.count.now c.args.held.now in
    let to = at c.rounds.turns c.take_round.new.held in
    let i = g.R.Read.remaining c.args.reader.now in
    let i2 = g.R.Read.remaining c.take_round.new.reader in
    let out = g.W.Write.contents c.args.writer.now in
    let written = g.W.Write.contents c.take_round.new.writer in
    let asked = g.A.Answer.asked c.args.answerer.now in
    let now = g.A.Answer.asked c.take_round.new.answerer in
    let old = moment out asked c.args.transcript.now in
    let new = moment written now c.take_round.new.transcript in
    let round : EndsRound p from i i2 old new c.take_round.new.held c.rounds.turns (Ok None) =
    rw c.in-Ok-None.field-0-is at (c.in-Ok-None.ensures from i old c.rounds.invariant) in
    part_told p from to i i2 out written asked now c.args.transcript.now c.take_round.new.transcript AwaitsInput round

pub returns-in-Ok-None-clause-waits : goal.returns-in-Ok-None-clause-waits
returns-in-Ok-None-clause-waits g c same =
    let p = g.P.Protocol.rules in
    let from = at c.args.count.now c.args.held.now in
    let to = at c.rounds.turns c.take_round.new.held in
    let i = g.R.Read.remaining c.args.reader.now in
    let i2 = g.R.Read.remaining c.take_round.new.reader in
    let old = moment (g.W.Write.contents c.args.writer.now) (g.A.Answer.asked c.args.answerer.now) c.args.transcript.now in
    let new = moment (g.W.Write.contents c.take_round.new.writer) (g.A.Answer.asked c.take_round.new.answerer) c.take_round.new.transcript in
    let round : IsPart p from i i2 old new to AwaitsInput =
    rw c.in-Ok-None.field-0-is at (c.in-Ok-None.ensures from i old c.rounds.invariant) in
    let room = round.0.room in
    let held = round.0.held in
    (room, search (rules, held))

pub returns-in-Err-clause-exchanges : goal.returns-in-Err-clause-exchanges
returns-in-Err-clause-exchanges g c =
    let p = g.P.Protocol.rules in
    let from = at c.args.count.now c.args.held.now in
    let to = at c.args.count.now c.take_round.new.held in
    let i = g.R.Read.remaining c.args.reader.now in
    let i2 = g.R.Read.remaining c.take_round.new.reader in
    let out = g.W.Write.contents c.args.writer.now in
    let asked = g.A.Answer.asked c.args.answerer.now in
    let old = moment out asked c.args.transcript.now in
    let now = g.A.Answer.asked c.take_round.new.answerer in
    let mid = moment (g.W.Write.contents c.take_round.new.writer) now c.take_round.new.transcript in
    let written = g.W.Write.contents c.abort.new.writer in
    let new = moment written now c.abort.new.transcript in
    let paused : HasPaused p c.in-Err.error from i i2 old mid = c.in-Err.ensures from i old c.rounds.invariant in
    part_told p from to i i2 out written asked now c.args.transcript.now c.abort.new.transcript (Over c.abort.result)
    (gave_up p c.in-Err.error from to i i2 old mid new c.abort.result paused refl (c.abort.ensures now))
