use Rattle.std.proofs.KnownBytes.{Appends-nil}
use Rattle.program_commands.specs.Answers.{played_text}
use Rattle.program_commands.proofs.play.play_line.Goals as goal

pub returns-in_err-text-clause-prefix : goal.returns-in_err-text-clause-prefix
returns-in_err-text-clause-prefix g c =
    (played_text c.answer_to-answer.result.word.now c.answer_to-answer.result.played, 0, c.answer_to-answer.ensures, Appends-nil (g.W.Write.contents c.args.writer.now))
