use Rattle.runner_sessions.specs.inner.Laws.{lines_apart}
use Rattle.runner_sessions.proofs.laws.an_unfinished_line_is_none.Goals as goal

pub returns : goal.returns
returns c = lines_apart
