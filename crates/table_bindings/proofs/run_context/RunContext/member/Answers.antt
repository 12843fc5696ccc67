use Rattle.std.specs.Prelude.{◌∷◌, [], codes, option_and_then}
use Rattle.std.proofs.Common.{ap, sym}
use Rattle.table_model.specs.LegContext.{github_of_run, under}
use Rattle.table_bindings.proofs.Under.{nothing_under}
use Rattle.table_bindings.proofs.run_context.RunContext.member.Goals as goal

pub returns-in_default : goal.returns-in_default
returns-in_default c =
    let run = c.args.self.now in
    sym (ap (option_and_then (under c.args.name.now))
    (nothing_under c.args.context.now ((codes "github", github_of_run run.event run.run_id run.run_number run.run_attempt) ∷ [])
    (c.in_default.not-github, tt)))
