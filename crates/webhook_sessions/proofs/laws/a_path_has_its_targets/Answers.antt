use Rattle.webhook_sessions.proofs.Targets.{target_of_path, path_of_target}
use Rattle.webhook_sessions.proofs.laws.a_path_has_its_targets.Goals as goal

pub returns : goal.returns
returns c = λ target path. (target_of_path target path, path_of_target target path)
