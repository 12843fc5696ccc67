use Rattle.std.proofs.Common.{◌∙◌}
use Rattle.group_name.proofs.Folding.{kept_name, spelled_name}
use Rattle.group_name.proofs.group_key.GroupKey.name.Goals as goal

pub returns-clause-bytes : goal.returns-clause-bytes
returns-clause-bytes c = c.as_str.ensures ∙ kept_name c.self.view_is c.self.invariant

pub returns-clause-characters : goal.returns-clause-characters
returns-clause-characters c = spelled_name c.self.view_is c.self.invariant
