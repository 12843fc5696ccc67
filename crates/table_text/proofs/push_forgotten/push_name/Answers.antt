use Rattle.std.proofs.lemmas.Str.{is_utf8-from_IsUtf8}
use Rattle.table_text.proofs.ForgottenKnown.{on_ok}
use Rattle.table_text.proofs.push_forgotten.push_name.Goals as goal

pub returns-clause-takes : goal.returns-clause-takes
returns-clause-takes c = on_ok c.push_text.result (c.requires, is_utf8-from_IsUtf8 c.args.value.now c.utf8.value)
