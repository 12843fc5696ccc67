use Rattle.std.proofs.Common.{◌≡◌, Some, ap, sym, ◌∙◌, rules}
use Rattle.table_text.proofs.ForgottenKnown.{name_kept, no_name}
use Rattle.table_text.proofs.forgotten_at.name_of.Goals as goal

pub returns-in_default-clause-gives : goal.returns-in_default-clause-gives
returns-in_default-clause-gives c = no_name c.args.text.now c.in_default.ensures.cases.0

pub returns-in-Ok-from_str-clause-gives : goal.returns-in-Ok-from_str-clause-gives
returns-in-Ok-from_str-clause-gives c =
    let same : c.in-Ok-from_str.name ≡ c.args.text.now = search rules in
    name_kept c.args.text.now c.in-Ok.ensures.cases.1 ∙ ap Some (sym same)
