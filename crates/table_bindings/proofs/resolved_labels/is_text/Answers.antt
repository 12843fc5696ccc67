use Rattle.std.specs.Prelude.{◌≡◌}
use Rattle.std.specs.Str.{str_eq_ignore_ascii_case}
use Rattle.std.proofs.Common.{rules, tests, ◌∙◌}
use Rattle.table_bindings.proofs.ShortLabels.{is_either}
use Rattle.table_bindings.proofs.resolved_labels.is_text.Goals as goal

pub returns : goal.returns
returns c = λ whole same.
    let equal : c.eq_ignore_ascii_case.result ≡ str_eq_ignore_ascii_case c.args.label.now c.args.wanted.now = search (rules, tests) in
    equal ∙ is_either _ c.args.label.now whole c.args.wanted.now c.as_str.ensures.form same
