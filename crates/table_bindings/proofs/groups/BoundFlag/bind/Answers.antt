use Rattle.std.specs.Prelude.{◌≡◌}
use Rattle.std.proofs.Common.{ap, sym, ◌∙◌}
use Rattle.wf_expr.specs.TemplateValue.{template_value}
use Rattle.wf_reader.specs.declared.flag.Flag.TheVariants as flag
use Rattle.table_model.specs.LegContext.{is_set}
use Rattle.table_bindings.proofs.Binding.{flag_by_text}
use Rattle.table_bindings.proofs.groups.BoundFlag.bind.Goals as goal

pub returns-in_ok-bound-in-Template-clause-says : goal.returns-in_ok-bound-in-Template-clause-says
returns-in_ok-bound-in-Template-clause-says g c = λ results values has.
    let is : c.args.flag.now ≡ flag.Template c.in-Template.template = cc in
    flag_by_text (template_value values c.in-Template.template) _ (c.in_ok-bound-in-Template.ensures.text results values has)
    ∙ ap (is_set values) (sym is)
