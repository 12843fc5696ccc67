use Rattle.wf_reader.specs.Templates.{parsed, template_of}
use Rattle.wf_reader.proofs.TextsRead.{read_as}
use Rattle.wf_reader.proofs.templates.read_template.Goals as goal

pub returns : goal.returns
returns c =
    let text = c.args.text.now in
    read_as text c.args.site c.parse.result (c.parse.ensures.grammar (template_of text c.args.site) (parsed text c.args.site).is_outcome)
