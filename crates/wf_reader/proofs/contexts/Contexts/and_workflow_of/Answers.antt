use Rattle.wf_reader.proofs.ContextParts.{taken_in_order, taken_after}
use Rattle.wf_reader.proofs.contexts.Contexts.and_workflow_of.Goals as goal

pub returns-clause-contexts : goal.returns-clause-contexts
returns-clause-contexts c =
    taken_in_order c.args.members.entries c.remove-github.new.self.entries c.remove-inputs.new.self.entries _ _ _
    c.remove-github.ensures.value c.remove-github.ensures.entries
    c.remove-inputs.ensures.value c.remove-inputs.ensures.entries
    c.remove-vars.ensures.value

pub returns-clause-workflow : goal.returns-clause-workflow
returns-clause-workflow c =
    taken_after c.args.members.entries c.remove-github.new.self.entries c.remove-inputs.new.self.entries
    c.remove-vars.new.self.entries _ c.remove-github.ensures.entries c.remove-inputs.ensures.entries
    c.remove-vars.ensures.entries c.remove.ensures.value
