use Rattle.std.proofs.Common.{true, sym, subst, ap, ◌∙◌}
use Rattle.label_lists.specs.Requesting.{RequestingState, index_of}
use Rattle.label_lists.specs.inner.Requesting.{PutsRun}
use Rattle.label_lists.proofs.Offers.{puts_run}
use Rattle.label_lists.proofs.requesting_runs.RequestingRuns.mark.Goals as goal

pub returns-in-Some-clause-puts : goal.returns-in-Some-clause-puts
returns-in-Some-clause-puts c =
    let runs = c.self.inside.runs.items in
    let there = ap (λ (a : RequestingState). index_of a.runs c.args.run) c.self.view_is ∙ sym c.in-Some.ensures in
    subst (λ (a : RequestingState). PutsRun true c.args.run a (record { runs = runs; marks = c.mark.new.self })) c.self.view_is
    (puts_run true runs c.self.inside.marks c.mark.new.self c.args.run c.in-Some.index there c.mark.ensures.puts)
