use Rattle.needs_graph.proofs.GraphFacts.{walks_law}
use Rattle.needs_graph.proofs.graph.Graph.build.Goals as goal

pub returns-then-list_nothing-clause-walks : goal.returns-then-list_nothing-clause-walks
returns-then-list_nothing-clause-walks c = walks_law c.args.jobs.now

pub returns-clause-walks : goal.returns-clause-walks
returns-clause-walks c = walks_law c.args.jobs.now
