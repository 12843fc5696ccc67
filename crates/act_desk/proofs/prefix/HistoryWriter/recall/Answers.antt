use Rattle.act_desk.specs.Events.{entries_in}
use Rattle.act_desk.proofs.Eventful.{covered_prefix, entries_prefix, told_prefix}
use Rattle.act_desk.proofs.Prefixes.{prefix_length}
use Rattle.act_desk.proofs.prefix.HistoryWriter.recall.Goals as goal

pub returns-clause-entries : goal.returns-clause-entries
returns-clause-entries g c = entries_prefix c.args.seen.now c.args.self.now c.whole.ensures.prefix

pub returns-clause-len : goal.returns-clause-len
returns-clause-len g c =
    prefix_length (entries_in c.args.seen.now) (entries_in c.args.self.now)
    (entries_prefix c.args.seen.now c.args.self.now c.whole.ensures.prefix)

pub returns-clause-covered : goal.returns-clause-covered
returns-clause-covered g c = covered_prefix c.args.seen.now c.args.self.now c.whole.ensures.prefix

pub returns-clause-told : goal.returns-clause-told
returns-clause-told g c = told_prefix c.args.seen.now c.args.self.now c.whole.ensures.prefix
