use Rattle.table_model.specs.Groups.{run_facts}
use Rattle.table_runs.proofs.StillBound.{SameButKeys, lists_still, says_still}
use Rattle.table_runs.proofs.ToldMore.{begun_first}
use Rattle.table_runs.proofs.rows.bind.Goals as goal

pub decide_begun-requires : goal.decide_begun-requires
decide_begun-requires c =
    begun_first c.args.run.now c.in_ok-bindings.bindings c.in_ok-bindings.ensures.own c.in_ok-bindings.ensures.as_many c.in_ok-bindings.ensures.later

pub returns-clause-says : goal.returns-clause-says
returns-clause-says c =
    let same : SameButKeys c.in_ok-bindings.bindings c.decide_begun.new.bindings =
    record { own = c.decide_begun.ensures.own; jobs = c.decide_begun.ensures.jobs; lists = c.decide_begun.ensures.lists } in
    says_still (run_facts c.args.run.now) c.in_ok-bindings.bindings c.decide_begun.new.bindings same c.in_ok-bindings.ensures.says

pub returns-clause-lists : goal.returns-clause-lists
returns-clause-lists c =
    let same : SameButKeys c.in_ok-bindings.bindings c.decide_begun.new.bindings =
    record { own = c.decide_begun.ensures.own; jobs = c.decide_begun.ensures.jobs; lists = c.decide_begun.ensures.lists } in
    lists_still c.bind.new.lists c.args.r c.in_ok-bindings.bindings c.decide_begun.new.bindings same c.in_ok-bindings.ensures.lists
