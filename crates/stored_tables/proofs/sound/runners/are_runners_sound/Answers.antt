use Rattle.std.proofs.Common.{◌≡◌, arith, false, rules}
use Rattle.stored_tables.specs.inner.OneByOne.{RunnerIsSound}
use Rattle.table_model.proofs.OneAfterAnother.{none_yet, one_passed, passed, stopped_at}
use Rattle.stored_tables.proofs.sound.runners.are_runners_sound.Goals as goal

pub loop-k-init : goal.loop-k-init
loop-k-init c = none_yet (RunnerIsSound c.args.leases.now c.args.runs.now) c.args.runners.now

pub returns-then-not-is_runner_sound : goal.returns-then-not-is_runner_sound
returns-then-not-is_runner_sound c =
    let fails : c.is_runner_sound.result ≡ false = search rules in
    stopped_at (RunnerIsSound c.args.leases.now c.args.runs.now) c.args.runners.now c.loop-k.k c.index-runners-k.result
    c.is_runner_sound.result (omega arith) c.index-runners-k.is c.is_runner_sound.ensures fails

pub loop-k-preserved : goal.loop-k-preserved
loop-k-preserved c =
    one_passed (RunnerIsSound c.args.leases.now c.args.runs.now) c.args.runners.now c.loop-k.k c.index-runners-k.result c.loop-k.invariant
    (omega arith) c.index-runners-k.is (c.is_runner_sound.ensures.0 (search rules))

pub returns : goal.returns
returns c =
    passed (RunnerIsSound c.args.leases.now c.args.runs.now) c.args.runners.now c.loop-k.k c.loop-k.invariant (omega arith)
