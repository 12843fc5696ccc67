use Rattle.std.proofs.Common.{◌≡◌, List, arith, subst, false, true, rules}
use Rattle.std.specs.Bool.{Decides}
use Rattle.stored_tables.specs.inner.OneByOne.{RunIsSound}
use Rattle.table_model.specs.Runs.{RunState}
use Rattle.table_model.proofs.OneAfterAnother.{OfEach, none_yet, one_passed, passed, stopped_at}
use Rattle.stored_tables.proofs.sound.runs.are_runs_sound.Goals as goal

pub loop-r-init : goal.loop-r-init
loop-r-init c = none_yet (RunIsSound c.args.runs.now) c.as_slice-all.result.now

pub returns-then-not-is_run_sound : goal.returns-then-not-is_run_sound
returns-then-not-is_run_sound c =
    let fails : c.is_run_sound.result ≡ false = search rules in
    subst (λ (xs : List RunState). Decides false (OfEach (RunIsSound c.args.runs.now) xs)) c.as_slice-all.ensures.runs
    (stopped_at (RunIsSound c.args.runs.now) c.as_slice-all.result.now c.loop-r.r c.index-all-r.result
    c.is_run_sound.result
    (omega arith) c.index-all-r.is c.is_run_sound.ensures fails)

pub loop-r-preserved : goal.loop-r-preserved
loop-r-preserved c =
    one_passed (RunIsSound c.args.runs.now) c.as_slice-all.result.now c.loop-r.r c.index-all-r.result c.loop-r.invariant
    (omega arith) c.index-all-r.is (c.is_run_sound.ensures.0 (search rules))

pub returns : goal.returns
returns c =
    subst (λ (xs : List RunState). Decides true (OfEach (RunIsSound c.args.runs.now) xs)) c.as_slice-all.ensures.runs
    (passed (RunIsSound c.args.runs.now) c.as_slice-all.result.now c.loop-r.r c.loop-r.invariant (omega arith))
