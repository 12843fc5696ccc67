use Rattle.std.proofs.Common.{◌≡◌, List, arith, ap, false, true, get_or, length, subst, rules}
use Rattle.std.proofs.lemmas.Bool.Decides.{Decides-like}
use Rattle.table_model.specs.Runs.{RunState}
use Rattle.table_model.specs.Forgotten.{deliveries_of}
use Rattle.forgotten_runs.proofs.TwoLists.{differ_first}
use Rattle.stored_tables.proofs.DeliveriesFound.{IsFoundAt, differ_found, found_differ}
use Rattle.table_model.proofs.OneAfterAnother.{no, none_yet, not_so, one_passed, passed, stopped_at}
use Rattle.stored_tables.proofs.sound.deliveries.do_deliveries_differ.Goals as goal

pub loop-r-init : goal.loop-r-init
loop-r-init c = none_yet (IsFoundAt c.args.forgotten.now.deliveries c.args.runs.now) c.args.runs.now

pub returns-then-not-do_kept_differ : goal.returns-then-not-do_kept_differ
returns-then-not-do_kept_differ c =
    no (λ differ. not_so c.do_kept_differ.result c.do_kept_differ.ensures (search rules)
    (differ_first c.args.forgotten.now.deliveries (deliveries_of c.args.runs.now) differ))

pub returns-then-not-is_found : goal.returns-then-not-is_found
returns-then-not-is_found c =
    let kept = c.args.forgotten.now.deliveries in
    let runs = c.args.runs.now in
    let fails : c.is_found.result ≡ false = search rules in
    let at = subst (λ (xs : List RunState). c.index-all-r.result ≡ get_or xs c.loop-r.r c.index-all-r.result) c.as_slice-all.ensures.runs
    c.index-all-r.is in
    Decides-like false (found_differ kept runs (c.do_kept_differ.ensures.0 (search rules))) (differ_found kept runs)
    (stopped_at (IsFoundAt kept runs) runs c.loop-r.r c.index-all-r.result c.is_found.result
    (omega (arith, ap length c.as_slice-all.ensures.runs)) at
    c.is_found.ensures fails)

pub loop-r-preserved : goal.loop-r-preserved
loop-r-preserved c =
    let kept = c.args.forgotten.now.deliveries in
    let runs = c.args.runs.now in
    let at = subst (λ (xs : List RunState). c.index-all-r.result ≡ get_or xs c.loop-r.r c.index-all-r.result) c.as_slice-all.ensures.runs
    c.index-all-r.is in
    one_passed (IsFoundAt kept runs) runs c.loop-r.r c.index-all-r.result c.loop-r.invariant
    (omega (arith, ap length c.as_slice-all.ensures.runs)) at
    (c.is_found.ensures.0 (search rules))

pub returns : goal.returns
returns c =
    let kept = c.args.forgotten.now.deliveries in
    let runs = c.args.runs.now in
    Decides-like true (found_differ kept runs (c.do_kept_differ.ensures.0 (search rules))) (differ_found kept runs)
    (passed (IsFoundAt kept runs) runs c.loop-r.r c.loop-r.invariant (omega (arith, ap length c.as_slice-all.ensures.runs)))
