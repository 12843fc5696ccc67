use Rattle.std.proofs.Common.{◌≡◌, ℕ, List, arith, ap, false, true, get_or, length, subst, rules}
use Rattle.std.proofs.lemmas.Bool.Decides.{Decides-like}
use Rattle.stored_tables.proofs.DeliveriesFound.{IsKeptAt, differ_kept, kept_differ}
use Rattle.table_model.proofs.OneAfterAnother.{none_yet, one_passed, passed, stopped_at}
use Rattle.stored_tables.proofs.sound.deliveries.do_kept_differ.Goals as goal

pub loop-k-init : goal.loop-k-init
loop-k-init c = none_yet (IsKeptAt c.args.forgotten.now.deliveries) c.args.forgotten.now.deliveries

pub returns-then-not-is_kept_at : goal.returns-then-not-is_kept_at
returns-then-not-is_kept_at c =
    let kept = c.args.forgotten.now.deliveries in
    let fails : c.is_kept_at.result ≡ false = search rules in
    let at = subst (λ (xs : List (List ℕ)). c.index-kept-k.result ≡ get_or xs c.loop-k.k c.index-kept-k.result) c.deliveries-kept.ensures
    c.index-kept-k.is in
    Decides-like false (kept_differ kept) (differ_kept kept)
    (stopped_at (IsKeptAt kept) kept c.loop-k.k c.index-kept-k.result c.is_kept_at.result (omega (arith, ap length c.deliveries-kept.ensures)) at
    c.is_kept_at.ensures fails)

pub loop-k-preserved : goal.loop-k-preserved
loop-k-preserved c =
    let kept = c.args.forgotten.now.deliveries in
    let at = subst (λ (xs : List (List ℕ)). c.index-kept-k.result ≡ get_or xs c.loop-k.k c.index-kept-k.result) c.deliveries-kept.ensures
    c.index-kept-k.is in
    one_passed (IsKeptAt kept) kept c.loop-k.k c.index-kept-k.result c.loop-k.invariant (omega (arith, ap length c.deliveries-kept.ensures)) at
    (c.is_kept_at.ensures.0 (search rules))

pub returns : goal.returns
returns c =
    let kept = c.args.forgotten.now.deliveries in
    Decides-like true (kept_differ kept) (differ_kept kept)
    (passed (IsKeptAt kept) kept c.loop-k.k c.loop-k.invariant (omega (arith, ap length c.deliveries-kept.ensures)))
