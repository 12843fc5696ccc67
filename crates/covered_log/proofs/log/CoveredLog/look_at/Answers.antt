use Rattle.std.proofs.Common.{◌≡◌, ◌∙◌, ◌+◌, [], ◌∷◌, ◌++◌, ap, drop, sym, take}
use Rattle.std.proofs.lemmas.Option.{slice_get_within}
use Rattle.std.specs.Prelude.{None, Option, Some, slice_get, unwrap_or}
use Rattle.covered_log.specs.Standings.{Standing, told_of}
use Rattle.covered_log.proofs.Telling.{added, over_stays, replaced, stays}
use Rattle.covered_log.proofs.log.CoveredLog.look_at.Goals as goal

pub returns-then-is_over-clause-told : goal.returns-then-is_over-clause-told
returns-then-is_over-clause-told c =
    over_stays c.args.look.now.names.now c.args.look.now.table.now c.args.standings.now c.args.r c.args.run.now
    (sym c.is_over.ensures ∙ c.if-is_over.true)

pub returns-in_default-clause-told : goal.returns-in_default-clause-told
returns-in_default-clause-told c =
    let known = c.args.standings.now in
    let r = c.args.r in
    let of : Option Standing → Standing = λ o. told_of c.args.look.now.names.now c.args.look.now.table.now o r c.args.run.now in
    let none : slice_get known r ≡ None = sym c.in_default.ensures in
    c.in_ok-push.ensures
    ∙ ap (λ (s : Standing). known ++ s ∷ []) c.in_ok-now.ensures.told
    ∙ added known r (of None) c.requires.known none
    ∙ ap (λ (o : Option Standing). take r known ++ of o ∷ drop (r + 1) known) (sym none)

pub returns-in_default-2-clause-told : goal.returns-in_default-2-clause-told
returns-in_default-2-clause-told c =
    let known = c.args.standings.now in
    let r = c.args.r in
    let told = c.in-Some.told.now in
    let of : Option Standing → Standing = λ o. told_of c.args.look.now.names.now c.args.look.now.table.now o r c.args.run.now in
    let some : slice_get known r ≡ Some told = sym c.in-Some.ensures in
    let same : told ≡ of (Some told) =
    ap (λ (o : Option Standing). unwrap_or o told) (sym c.in_default-2.is) ∙ c.in_ok-now-2.ensures.told in
    stays known r told some
    ∙ ap (λ (s : Standing). take r known ++ s ∷ drop (r + 1) known) same
    ∙ ap (λ (o : Option Standing). take r known ++ of o ∷ drop (r + 1) known) (sym some)

pub put-requires : goal.put-requires
put-requires c = slice_get_within c.args.standings.now c.args.r c.in-Some.told.now (sym c.in-Some.ensures)

pub returns-clause-told : goal.returns-clause-told
returns-clause-told c =
    let known = c.args.standings.now in
    let r = c.args.r in
    let told = c.in-Some.told.now in
    let now = c.in-Some-2.now in
    let of : Option Standing → Standing = λ o. told_of c.args.look.now.names.now c.args.look.now.table.now o r c.args.run.now in
    let some : slice_get known r ≡ Some told = sym c.in-Some.ensures in
    let is : now ≡ of (Some told) =
    ap (λ (o : Option Standing). unwrap_or o told) (sym c.in-Some-2.is) ∙ c.in_ok-now-2.ensures.told in
    c.put.ensures
    ∙ replaced known r now (slice_get_within known r told some)
    ∙ ap (λ (s : Standing). take r known ++ s ∷ drop (r + 1) known) is
    ∙ ap (λ (o : Option Standing). take r known ++ of o ∷ drop (r + 1) known) (sym some)
