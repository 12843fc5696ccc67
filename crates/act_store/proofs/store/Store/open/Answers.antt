use Rattle.std.proofs.Common.{rules, false, arith, ◌≡◌, [], ℕ, List, sym, subst}
use Rattle.std.specs.Prelude.{None}
use Rattle.table_model.specs.Sound.{IsSound}
use Rattle.table_model.specs.TableState.{TableState}
use Rattle.act_store.specs.Images.{RecoversFrom, RecoversTo}
use Rattle.act_store.proofs.Beginning.{counted_begun, consistent_begun}
use Rattle.act_store.proofs.Opening.{found_at, found_settled, found_recovers}
use Rattle.act_store.proofs.Settling.{settled_at}
use Rattle.act_store.proofs.store.Store.open.Goals as goal

pub invariant_of-result : goal.invariant_of-result
invariant_of-result g c =
    let disk = g.D.Disk in
    let d1 = c.find.new.disk in
    let file = disk.seen c.args.disk in
    let found = c.in-Ok.found in
    let encoded = found.encoded in
    let base = c.of.result.value in
    let same : encoded.table ≡ base = search rules in
    let none : c.new.result.items ≡ [] = c.new.ensures.items in
    let area = c.in-Ok.ensures.area in (
      counted_begun d1 found.area base encoded.used encoded.generation encoded.layout None false c.new.result.items none
          (subst (λ (t : TableState). IsSound t) same c.in-Ok.ensures.sound) encoded.table same c.new-2.result
          c.new-2.ensures area.0 area.1,
      (λ _. search (rules, arith)),
      λ honest. consistent_begun d1 found.area base encoded.used encoded.generation encoded.layout None false c.new.result.items none disk.images found.chosen.side
          found.chosen.other area.0
          (settled_at found.area found.chosen.side found.chosen.other encoded.generation encoded.used encoded.layout encoded.table base
          (disk.images d1) same
          (found_settled found file (c.in-Ok.ensures.found honest) (disk.images d1) (c.in-Ok.ensures.stable honest))),
      _,
    )

pub returns-clause-base : goal.returns-clause-base
returns-clause-base g c = λ honest.
    let file = g.D.Disk.seen c.args.disk in
    let same : c.in-Ok.found.encoded.table ≡ c.of.result.value = search rules in
    subst (λ (t : TableState). RecoversTo t file) same
    (found_recovers c.in-Ok.found file (c.in-Ok.ensures.found honest) c.in-Ok.ensures.area.0)

pub returns-clause-recovers : goal.returns-clause-recovers
returns-clause-recovers g c = λ honest image now.
    let file = g.D.Disk.seen c.args.disk in
    let same : c.in-Ok.found.encoded.table ≡ c.of.result.value = search rules in
    subst (λ (l : List ℕ). RecoversTo c.of.result.value l) (sym ((c.in-Ok.ensures.stable honest image).0 now))
    (subst (λ (t : TableState). RecoversTo t file) same
    (found_recovers c.in-Ok.found file (c.in-Ok.ensures.found honest) c.in-Ok.ensures.area.0))

pub returns-clause-place : goal.returns-clause-place
returns-clause-place g c = λ honest.
    let file = g.D.Disk.seen c.args.disk in
    let found = c.in-Ok.found in
    let same : found.encoded.table ≡ c.of.result.value = search rules in
    subst (λ (t : TableState). RecoversFrom found.encoded.generation found.encoded.used found.encoded.layout t file) same
    (found_at found file (c.in-Ok.ensures.found honest) c.in-Ok.ensures.area.0)
