use Rattle.std.proofs.Common.{rules, false, ◌≡◌, [], sym, subst, arith}
use Rattle.std.specs.Prelude.{None}
use Rattle.table_model.specs.Sound.{IsSound}
use Rattle.table_model.specs.Step.{empty}
use Rattle.table_model.specs.TableState.{TableState}
use Rattle.run_table.proofs.StepKeeps.{empty_is_sound}
use Rattle.gated_journal.specs.declared.gate.GateState.TheVariants.{Closed}
use Rattle.gated_journal.specs.declared.side.Side.TheVariants.{First}
use Rattle.act_store.specs.Images.{IsAreaLength}
use Rattle.act_store.specs.declared.layout.Layout.TheVariants as layouts
use Rattle.act_store.proofs.Beginning.{counted_begun, consistent_begun, first_head, first_bytes, first_fits, first_settled, first_recovers}
use Rattle.act_store.proofs.Settling.{settled_at}
use Rattle.act_store.proofs.store.Store.init.Goals as goal

pub invariant_of-result : goal.invariant_of-result
invariant_of-result g c =
    let disk = g.D.Disk in
    let d1 = c.make_areas.new.disk in
    let area = c.args.area in
    let size : IsAreaLength area = record { least = c.requires.least; most = c.requires.most } in
    let none : c.new.result.items ≡ [] = c.new.ensures.items in
    let base = c.of.result.value in
    let is_empty : base ≡ empty = search rules in
    let same : c.new-table.result ≡ base = search rules in (
      counted_begun d1 area base 38 1 layouts.Third None false c.new.result.items none
          (subst (λ (t : TableState). IsSound t) (sym is_empty) empty_is_sound) c.new-table.result same
          c.new-in-Ok.result c.new-in-Ok.ensures size (omega (arith, c.requires.least)),
      (λ _. search (rules, arith)),
      λ honest1.
          let honest = c.make_areas.ensures.honest.0 honest1 in
          consistent_begun d1 area base 38 1 layouts.Third None false c.new.result.items none disk.images First Closed size
          (settled_at area First Closed 1 38 layouts.Third empty base (disk.images d1) (sym is_empty)
          (first_settled area (disk.images d1) (c.in-Ok.ensures.made first_head [] honest (sym first_bytes) first_fits))),
      _,
    )

pub returns-in-Ok-clause-recovers : goal.returns-in-Ok-clause-recovers
returns-in-Ok-clause-recovers g c = λ honest1.
    let disk = g.D.Disk in
    let d1 = c.make_areas.new.disk in
    let size : IsAreaLength c.args.area = record { least = c.requires.least; most = c.requires.most } in
    let honest = c.make_areas.ensures.honest.0 honest1 in
    first_recovers c.args.area (disk.images d1) size (c.in-Ok.ensures.made first_head [] honest (sym first_bytes) first_fits)
