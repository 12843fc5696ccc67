use Rattle.std.proofs.Common.{[], ap, refl, subst, inl, ◌∙◌}
use Rattle.std.proofs.KnownBytes.{Appends-nil}
use Rattle.table_model.specs.TableState.{TableState}
use Rattle.act_store.specs.Images.{RecoversTo}
use Rattle.act_store.specs.StoreState.{table_of}
use Rattle.program_commands.specs.Show.{shown}
use Rattle.program_commands.proofs.Showing.{opened_table, shown_faults, shows_told, recovers_somewhere}
use Rattle.program_commands.proofs.show.run_show.Goals as goal

pub returns-in-Err-clause-written : goal.returns-in-Err-clause-written
returns-in-Err-clause-written g c = λ honest. (
  [],
  Appends-nil (g.W.Write.contents c.args.writer.now),
  inl (refl, (c.in-Err.ensures.refused, λ is. c.in-Err.ensures.no_area is honest, λ is. c.in-Err.ensures.no_table is honest)),
)

pub returns-in-Ok-clause-written : goal.returns-in-Ok-clause-written
returns-in-Ok-clause-written g c = λ honest.
    let s = c.in-Ok.store in
    let image = g.D.Disk.seen c.args.disk in
    let recovers : RecoversTo (table_of s) image =
    subst (λ (t : TableState). RecoversTo t image) (opened_table s c.in-Ok.ensures.begun.0) (c.in-Ok.ensures.base (subst g.D.Disk.honest c.into_disk.ensures honest)) in
    shows_told (shown c.args.form c.args.what) image (table_of s) (g.W.Write.contents c.args.writer.now) (g.W.Write.contents c.show_store-ended.new.writer)
    c.show_store-ended.result recovers c.show_store-ended.ensures

pub returns-in-Ok-clause-faults : goal.returns-in-Ok-clause-faults
returns-in-Ok-clause-faults g c =
    shown_faults c.args.form c.args.what (table_of c.in-Ok.store) _ _ c.show_store-ended.result _ _ c.show_store-ended.ensures
    (ap g.D.Disk.fault_count c.into_disk.ensures ∙ c.in-Ok.ensures.faults)

pub returns-in-Ok-clause-tells_no_area : goal.returns-in-Ok-clause-tells_no_area
returns-in-Ok-clause-tells_no_area g c = λ honest none.
    absurd (recovers_somewhere c.in-Ok.store.base (g.D.Disk.seen c.args.disk) (c.in-Ok.ensures.base (subst g.D.Disk.honest c.into_disk.ensures honest)) none)
