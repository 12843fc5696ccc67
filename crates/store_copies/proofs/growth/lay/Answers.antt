use Rattle.std.proofs.Common.{[], ◌∙◌}
use Rattle.table_text.specs.Tables.{whole_table}
use Rattle.store_copies.specs.Copies.{copy_head}
use Rattle.store_copies.proofs.Laid.{fits_head, laid_recovers}
use Rattle.store_copies.proofs.growth.lay.Goals as goal

pub returns-clause-recovers : goal.returns-clause-recovers
returns-clause-recovers g c = λ honest1.
    let disk = g.E.Disk in
    let text = whole_table.encoding c.args.table.now in
    let honest = c.make_areas.ensures.honest.0 honest1 in
    let bytes = c.as_slice.ensures.value ∙ c.in_ok-bytes.ensures.bytes in
    laid_recovers c.args.area (disk.images c.make_areas.new.disk) c.args.table.now text c.in_ok-bytes.ensures.encodes c.requires.area
    (c.in_ok-make_areas.ensures.made (copy_head text) [] honest bytes (fits_head c.args.area text c.requires.area c.requires.room))
