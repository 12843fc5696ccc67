use Rattle.std.proofs.Common.{subst, sym}
use Rattle.command_encodings.proofs.Known.{all_get, all_more}
use Rattle.encoding_laws.proofs.lists.all_fit.Goals as goal

pub fits-requires : goal.fits-requires
fits-requires g c =
    let can = g.T.Fits.can in
    subst can (sym c.value-item.is) (all_get can c.args.list.now c.loop-value.value-index _ c.loop-value-test.true c.requires)

pub loop-value-preserved : goal.loop-value-preserved
loop-value-preserved g c =
    all_more g.T.Fits.takes c.args.list.now c.loop-value.value-index _ c.loop-value-test.true c.loop-value.invariant
    (subst g.T.Fits.takes c.value-item.is c.fits.ensures)
