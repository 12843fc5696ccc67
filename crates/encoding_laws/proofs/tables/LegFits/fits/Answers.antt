use Rattle.std.proofs.Common.{◌≡◌, subst, rules}
use Rattle.table_text.specs.Tables.{IsLease}
use Rattle.table_text.proofs.TableKnown.{leg_takes}
use Rattle.encoding_laws.proofs.tables.LegFits.fits.Goals as goal

pub returns : goal.returns
returns c =
    let same : c.self.inside.lease ≡ c.args.self.now.lease = search rules in
    leg_takes c.args.self.now c.requires (subst IsLease same c.lease_fits.ensures)
