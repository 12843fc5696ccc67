use Rattle.std.proofs.Common.{ap, subst, sym, ◌∙◌}
use Rattle.table_model.specs.Runs.{with_leg, LegState}
use Rattle.table_runs.specs.inner.HolderChanges.{ChangesNobody}
use Rattle.table_runs.specs.inner.RowsKept.{RowState}
use Rattle.table_runs.proofs.LegEnds.{leased_within, leg_is_leased}
use Rattle.table_runs.proofs.runs.Runs.lease.Goals as goal

pub change_within-requires : goal.change_within-requires
change_within-requires c = record {
  within = leased_within c.args.self.now c.args.site c.args.lease c.requires.sound c.requires.holds;
  nobody = subst (λ (z : LegState). ChangesNobody c.args.self.now (with_leg c.args.site (λ _. z) c.args.self.now)) (sym c.leased.ensures)
      (leg_is_leased c.args.self.now c.args.site c.args.lease c.requires.sound c.requires.holds);
}

pub returns : goal.returns
returns c =
    ap (λ (r : RowState). r.runs) c.refresh_list.ensures ∙ c.self.view_is ∙ c.change_within.ensures
    ∙ ap (λ (z : LegState). with_leg c.args.site (λ _. z) c.args.self.now) c.leased.ensures
