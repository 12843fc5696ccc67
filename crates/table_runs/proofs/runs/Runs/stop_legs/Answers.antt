use Rattle.std.proofs.Common.{◌≡◌, List, ap, subst, sym, ◌∙◌}
use Rattle.table_model.specs.Runs.{RunState}
use Rattle.table_model.specs.Sound.{RunsAreSound}
use Rattle.table_runs.specs.inner.RowsKept.{RowState}
use Rattle.table_runs.proofs.runs.Runs.stop_legs.Goals as goal

pub returns : goal.returns
returns c =
    let refreshed : c.refresh_offers.new.self.runs ≡ c.stop_each_leg.new.self =
    ap (λ (rows : RowState). rows.runs) c.refresh_offers.ensures ∙ c.self.view_is in
    record {
      stopped = refreshed ∙ c.stop_each_leg.ensures.stopped;
      sound = subst (λ (xs : List RunState). RunsAreSound xs) (sym refreshed) c.stop_each_leg.ensures.sound;
    }
