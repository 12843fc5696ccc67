use Rattle.std.proofs.Common.{◌∙◌, ap}
use Rattle.std.specs.Prelude.{false, find}
use Rattle.std.specs.Option.{option_map_or}
use Rattle.table_model.specs.Fitting.{has_lease}
use Rattle.table_model.specs.Runs.{leg_at}
use Rattle.table_views.proofs.runners.site_of_lease.Goals as goal

pub returns-in-Some : goal.returns-in-Some
returns-in-Some c =
    c.in-Some.ensures
    ∙ ap (find (λ p. option_map_or (has_lease c.args.lease) (leg_at c.args.runs.now p) false)) c.requires

pub returns-in-None : goal.returns-in-None
returns-in-None c =
    c.in-None.ensures
    ∙ ap (find (λ p. option_map_or (has_lease c.args.lease) (leg_at c.args.runs.now p) false)) c.requires
