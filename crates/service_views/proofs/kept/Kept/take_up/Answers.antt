use Rattle.std.proofs.Common.{rules, ◌≡◌, ◌∙◌, ap, ap₂, arith, sym}
use Rattle.std.proofs.lemmas.Bool.Decides.{nat_tests}
use Rattle.std.specs.Prelude.{Bool, false, ◌==◌, if◌then◌else◌}
use Rattle.table_model.specs.TableState.{TableState}
use Rattle.act_store.specs.StoreState.{table_of}
use Rattle.service_views.specs.FirstRuns.{FirstState, first_run_after}
use Rattle.service_views.proofs.kept.Kept.take_up.Goals as goal

pub returns-clause-goes_on : goal.returns-clause-goes_on
returns-clause-goes_on g c =
    let first = c.args.self.now.first in
    let looked = first_run_after (table_of c.args.store.now) c.args.now first in
    let new : (c.args.store.now.covered == c.args.self.now.changes.taken) ≡ false =
    grind (arith, nat_tests, c.covered.ensures.value, c.taken.ensures, c.if-covered-taken.false) in
    record {
      entered = search rules;
      told = search rules;
      leases = search rules;
      taken = search rules;
      counts = search rules;
      hears = search rules;
      first = c.look.ensures ∙ ap₂ (λ (t : TableState) (f : FirstState). first_run_after t c.args.now f) c.table.ensures c.note_new.ensures.first
          ∙ ap (λ (b : Bool). if b then first else looked) (sym new);
      began = search rules;
    }
