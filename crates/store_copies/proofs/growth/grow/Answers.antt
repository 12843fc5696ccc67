use Rattle.std.proofs.Common.{ℕ, List, subst}
use Rattle.table_model.specs.TableState.{TableState}
use Rattle.act_store.specs.Images.{RecoversTo}
use Rattle.act_store.specs.StoreState.{table_of}
use Rattle.store_copies.proofs.growth.grow.Goals as goal

pub returns-in-Ok-clause-alike : goal.returns-in-Ok-clause-alike
returns-in-Ok-clause-alike g c = λ grown old new.
    let images = g.E.Disk.images c.lay.new.disk in
    record {
      table = table_of c.args.store.now;
      of_old = c.opened_table-table.ensures.recovers old;
      of_new = subst (λ (t : TableState). (d : List ℕ) → images d → RecoversTo t d) c.opened_table-table.ensures.table (c.in-Ok.ensures.recovers new);
    }
