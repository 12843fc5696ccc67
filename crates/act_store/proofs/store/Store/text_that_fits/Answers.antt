use Rattle.std.proofs.Common.{◌≡◌, List, ◌+◌, ap, false, length, not, subst}
use Rattle.std.specs.Prelude.{nat_lt}
use Rattle.table_model.specs.TableState.{RunnerState}
use Rattle.act_store.specs.Checkpoints.{first_gate, text_length}
use Rattle.act_store.specs.StoreState.{StoreState, table_of}
use Rattle.act_store.specs.inner.StoreSeen.{as_state}
use Rattle.act_store.proofs.Checkpointing.{too_many}
use Rattle.act_store.proofs.RefusalsOfCheckpoints.{no_room}
use Rattle.act_store.proofs.store.Store.text_that_fits.Goals as goal

pub returns-then-runners-clause-fits : goal.returns-then-runners-clause-fits
returns-then-runners-clause-fits g c =
    let s = c.self.inside in
    subst (λ (v : StoreState g.row.D.Denot). false ≡ not (nat_lt v.area (first_gate (text_length (table_of v)) + 1))) c.self.view_is
    (no_room s.areas.len (first_gate (text_length (table_of (as_state s))) + 1)
    (too_many (as_state s) s.table s.pending_batch c.self.invariant.0 (length c.runners.result.now)
    (ap (λ (l : List RunnerState). length l) c.runners.ensures.runners) c.if-runners.true))
