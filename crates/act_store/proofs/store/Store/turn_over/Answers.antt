use Rattle.std.proofs.Common.{rules, ◌≡◌, sym, ◌∙◌, subst}
use Rattle.std.specs.Prelude.{None, option_map}
use Rattle.table_model.specs.Sound.{IsSound}
use Rattle.table_model.specs.TableState.{TableState}
use Rattle.act_store.specs.StoreState.{StoreState, covered_table}
use Rattle.act_store.specs.Plain.{refusal_of_turn_over}
use Rattle.act_store.specs.inner.Promise.{IsBegun}
use Rattle.act_store.specs.inner.StoreSeen.{as_checkpoint, as_state}
use Rattle.act_store.proofs.Beginning.{counted_begun, consistent_begun}
use Rattle.act_store.proofs.Checkpointing.{all_table, nothing_waits, table_sound}
use Rattle.act_store.proofs.RefusalsOfCheckpoints.{may_turn_over, none_begun}
use Rattle.act_store.proofs.Settling.{settled_at}
use Rattle.act_store.proofs.Snapshots.{if_none}
use Rattle.act_store.proofs.store.Store.turn_over.Goals as goal

pub invariant_of-self : goal.invariant_of-self
invariant_of-self g c =
    let s = c.self.inside in
    let disk = g.D.Disk in
    let k = as_state s in
    let counted = c.self.invariant.0 in
    let none : refusal_of_turn_over c.args.self.now ≡ None = search rules in
    let may = may_turn_over k (subst (λ (v : StoreState g.row.D.Denot). refusal_of_turn_over v ≡ None) (sym c.self.view_is) none) in
    let base = c.of.result.value in
    let same : s.table ≡ base = search rules in
    let now = c.clear.new.self.items in
    let checkpoint = option_map as_checkpoint s.begun in (
      counted_begun s.disk s.areas.len base s.used s.generation s.layout checkpoint s.failed now c.clear.ensures.items
          (subst (λ (t : TableState). IsSound t) same (table_sound k s.table s.pending_batch counted)) s.table same s.pending_batch
          (nothing_waits k s.table s.pending_batch counted may.all) counted.size counted.gate_fits,
      c.self.invariant.1,
      λ honest. consistent_begun s.disk s.areas.len base s.used s.generation s.layout checkpoint s.failed now c.clear.ensures.items disk.images
          s.areas.side s.other counted.size
          (settled_at s.areas.len s.areas.side s.other s.generation s.used s.layout (covered_table k) base (disk.images s.disk)
          (all_table k s.table s.pending_batch counted may.all ∙ same) ((c.self.invariant.2 honest).settled may.live)),
      if_none s.begun
          (IsBegun base now s.generation s.areas.len s.areas.side s.other (disk.honest s.disk) s.failed (disk.seen s.disk))
          (none_begun s.begun may.none),
    )
