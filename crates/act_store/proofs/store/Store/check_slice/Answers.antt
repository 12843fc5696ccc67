use Rattle.std.proofs.Common.{rules, arith, ◌≡◌, ◌≤◌, ap, length, true, refl, subst, sym}
use Rattle.std.specs.Prelude.{Some}
use Rattle.gated_journal.specs.Whole.{RecoversWhole}
use Rattle.gated_journal.specs.declared.gate.GateState.TheVariants.{Closed}
use Rattle.act_store.specs.inner.LastPart.{LastState}
use Rattle.act_store.specs.StoreState.{RecoversToEither}
use Rattle.act_store.specs.inner.Promise.{IsBegun, IsSnapshot}
use Rattle.act_store.specs.inner.StoreSeen.{as_checkpoint, as_state}
use Rattle.act_store.specs.declared.begun.Begun.{Begun}
use Rattle.act_store.proofs.Checkpointing.{counted_with, slice_moments, slice_settles, consistent_failed, consistent_with}
use Rattle.act_store.proofs.Committing.{now_of}
use Rattle.act_store.proofs.RefusalsOfCheckpoints.{slices}
use Rattle.act_store.proofs.Snapshots.{it_is, put_sliced, snapshot_sliced}
use Rattle.act_store.proofs.store.Store.check_slice.Goals as goal

pub invariant_of-self-in-Err : goal.invariant_of-self-in-Err
invariant_of-self-in-Err g c =
    let s = c.self.inside in
    let disk = g.D.Disk in
    let k = as_state s in
    let counted = c.self.invariant.0 in
    let d1 = c.put_slice.new.disk in
    let b = c.in-Some-take.begun in
    let next = c.put_slice.new.begun in
    let live = slices s c.args.self.now c.self.view_is (search rules) in
    let so = it_is s.begun b (IsBegun s.base.value s.history.items s.generation s.areas.len s.areas.side s.other (disk.honest s.disk) s.failed
    (disk.seen s.disk)) (search rules) c.self.invariant.3 in
    let same : next ≡ b = search rules in
    let since =
    slice_moments disk.honest disk.images s counted live c.self.invariant.2 d1 disk.moment disk.images_since
    (λ honest. (so.1 honest live).closed) c.put_slice.ensures.any_moment k refl in (
      counted_with k s.table s.pending_batch counted d1 (Some (as_checkpoint next)) true,
      (λ impossible. absurd (cc impossible)),
      (λ honest1. consistent_failed k s.table s.pending_batch counted disk.images s.areas.side s.other d1 (Some (as_checkpoint next))
          (now_of disk.moment disk.images_since disk.images s.disk d1 (RecoversToEither k) (g.met.D.Disk.counts_now d1 honest1)
          (since (c.put_slice.ensures.honest.0 honest1)))),
      (
        subst (λ (x : Begun). IsSnapshot s.base.value s.history.items s.generation s.areas.len x) (sym same) so.0,
        λ honest1 impossible. absurd (cc impossible),
      ),
    )

pub invariant_of-self-in-Ok : goal.invariant_of-self-in-Ok
invariant_of-self-in-Ok g c =
    let s = c.self.inside in
    let disk = g.D.Disk in
    let k = as_state s in
    let counted = c.self.invariant.0 in
    let d1 = c.put_slice.new.disk in
    let b = c.in-Some-take.begun in
    let next = c.put_slice.new.begun in
    let live = slices s c.args.self.now c.self.view_is (search rules) in
    let so = it_is s.begun b (IsBegun s.base.value s.history.items s.generation s.areas.len s.areas.side s.other (disk.honest s.disk) s.failed
    (disk.seen s.disk)) (search rules) c.self.invariant.3 in
    let within : next.put ≤ length b.head_and_text.items = search (rules, arith) in (
      counted_with k s.table s.pending_batch counted d1 (Some (as_checkpoint next)) s.failed,
      (λ _. search (rules, arith)),
      (λ honest1.
          let honest = c.put_slice.ensures.honest.0 honest1 in
          let settled = (c.self.invariant.2 honest).settled live in
          consistent_with k s.table s.pending_batch counted disk.images s.areas.side s.other d1 (Some (as_checkpoint next))
          (slice_settles k s.table s.pending_batch counted disk.images s.areas.side s.other settled d1 (so.1 honest live).closed
          (λ each. now_of disk.moment disk.images_since disk.images s.disk d1
          (λ i. RecoversWhole s.areas.len s.areas.side Closed i settled.head settled.bodies) (g.met.D.Disk.counts_now d1 honest1)
          (c.put_slice.ensures.any_moment settled.head settled.bodies honest each)))),
      (
        snapshot_sliced s.base.value s.history.items s.generation s.areas.len b next c.put_slice.ensures.same_text
            c.put_slice.ensures.same_place within (ap (λ (part : LastState). part.encoded) c.put_slice.ensures.same_last) so.0,
        λ honest1 live.
            let honest = c.put_slice.ensures.honest.0 honest1 in
            let put = so.1 honest live in
            let settled = (c.self.invariant.2 honest).settled live in
            let long = (settled.each (disk.seen s.disk) (g.met.D.Disk.seen_is_image s.disk honest)).whole in
            put_sliced s.areas.len s.areas.side s.other (disk.seen d1) b next c.put_slice.ensures.same_text put.closed
            (c.in-Ok.ensures.held honest (omega (arith, long)) put.held),
      ),
    )

pub returns-in-Err-clause-any_moment : goal.returns-in-Err-clause-any_moment
returns-in-Err-clause-any_moment g c =
    let s = c.self.inside in
    let disk = g.D.Disk in
    let b = c.in-Some-take.begun in
    let live = slices s c.args.self.now c.self.view_is (search rules) in
    let so = it_is s.begun b (IsBegun s.base.value s.history.items s.generation s.areas.len s.areas.side s.other (disk.honest s.disk) s.failed
    (disk.seen s.disk)) (search rules) c.self.invariant.3 in
    slice_moments disk.honest disk.images s c.self.invariant.0 live c.self.invariant.2 c.put_slice.new.disk disk.moment disk.images_since
    (λ honest. (so.1 honest live).closed) c.put_slice.ensures.any_moment c.args.self.now c.self.view_is

pub returns-in-Ok-clause-any_moment : goal.returns-in-Ok-clause-any_moment
returns-in-Ok-clause-any_moment g c =
    let s = c.self.inside in
    let disk = g.D.Disk in
    let b = c.in-Some-take.begun in
    let live = slices s c.args.self.now c.self.view_is (search rules) in
    let so = it_is s.begun b (IsBegun s.base.value s.history.items s.generation s.areas.len s.areas.side s.other (disk.honest s.disk) s.failed
    (disk.seen s.disk)) (search rules) c.self.invariant.3 in
    slice_moments disk.honest disk.images s c.self.invariant.0 live c.self.invariant.2 c.put_slice.new.disk disk.moment disk.images_since
    (λ honest. (so.1 honest live).closed) c.put_slice.ensures.any_moment c.args.self.now c.self.view_is
