use Rattle.std.proofs.Common.{rules, arith, ◌≡◌, ◌+◌, ◌-◌, List, ℕ, [], ap, length, true, refl, subst, sym}
use Rattle.std.specs.Prelude.{Ok, OnOk, Result, Some}
use Rattle.definitions.specs.Disk.{EachSince}
use Rattle.act_disk.proofs.Moments.{started}
use Rattle.gated_journal.specs.TwoAreas.{other}
use Rattle.gated_journal.specs.declared.gate.GateState.TheVariants.{Open}
use Rattle.gated_journal.specs.declared.side.Side.{Side}
use Rattle.act_store.specs.Images.{RecoversTo}
use Rattle.act_store.specs.inner.LastPart.{LastState}
use Rattle.act_store.specs.StoreState.{StoreState, RecoversToEither, table_of}
use Rattle.act_store.specs.inner.Promise.{IsBegun, IsConsistent}
use Rattle.act_store.specs.inner.StoreSeen.{as_checkpoint, as_state}
use Rattle.act_store.specs.PendingBatch.{batch_state_of}
use Rattle.act_store.specs.declared.begun.Begun.{Begun}
use Rattle.act_store.specs.declared.layout.Layout.TheVariants as layouts
use Rattle.act_store.proofs.Checkpointing.{counted_with, consistent_failed}
use Rattle.act_store.proofs.Committing.{none_left, now_of}
use Rattle.act_store.proofs.Finishing.{consistent_finished, counted_finished, done, fills_in, finish_moments, finish_settles, finishing, is_finished, part_fits}
use Rattle.act_store.proofs.Settling.{settled_recovers}
use Rattle.act_store.proofs.Snapshots.{it_is, snapshot_sliced}
use Rattle.act_store.proofs.store.Store.check_finish.Goals as goal

on_ok_at : {T E P : Type 0} (r : Result T E) (x : T) → r ≡ Ok x → OnOk r P → P
on_ok_at {T} {E} {P} r x is has = subst (λ (q : Result T E). OnOk q P) is has

pub fill_in-requires : goal.fill_in-requires
fill_in-requires g c =
    let s = c.self.inside in
    let disk = g.D.Disk in
    let so = fills_in disk.honest disk.seen s c.self.invariant.0 c.self.invariant.3 c.args.self.now c.self.view_is (search rules)
    c.in-Some-take.begun (search rules) (c.len.result - c.in-Some-take.begun.place) (search rules) in
    record { few = so.few; short = so.short }

pub overflow_add-end : goal.overflow_add-end
overflow_add-end g c =
    let s = c.self.inside in
    let disk = g.D.Disk in
    let at = 1 + c.len-2.result in
    let bytes = c.as_slice-last.result.now in
    let b = c.in-Some-take.begun in
    let f = finishing disk.honest disk.images disk.seen s c.self.invariant.0 c.self.invariant.2 c.self.invariant.3 c.args.self.now
    c.self.view_is (search rules) b (search rules) c.len-2.result (search rules) (c.len.result - b.place) (search rules) bytes
    (search rules) in
    omega (arith, part_fits disk.honest disk.images disk.seen s at bytes f, c.self.invariant.0.size.most)

pub switch-switched-requires-clause-fits : goal.switch-switched-requires-clause-fits
switch-switched-requires-clause-fits g c =
    let s = c.self.inside in
    let disk = g.D.Disk in
    let at = 1 + c.len-2.result in
    let bytes = c.as_slice-last.result.now in
    let b = c.in-Some-take.begun in
    let f = finishing disk.honest disk.images disk.seen s c.self.invariant.0 c.self.invariant.2 c.self.invariant.3 c.args.self.now
    c.self.view_is (search rules) b (search rules) c.len-2.result (search rules) (c.len.result - b.place) (search rules) bytes
    (search rules) in
    part_fits disk.honest disk.images disk.seen s at bytes f

pub returns-in-Some-Numbered-AreaFull-clause-any_moment : goal.returns-in-Some-Numbered-AreaFull-clause-any_moment
returns-in-Some-Numbered-AreaFull-clause-any_moment g c =
    let s = c.self.inside in
    let disk = g.D.Disk in
    subst (λ (v : StoreState g.row.D.Denot). disk.honest v.disk → EachSince disk.moment disk.images_since v.disk s.disk (RecoversToEither v))
    c.self.view_is
    (λ honest. started disk.moment disk.images_since s.disk (RecoversToEither (as_state s))
    (λ i left. (c.self.invariant.2 honest).each i (g.met.D.Disk.only_now s.disk honest i left)))

-- ---- where the device failed

pub invariant_of-self-in-Err : goal.invariant_of-self-in-Err
invariant_of-self-in-Err g c =
    let s = c.self.inside in
    let disk = g.D.Disk in
    let k = as_state s in
    let counted = c.self.invariant.0 in
    let d1 = c.switch-switched.new.disk in
    let next : Begun = record c.in-Some-take.begun { last = c.fill_in.new.self } in
    let checkpoint = Some (as_checkpoint next) in
    let at = 1 + c.len-2.result in
    let bytes = c.as_slice-last.result.now in
    let b = c.in-Some-take.begun in
    let f = finishing disk.honest disk.images disk.seen s c.self.invariant.0 c.self.invariant.2 c.self.invariant.3 c.args.self.now
    c.self.view_is (search rules) b (search rules) c.len-2.result (search rules) (c.len.result - b.place) (search rules) bytes
    (search rules) in
    let so = it_is s.begun b (IsBegun s.base.value s.history.items s.generation s.areas.len s.areas.side s.other (disk.honest s.disk) s.failed
    (disk.seen s.disk)) (search rules) c.self.invariant.3 in
    let since = finish_moments disk.honest disk.images disk.seen s at bytes f d1 disk.moment disk.images_since c.switch-switched.ensures.any_moment k refl in (
      counted_with k s.table s.pending_batch counted d1 checkpoint true,
      (λ impossible. absurd (cc impossible)),
      (λ honest1. consistent_failed k s.table s.pending_batch counted disk.images s.areas.side s.other d1 checkpoint
          (now_of disk.moment disk.images_since disk.images s.disk d1 (RecoversToEither k) (g.met.D.Disk.counts_now d1 honest1)
          (since (c.switch-switched.ensures.honest.0 honest1)))),
      (
        snapshot_sliced s.base.value s.history.items s.generation s.areas.len b next refl refl so.0.put
            (ap (λ (part : LastState). part.encoded) c.fill_in.ensures) so.0,
        λ honest1 impossible. absurd (cc impossible),
      ),
    )

pub returns-in-Err-clause-any_moment : goal.returns-in-Err-clause-any_moment
returns-in-Err-clause-any_moment g c =
    let s = c.self.inside in
    let disk = g.D.Disk in
    let at = 1 + c.len-2.result in
    let bytes = c.as_slice-last.result.now in
    let b = c.in-Some-take.begun in
    let f = finishing disk.honest disk.images disk.seen s c.self.invariant.0 c.self.invariant.2 c.self.invariant.3 c.args.self.now
    c.self.view_is (search rules) b (search rules) c.len-2.result (search rules) (c.len.result - b.place) (search rules) bytes
    (search rules) in
    finish_moments disk.honest disk.images disk.seen s at bytes f c.switch-switched.new.disk disk.moment disk.images_since c.switch-switched.ensures.any_moment
    c.args.self.now c.self.view_is

-- ---- once it is completed

pub invariant_of-self-in-Ok : goal.invariant_of-self-in-Ok
invariant_of-self-in-Ok g c =
    let s = c.self.inside in
    let disk = g.D.Disk in
    let at = 1 + c.len-2.result in
    let bytes = c.as_slice-last.result.now in
    let b = c.in-Some-take.begun in
    let f = finishing disk.honest disk.images disk.seen s c.self.invariant.0 c.self.invariant.2 c.self.invariant.3 c.args.self.now
    c.self.view_is (search rules) b (search rules) c.len-2.result (search rules) (c.len.result - b.place) (search rules) bytes
    (search rules) in
    let d1 = c.switch-switched.new.disk in
    let covered = c.len-self-inside.result in
    let used = at + length bytes - 1 in
    let all : covered ≡ length s.history.items = search rules in
    let left = c.truncate.new.self in
    let nothing : left ≡ batch_state_of [] = none_left left c.truncate.ensures.count c.truncate.ensures.encoded in
    let switched : c.other.result ≡ other s.areas.side = c.other.ensures in (
      counted_finished disk.honest disk.images disk.seen s at bytes f d1 covered used all refl left nothing,
      (λ _. search (rules, arith)),
      (λ honest1.
          subst (λ (x : Side). IsConsistent disk.images x Open (done disk.honest disk.images disk.seen s at bytes f d1 covered used)) (sym switched)
          (consistent_finished disk.honest disk.images disk.seen s at bytes f d1 covered used all refl
          (finish_settles disk.honest disk.images disk.seen s at bytes f d1 (on_ok_at c.switch-switched.result _ c.in-Ok.is c.switch-switched.ensures.switched) (c.switch-switched.ensures.honest.0 honest1)))),
      _,
    )

pub returns-in-Ok-clause-any_moment : goal.returns-in-Ok-clause-any_moment
returns-in-Ok-clause-any_moment g c =
    let s = c.self.inside in
    let disk = g.D.Disk in
    let at = 1 + c.len-2.result in
    let bytes = c.as_slice-last.result.now in
    let b = c.in-Some-take.begun in
    let f = finishing disk.honest disk.images disk.seen s c.self.invariant.0 c.self.invariant.2 c.self.invariant.3 c.args.self.now
    c.self.view_is (search rules) b (search rules) c.len-2.result (search rules) (c.len.result - b.place) (search rules) bytes
    (search rules) in
    finish_moments disk.honest disk.images disk.seen s at bytes f c.switch-switched.new.disk disk.moment disk.images_since c.switch-switched.ensures.any_moment
    c.args.self.now c.self.view_is

pub returns-in-Ok-clause-recovers : goal.returns-in-Ok-clause-recovers
returns-in-Ok-clause-recovers g c = λ honest1.
    let s = c.self.inside in
    let disk = g.D.Disk in
    let at = 1 + c.len-2.result in
    let bytes = c.as_slice-last.result.now in
    let b = c.in-Some-take.begun in
    let f = finishing disk.honest disk.images disk.seen s c.self.invariant.0 c.self.invariant.2 c.self.invariant.3 c.args.self.now
    c.self.view_is (search rules) b (search rules) c.len-2.result (search rules) (c.len.result - b.place) (search rules) bytes
    (search rules) in
    let d1 = c.switch-switched.new.disk in
    subst (λ (v : StoreState g.row.D.Denot). (image : List ℕ) → disk.images d1 image → RecoversTo (table_of v) image) c.self.view_is
    (settled_recovers s.areas.len (other s.areas.side) Open (s.generation + 1) (at + length bytes - 1) layouts.Third (table_of (as_state s))
    (disk.images d1) f.counted.size
    (finish_settles disk.honest disk.images disk.seen s at bytes f d1 (on_ok_at c.switch-switched.result _ c.in-Ok.is c.switch-switched.ensures.switched) (c.switch-switched.ensures.honest.0 honest1)))

pub returns-in-Ok-clause-finished : goal.returns-in-Ok-clause-finished
returns-in-Ok-clause-finished g c =
    let s = c.self.inside in
    let disk = g.D.Disk in
    let at = 1 + c.len-2.result in
    let bytes = c.as_slice-last.result.now in
    let b = c.in-Some-take.begun in
    let f = finishing disk.honest disk.images disk.seen s c.self.invariant.0 c.self.invariant.2 c.self.invariant.3 c.args.self.now
    c.self.view_is (search rules) b (search rules) c.len-2.result (search rules) (c.len.result - b.place) (search rules) bytes
    (search rules) in
    let covered = c.len-self-inside.result in
    let used = at + length bytes - 1 in
    let all : covered ≡ length s.history.items = search rules in
    is_finished disk.honest disk.images disk.seen s at bytes f c.switch-switched.new.disk covered used all refl c.args.self.now c.self.view_is
