use Rattle.std.proofs.Common.{rules, arith, ◌≡◌, ◌≤◌, ◌+◌, ◌∙◌, ℕ, ap, length, take, true, refl, subst, sym}
use Rattle.std.specs.Prelude.{Some, option_map}
use Rattle.definitions.specs.Disk.{EachSince, Holds}
use Rattle.act_disk.proofs.Moments.{started}
use Rattle.gated_journal.specs.TwoAreas.{other, start_of}
use Rattle.gated_journal.specs.declared.gate.GateState.TheVariants.{Closed}
use Rattle.act_store.specs.Checkpoints.{first_gate, text_length}
use Rattle.act_store.specs.StoreState.{RecoversToEither, StoreState, table_of}
use Rattle.act_store.specs.inner.Promise.{IsBegun}
use Rattle.act_store.specs.inner.StoreSeen.{as_checkpoint, as_state}
use Rattle.act_store.specs.declared.begun.Begun.{Begun}
use Rattle.act_store.proofs.Checkpointing.{begin_moments, counted_with, few_runners, settled_again, consistent_failed, consistent_with, table_sound}
use Rattle.act_store.proofs.Committing.{now_of}
use Rattle.act_store.proofs.OtherGates.{uncalled}
use Rattle.act_store.proofs.RefusalsOfCheckpoints.{begins, none_begun}
use Rattle.act_store.proofs.Snapshots.{held_none, if_none, snapshot_taken}
use Rattle.act_store.proofs.store.Store.check_begin.Goals as goal

pub take_text-requires : goal.take_text-requires
take_text-requires g c =
    let s = c.self.inside in
    let k = as_state s in
    let counted = c.self.invariant.0 in
    let may = begins s c.args.self.now c.self.view_is (search rules) in
    let text : c.in_ok-text.text ≡ text_length s.table =
    subst (λ (v : StoreState g.row.D.Denot). c.in_ok-text.text ≡ text_length (table_of v)) (sym c.self.view_is) c.in_ok-text.ensures.text
    ∙ ap (λ t. text_length t) (sym counted.table_is) in
    record {
      few = few_runners k s.table s.pending_batch counted may;
      sound = table_sound k s.table s.pending_batch counted;
      text = text;
      short = omega (arith, text, ap (λ t. text_length t) counted.table_is, may.room, counted.size.most);
    }

pub invariant_of-self : goal.invariant_of-self
invariant_of-self g c =
    let s = c.self.inside in
    let disk = g.D.Disk in
    let k = as_state s in
    let counted = c.self.invariant.0 in
    let d1 = c.close_other.new.disk in
    let may = begins s c.args.self.now c.self.view_is (search rules) in
    let since = begin_moments disk.honest disk.images s counted may.live c.self.invariant.2 d1 disk.moment disk.images_since
    c.close_other.ensures.any_moment k refl in (
      counted_with k s.table s.pending_batch counted d1 (option_map as_checkpoint s.begun) true,
      (λ impossible. absurd (cc impossible)),
      (λ honest1. consistent_failed k s.table s.pending_batch counted disk.images s.areas.side s.other d1 (option_map as_checkpoint s.begun)
          (now_of disk.moment disk.images_since disk.images s.disk d1 (RecoversToEither k) (g.met.D.Disk.counts_now d1 honest1)
          (since (c.close_other.ensures.honest.0 honest1)))),
      if_none s.begun
          (IsBegun s.base.value s.history.items s.generation s.areas.len s.areas.side s.other (disk.honest d1) true (disk.seen d1))
          (none_begun s.begun may.none),
    )

pub invariant_of-self-in-Ok : goal.invariant_of-self-in-Ok
invariant_of-self-in-Ok g c =
    let s = c.self.inside in
    let disk = g.D.Disk in
    let k = as_state s in
    let counted = c.self.invariant.0 in
    let d1 = c.close_other.new.disk in
    let may = begins s c.args.self.now c.self.view_is (search rules) in
    let b : Begun = c.in_ok-begun.begun in
    let place : b.place ≡ length s.history.items = search rules in
    let checkpoint = Some (as_checkpoint b) in (
      counted_with k s.table s.pending_batch counted d1 checkpoint s.failed,
      (λ _. search (rules, arith)),
      (λ honest1.
          let honest = c.close_other.ensures.honest.0 honest1 in
          let settled = (c.self.invariant.2 honest).settled may.live in
          consistent_with k s.table s.pending_batch counted disk.images s.areas.side Closed d1 checkpoint
          (settled_again k s.table s.pending_batch counted disk.images s.areas.side s.other settled Closed d1
          (c.in-Ok.ensures.closed settled.head settled.bodies honest settled.each))),
      (
        snapshot_taken s.base.value s.table s.history.items s.generation s.areas.len b counted.table_is place c.in_ok-begun.ensures.put may.newer
            (subst (λ t. first_gate (text_length t) + 1 ≤ s.areas.len) (sym counted.table_is) may.room)
            c.in_ok-begun.ensures.prefix c.in_ok-begun.ensures.encodes c.in_ok-begun.ensures.none,
        λ honest1 live. record {
          closed = refl;
          held = subst (λ (n : ℕ). Holds (disk.seen d1) (start_of s.areas.len (other s.areas.side) + 1) (take n b.head_and_text.items))
              (sym c.in_ok-begun.ensures.put)
              (held_none (disk.seen d1) (start_of s.areas.len (other s.areas.side) + 1) b.head_and_text.items);
        },
      ),
    )

pub returns-in-Err-clause-any_moment : goal.returns-in-Err-clause-any_moment
returns-in-Err-clause-any_moment g c =
    let s = c.self.inside in
    let disk = g.D.Disk in
    let may = begins s c.args.self.now c.self.view_is (search rules) in
    begin_moments disk.honest disk.images s c.self.invariant.0 may.live c.self.invariant.2 c.close_other.new.disk disk.moment
    disk.images_since c.close_other.ensures.any_moment c.args.self.now c.self.view_is

pub returns-in-Ok-clause-any_moment : goal.returns-in-Ok-clause-any_moment
returns-in-Ok-clause-any_moment g c =
    let s = c.self.inside in
    let disk = g.D.Disk in
    let may = begins s c.args.self.now c.self.view_is (search rules) in
    begin_moments disk.honest disk.images s c.self.invariant.0 may.live c.self.invariant.2 c.close_other.new.disk disk.moment
    disk.images_since c.close_other.ensures.any_moment c.args.self.now c.self.view_is

pub returns-in_err-begun-clause-any_moment : goal.returns-in_err-begun-clause-any_moment
returns-in_err-begun-clause-any_moment g c =
    let s = c.self.inside in
    let disk = g.D.Disk in
    subst (λ (v : StoreState g.row.D.Denot). disk.honest v.disk → EachSince disk.moment disk.images_since v.disk v.disk (RecoversToEither v))
    c.self.view_is
    (λ honest. started disk.moment disk.images_since s.disk (RecoversToEither (as_state s))
    (λ i left. (c.self.invariant.2 honest).each i (g.met.D.Disk.only_now s.disk honest i left)))

pub returns-in_err-text-clause-any_moment : goal.returns-in_err-text-clause-any_moment
returns-in_err-text-clause-any_moment g c =
    let s = c.self.inside in
    let disk = g.D.Disk in
    subst (λ (v : StoreState g.row.D.Denot). disk.honest v.disk → EachSince disk.moment disk.images_since v.disk v.disk (RecoversToEither v))
    c.self.view_is
    (λ honest. started disk.moment disk.images_since s.disk (RecoversToEither (as_state s))
    (λ i left. (c.self.invariant.2 honest).each i (g.met.D.Disk.only_now s.disk honest i left)))

pub returns-in-Err-clause-uncalled : goal.returns-in-Err-clause-uncalled
returns-in-Err-clause-uncalled g c =
    let s = c.self.inside in
    let disk = g.D.Disk in
    let may = begins s c.args.self.now c.self.view_is (search rules) in
    uncalled disk.honest disk.images disk.seen s may.live c.self.invariant.2 (g.met.D.Disk.seen_is_image s.disk) c.close_other.new.disk
    (λ is. (c.close_other.ensures.same is).0) c.args.self.now c.self.view_is

pub returns-in-Ok-clause-uncalled : goal.returns-in-Ok-clause-uncalled
returns-in-Ok-clause-uncalled g c =
    let s = c.self.inside in
    let disk = g.D.Disk in
    let may = begins s c.args.self.now c.self.view_is (search rules) in
    uncalled disk.honest disk.images disk.seen s may.live c.self.invariant.2 (g.met.D.Disk.seen_is_image s.disk) c.close_other.new.disk
    (λ is. (c.close_other.ensures.same is).0) c.args.self.now c.self.view_is
