use Rattle.std.proofs.Common.{rules, ◌≡◌, ℕ, List, ◌+◌, ◌<◌, ◌^◌, ◌∙◌, ◌-◌, length, true, false, refl, arith, ap, subst, sym}
use Rattle.act_store.specs.Images.{RecoversTo}
use Rattle.act_store.specs.StoreState.{StoreState, RecoverToCovered, RecoversToEither, table_of}
use Rattle.act_store.specs.Plain.{committed, used_after}
use Rattle.act_store.specs.inner.Promise.{IsCounted, IsSettled, IsConsistent}
use Rattle.act_store.specs.inner.StoreSeen.{as_state}
use Rattle.act_store.specs.PendingBatch.{body_of}
use Rattle.act_store.proofs.Checkpointing.{counted_with, consistent_failed}
use Rattle.act_store.proofs.Committing.{now_of, none_waits, all_recovers, counted_committed, commit_moments}
use Rattle.act_store.proofs.Committing.{commit_settles, more, used_is, same_committed}
use Rattle.act_store.proofs.Records.{length_record}
use Rattle.act_store.proofs.Settling.{settled_recovers, recover_to_covered, consistent_fresh}
use Rattle.act_store.proofs.Snapshots.{begun_broken, begun_grown}
use Rattle.act_store.proofs.store.Store.commit.Given.{Over}
use Rattle.act_store.proofs.store.Store.commit.Goals as goal

pub returns-then-is_empty-clause-recovers : goal.returns-then-is_empty-clause-recovers
returns-then-is_empty-clause-recovers g c =
    let s = c.self.inside in
    let disk = g.D.Disk in
    let k = as_state s in
    let counted = c.self.invariant.0 in
    let none : s.pending_batch.count ≡ 0 = search (rules, arith) in
    subst (λ (v : StoreState g.row.D.Denot). disk.honest v.disk → (image : List ℕ) → disk.images v.disk image → RecoversTo (table_of v) image)
    c.self.view_is
    (λ honest image now. all_recovers k s.table s.pending_batch counted (none_waits k s.table s.pending_batch counted none) image
    ((c.self.invariant.2 honest).each image now))

pub grow-requires-clause-fits : goal.grow-requires-clause-fits
grow-requires-clause-fits g c =
    let s = c.self.inside in
    let k = as_state s in
    let counted = c.self.invariant.0 in
    let some : 0 < s.pending_batch.count = search (rules, arith) in
    let bytes = c.as_slice-bytes.ensures in
    omega (
      arith,
      used_is k s.table s.pending_batch counted some (length c.as_slice-bytes.result.now)
          (ap (λ (l : List ℕ). length l) (bytes.bytes some) ∙ length_record (body_of s.pending_batch)),
      counted.record_fits (more k s.table s.pending_batch counted some),
    )

pub returns-in-Err-clause-any_moment : goal.returns-in-Err-clause-any_moment
returns-in-Err-clause-any_moment g c =
    let disk = g.D.Disk in
    commit_moments disk.honest disk.images c.self.inside c.self.invariant.0 (search rules) (search (rules, arith)) c.self.invariant.2
    c.as_slice-bytes.result.now c.as_slice-bytes.ensures.bytes c.as_slice-bytes.ensures.short c.grow.new.disk disk.moment
    disk.images_since c.grow.ensures.any_moment c.args.self.now c.self.view_is

pub returns-in-Ok-clause-any_moment : goal.returns-in-Ok-clause-any_moment
returns-in-Ok-clause-any_moment g c =
    let disk = g.D.Disk in
    commit_moments disk.honest disk.images c.self.inside c.self.invariant.0 (search rules) (search (rules, arith)) c.self.invariant.2
    c.as_slice-bytes.result.now c.as_slice-bytes.ensures.bytes c.as_slice-bytes.ensures.short c.grow.new.disk disk.moment
    disk.images_since c.grow.ensures.any_moment c.args.self.now c.self.view_is

pub invariant_of-self : goal.invariant_of-self
invariant_of-self g c =
    let s = c.self.inside in
    let disk = g.D.Disk in
    let k = as_state s in
    let counted = c.self.invariant.0 in
    let d1 = c.grow.new.disk in
    let since = commit_moments disk.honest disk.images s counted (search rules) (search (rules, arith)) c.self.invariant.2
    c.as_slice-bytes.result.now c.as_slice-bytes.ensures.bytes c.as_slice-bytes.ensures.short d1 disk.moment
    disk.images_since c.grow.ensures.any_moment k refl in (
      counted_with k s.table s.pending_batch counted d1 k.begun true,
      (λ impossible. absurd (cc impossible)),
      λ honest1.
          consistent_failed k s.table s.pending_batch counted disk.images s.areas.side s.other d1 k.begun
          (now_of disk.moment disk.images_since disk.images s.disk d1 (RecoversToEither k) (g.met.D.Disk.counts_now d1 honest1)
          (since (c.grow.ensures.honest.0 honest1))),
      begun_broken s.base.value s.history.items s.generation s.areas.len s.areas.side s.other (disk.honest s.disk) s.failed
          (disk.seen s.disk) s.begun c.self.invariant.3 (disk.honest d1) (disk.seen d1),
    )

-- the counts are those after a commit
is_committed : (g : Over) (c : goal.After-truncate g)
    → committed (as_state c.self.inside) c.grow.new.disk
    ≡ record (as_state c.self.inside) {
      disk = c.grow.new.disk;
      covered = c.len-self-inside.result;
      used = c.self.inside.used + length c.as_slice-bytes.result.now;
    }
is_committed g c =
    let s = c.self.inside in
    let some : 0 < s.pending_batch.count = search (rules, arith) in
    let bytes = c.as_slice-bytes.result.now in
    let all : c.len-self-inside.result ≡ length s.history.items = search rules in
    same_committed (as_state s) c.grow.new.disk c.len-self-inside.result (s.used + length bytes) all
    (used_is (as_state s) s.table s.pending_batch c.self.invariant.0 some (length bytes)
    (ap (λ (l : List ℕ). length l) (c.as_slice-bytes.ensures.bytes some) ∙ length_record (body_of s.pending_batch)))

-- all images agree on all entries
settled : (g : Over) (c : goal.After-truncate g) → g.D.Disk.honest c.grow.new.disk
    → IsSettled c.self.inside.areas.len c.self.inside.areas.side c.self.inside.other c.self.inside.generation
    (used_after (as_state c.self.inside)) c.self.inside.layout (table_of (as_state c.self.inside)) (g.D.Disk.images c.grow.new.disk)
settled g c honest1 =
    let disk = g.D.Disk in
    commit_settles disk.honest disk.images c.self.inside c.self.invariant.0 (search rules) (search (rules, arith)) c.self.invariant.2
    c.as_slice-bytes.result.now c.as_slice-bytes.ensures.bytes c.as_slice-bytes.ensures.short c.grow.new.disk c.in-Ok.ensures.grown
    (c.grow.ensures.honest.0 honest1)

pub invariant_of-self-in-Ok : goal.invariant_of-self-in-Ok
invariant_of-self-in-Ok g c =
    let s = c.self.inside in
    let disk = g.D.Disk in
    let k = as_state s in
    let counted = c.self.invariant.0 in
    let d1 = c.grow.new.disk in
    let before = c.grow.ensures.honest.0 in
    let three = subst (λ (v : StoreState g.row.D.Denot). IsCounted v s.table c.truncate.new.self
    × (v.failed ≡ false → disk.fault_count v.disk < 2 ^ 64 - 1)
    × (disk.honest v.disk → IsConsistent disk.images s.areas.side s.other v))
    (is_committed g c) (
      counted_committed k s.table s.pending_batch counted (search (rules, arith)) d1 c.truncate.new.self c.truncate.ensures.count c.truncate.ensures.encoded,
      (λ _. search (rules, arith)),
      λ honest1. consistent_fresh disk.images s.areas.side s.other k counted.size d1 (settled g c honest1),
    ) in (
      three.0,
      three.1,
      three.2,
      begun_grown s.base.value s.history.items s.generation s.areas.len s.areas.side s.other (disk.honest s.disk) s.failed
          (disk.seen s.disk) s.begun c.self.invariant.3 (disk.honest d1) (disk.seen d1) before
          (λ honest live. (((c.self.invariant.2 honest).settled live).each (disk.seen s.disk)
          (g.met.D.Disk.seen_is_image s.disk honest)).whole)
          (λ honest from put. c.in-Ok.ensures.beside from put honest),
    )

pub returns-in-Ok-clause-recovers : goal.returns-in-Ok-clause-recovers
returns-in-Ok-clause-recovers g c = λ honest1.
    let s = c.self.inside in
    let k = as_state s in
    let images = g.D.Disk.images c.grow.new.disk in
    subst (λ (v : StoreState g.row.D.Denot). (image : List ℕ) → images image → RecoversTo (table_of v) image) c.self.view_is
    (settled_recovers s.areas.len s.areas.side s.other s.generation (used_after k) s.layout (table_of k) images c.self.invariant.0.size
    (settled g c honest1))

pub returns-in-Ok-clause-some : goal.returns-in-Ok-clause-some
returns-in-Ok-clause-some g c =
    subst (λ (v : StoreState g.row.D.Denot). v.covered < length v.history
    → record (as_state c.self.inside) {
      disk = c.grow.new.disk;
      covered = c.len-self-inside.result;
      used = c.self.inside.used + length c.as_slice-bytes.result.now;
    } ≡ committed v c.grow.new.disk)
    c.self.view_is
    (λ _. sym (is_committed g c))

pub returns-then-is_empty-clause-exact : goal.returns-then-is_empty-clause-exact
returns-then-is_empty-clause-exact g c =
    let s = c.self.inside in
    let disk = g.D.Disk in
    subst (λ (v : StoreState g.row.D.Denot). disk.honest v.disk → RecoverToCovered disk.images v) c.self.view_is
    (λ honest. recover_to_covered disk.images s.areas.side s.other (as_state s) c.self.invariant.0.size (c.self.invariant.2 honest))

pub returns-in-Ok-clause-exact : goal.returns-in-Ok-clause-exact
returns-in-Ok-clause-exact g c = λ honest1.
    let s = c.self.inside in
    let disk = g.D.Disk in
    let k = as_state s in
    let d1 = c.grow.new.disk in
    subst (λ (v : StoreState g.row.D.Denot). RecoverToCovered disk.images v) (is_committed g c)
    (recover_to_covered disk.images s.areas.side s.other (committed k d1) c.self.invariant.0.size
    (consistent_fresh disk.images s.areas.side s.other k c.self.invariant.0.size d1 (settled g c honest1)))
