use Rattle.std.proofs.Common.{rules, ◌≡◌, ◌⊎◌, ◌≤◌, ◌*◌, ℕ, List, length, refl, subst}
use Rattle.definitions.specs.Area.{ReadsNothing}
use Rattle.act_store.specs.AreaPrefix.{IsPrefixOf, ReadsSomething}
use Rattle.definitions.specs.Limits.{first_read}
use Rattle.act_store.proofs.AreaPrefixes.{alike, still_short}
use Rattle.act_store.proofs.ReadTwice.{read_twice}
use Rattle.act_store.proofs.area_prefix.read_prefix.Goals as goal

pub loop-area-preserved : goal.loop-area-preserved
loop-area-preserved g c =
    let disk = g.D.Disk in
    let kept = c.loop-area.invariant in
    let read = c.in_ok-read_on.ensures in
    let old = c.loop-area.bytes.items in
    let new = c.read_on.new.bytes.items in
    let nothing : ReadsNothing old = subst ReadsNothing c.as_slice.ensures.value (c.is_enough.ensures.nothing (search rules)) in
    let at_most : (length new ≤ first_read) ⊎ (length new ≤ 2 * length old) = search rules in
    record {
      prefix = λ honest.
          let before = c.read_on.ensures.only_read.was_honest honest in
          let same = kept.only_read.same_seen before in
          let more = subst (λ (l : List ℕ). IsPrefixOf c.args.area.start old l → IsPrefixOf c.args.area.start new l) same (read.bytes honest) in
          more (kept.prefix before);
      within = read.within;
      short = still_short old new (length old) refl (search rules) nothing at_most;
      images = λ honest image.
          let before = kept.images (c.read_on.ensures.only_read.was_honest honest) image in
          let here = c.read_on.ensures.images honest image in
          (λ now. before.0 (here.0 now), λ was. here.1 (before.1 was));
      only_read = read_twice disk.honest disk.seen disk.size disk.moment disk.images disk.images_since g.met.D.Disk.counts_now
          c.args.disk.now c.loop-area.disk c.read_on.new.disk kept.only_read c.read_on.ensures.only_read;
      faults = search rules;
    }

pub returns-clause-alike : goal.returns-clause-alike
returns-clause-alike g c = λ honest.
    let kept = c.loop-area.invariant in
    let bytes = c.loop-area.bytes.items in
    let enough : (length bytes ≡ c.args.area.len) ⊎ ReadsSomething bytes =
    subst (λ (l : List ℕ). (length l ≡ c.args.area.len) ⊎ ReadsSomething l) c.as_slice.ensures.value
    (c.is_enough.ensures.enough (search rules)) in
    alike c.args.area.start c.args.area.len bytes (g.D.Disk.seen c.args.disk.now) (kept.prefix honest) (search rules) enough
