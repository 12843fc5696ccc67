use Rattle.std.proofs.Common.{◌≡◌, ◌∙◌, ◌≤◌, sym, ap, arith}
use Rattle.std.specs.Prelude.{None, Some, length, slice_get}
use Rattle.std.specs.Option.{option_copied}
use Rattle.service_views.proofs.FollowingLemmas.{found_at, none_is_past}
use Rattle.service_views.proofs.KeepingLemmas.{notes_end, notes_next}
use Rattle.service_views.proofs.kept.Kept.note_new.Goals.{in-Some, in_default}
use Rattle.service_views.proofs.kept.Kept.note_new.Goals as goal

pub loop-index-preserved : goal.loop-index-preserved
loop-index-preserved g c =
    let history = c.args.store.now.history in
    let index = c.loop-index.index in
    let taken = c.args.self.now.changes.taken in
    let order : taken ≤ index = omega (arith, c.taken-index.ensures, c.loop-index.auto.index) in
    elim c.match-entry.branch [
      | in-Some w ↦
          let found : slice_get history index ≡ Some w.in-Some.entry.now =
          sym (found_at history index (option_copied c.entry.result) c.entry.ensures) ∙ ap option_copied w.in-Some.is in
          rw w.self-is
          (record {
            notes = notes_next history taken index w.in-Some.entry.now c.args.now c.args.self.now c.loop-index.self w.note.new.self
                order found c.loop-index.invariant.notes w.note.ensures;
            stays = λ less. omega (arith, less, order, c.loop-index-test.true, c.covered-index-end.ensures.value);
          })
      | in_default w ↦
          let none : slice_get history index ≡ None =
          sym (found_at history index (option_copied c.entry.result) c.entry.ensures) ∙ ap option_copied w.in_default.is in
          let past : length history ≤ index = none_is_past history index none in
          absurd (omega (arith, past, c.loop-index-test.true, c.covered-index-end.ensures.value, c.covered-index-end.ensures.within))
    ]

pub returns : goal.returns
returns g c =
    let taken = c.args.self.now.changes.taken in
    let covered = c.args.store.now.covered in
    let index = c.loop-index.index in
    let past : covered ≤ index = omega (arith, c.loop-index-test.false, c.covered-index-end.ensures.value) in
    let within : taken ≤ covered → index ≤ covered = λ order.
    let begins : c.taken-index.result ≤ c.covered-index-end.result = omega (arith, order, c.taken-index.ensures, c.covered-index-end.ensures.value) in
    omega (arith, c.loop-index.auto.index-end begins, c.covered-index-end.ensures.value) in
    notes_end c.args.store.now.history taken index covered c.args.now c.args.self.now c.loop-index.self past within
    c.loop-index.invariant.stays c.loop-index.invariant.notes
