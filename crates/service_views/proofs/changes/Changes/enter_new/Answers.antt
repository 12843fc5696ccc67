use Rattle.std.proofs.Common.{◌≡◌, ◌∙◌, ◌≤◌, List, sym, ap, arith}
use Rattle.std.specs.Prelude.{None, Some, length, slice_get}
use Rattle.std.specs.Option.{option_copied}
use Rattle.covered_log.specs.Lines.{Change, with_more}
use Rattle.service_views.specs.Following.{entered}
use Rattle.service_views.proofs.FollowingLemmas.{found_at, none_is_past, notes_next_name, told_next}
use Rattle.service_views.proofs.changes.Changes.enter_new.Goals.{in-Some, in_default}
use Rattle.service_views.proofs.changes.Changes.enter_new.Goals as goal

pub loop-index-preserved : goal.loop-index-preserved
loop-index-preserved g c =
    elim c.match-entry.branch [
      | in-Some w ↦
          let found : slice_get c.args.store.now.history c.loop-index.index ≡ Some w.in-Some.entry.now =
          sym (found_at c.args.store.now.history c.loop-index.index (option_copied c.entry.result) c.entry.ensures)
          ∙ ap option_copied w.in-Some.is in
          rw w.self-is
          (record {
            told = w.enter.ensures.told
                ∙ ap (λ (cs : List Change). with_more cs (entered c.args.at w.in-Some.entry.now)) c.loop-index.invariant.told
                ∙ told_next c.args.self.now.log.changes c.args.at c.args.store.now.history c.args.self.now.taken c.loop-index.index
                w.in-Some.entry.now c.loop-index.auto.index found;
            leases = notes_next_name c.args.store.now.history c.args.self.now.taken c.loop-index.index w.in-Some.entry.now c.args.self.now.leases
                c.loop-index.self.leases w.enter.new.self.leases c.loop-index.auto.index found c.loop-index.invariant.leases w.enter.ensures.leases;
            standings = w.enter.ensures.standings ∙ c.loop-index.invariant.standings;
            taken = w.enter.ensures.taken ∙ c.loop-index.invariant.taken;
            stays = λ less. omega (arith, less, c.loop-index.auto.index, c.loop-index-test.true, c.covered-index-end.ensures.value);
          })
      | in_default w ↦
          let none : slice_get c.args.store.now.history c.loop-index.index ≡ None =
          sym (found_at c.args.store.now.history c.loop-index.index (option_copied c.entry.result) c.entry.ensures)
          ∙ ap option_copied w.in_default.is in
          let past : length c.args.store.now.history ≤ c.loop-index.index = none_is_past c.args.store.now.history c.loop-index.index none in
          absurd (omega (arith, past, c.loop-index-test.true, c.covered-index-end.ensures.value, c.covered-index-end.ensures.within))
    ]
