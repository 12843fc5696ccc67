use Rattle.std.proofs.Common.{◌≡◌, ◌∙◌, ◌≤◌, ◌∷◌, ◌++◌, [], ℕ, List, sym, ap, arith}
use Rattle.std.specs.Prelude.{None, Some, length, slice_get}
use Rattle.std.specs.Option.{option_copied}
use Rattle.service_views.specs.Following.{cancelled_in}
use Rattle.service_views.proofs.FollowingLemmas.{cancelled_next, found_at, none_is_past}
use Rattle.service_views.proofs.changes.cancelled_since.Goals.{in-Some+in_ok-push_cancelled, in_default}
use Rattle.service_views.proofs.changes.cancelled_since.Goals as goal

pub loop-index-preserved : goal.loop-index-preserved
loop-index-preserved g c =
    elim c.match-entry.branch [
      | in-Some+in_ok-push_cancelled w ↦
          let found : slice_get c.args.store.now.history c.loop-index.index ≡ Some w.in-Some.entry.now =
          sym (found_at c.args.store.now.history c.loop-index.index (option_copied c.entry.result) c.entry.ensures)
          ∙ ap option_copied w.in-Some.is in
          rw w.runs-is
          (record {
            runs = w.in_ok-push_cancelled.ensures
                ∙ ap (λ (runs : List ℕ). runs ++ cancelled_in (w.in-Some.entry.now ∷ [])) c.loop-index.invariant.runs
                ∙ cancelled_next c.args.store.now.history c.args.taken c.loop-index.index w.in-Some.entry.now c.loop-index.auto.index found;
            stays = λ less. omega (arith, less, c.loop-index.auto.index, c.loop-index-test.true, c.covered-index-end.ensures.value);
          })
      | in_default w ↦
          let none : slice_get c.args.store.now.history c.loop-index.index ≡ None =
          sym (found_at c.args.store.now.history c.loop-index.index (option_copied c.entry.result) c.entry.ensures)
          ∙ ap option_copied w.in_default.is in
          let past : length c.args.store.now.history ≤ c.loop-index.index = none_is_past c.args.store.now.history c.loop-index.index none in
          absurd (omega (arith, past, c.loop-index-test.true, c.covered-index-end.ensures.value, c.covered-index-end.ensures.within))
    ]
