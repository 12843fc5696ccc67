use Rattle.std.specs.Prelude.{IfSome}
use Rattle.std.proofs.Common.{◌≡◌, ◌<◌, List, Ok, ap, length, subst, sym, ◌∙◌}
use Rattle.table_model.specs.Settling.{arrived}
use Rattle.table_model.specs.Runs.{again, run_at, with_run, RunState}
use Rattle.table_model.specs.Sound.{RunsAreSound}
use Rattle.table_model.specs.declared.holder.Holder.TheVariants.{Run}
use Rattle.table_model.specs.declared.phases.RunPhase.TheVariants as run
use Rattle.table_runs.proofs.Added.{due_rerun, kept_beside_rerun, rerun_waits}
use Rattle.table_runs.proofs.Entered.{arrives}
use Rattle.table_runs.proofs.runs.Runs.rerun.Goals as goal
use Rattle.wf_value.proofs.PassedOn.{same_Ok}

pub enter-to_stop-requires-clause-sound : goal.enter-to_stop-requires-clause-sound
enter-to_stop-requires-clause-sound c =
    subst (λ (rs : List RunState). RunsAreSound rs) (same_Ok _ _ c.in_ok-rerun.ensures.again)
    (subst (λ (rs : List RunState). RunsAreSound (with_run c.args.r again rs)) (sym c.self.view_is) c.requires.begun)

pub enter-to_stop-requires-clause-waits : goal.enter-to_stop-requires-clause-waits
enter-to_stop-requires-clause-waits c =
    rerun_waits c.self.inside.rows.runs c.rerun.new.self.runs c.args.r
    (subst (λ (rs : List RunState). c.args.r < length rs) (sym c.self.view_is) c.requires.within)
    (subst (λ (rs : List RunState). IfSome (run_at rs c.args.r) (λ x. x.phase ≡ run.Ended)) (sym c.self.view_is) c.requires.ended)
    (sym (same_Ok _ _ c.in_ok-rerun.ensures.again))

pub enter-to_stop-requires-clause-beside : goal.enter-to_stop-requires-clause-beside
enter-to_stop-requires-clause-beside c =
    kept_beside_rerun c.self.inside.rows c.rerun.new.self c.self.inside.book c.rerun.new.book c.args.r
    (subst (λ (rs : List RunState). c.args.r < length rs) (sym c.self.view_is) c.requires.within)
    (subst (λ (rs : List RunState). IfSome (run_at rs c.args.r) (λ x. x.phase ≡ run.Ended)) (sym c.self.view_is) c.requires.ended)
    (sym (same_Ok _ _ c.in_ok-rerun.ensures.again))
    (subst (λ (rs : List RunState). RunsAreSound rs) (sym c.self.view_is) c.requires.sound)
    (subst (λ (rs : List RunState). RunsAreSound (with_run c.args.r again rs)) (sym c.self.view_is) c.requires.begun) c.self.invariant.0
    c.rerun.ensures.entries (c.in_ok-rerun.ensures.told c.self.invariant.0.told) c.in_ok-rerun.ensures.tickets c.rerun.ensures.expected

pub returns-clause-again : goal.returns-clause-again
returns-clause-again c =
    let items = c.self.inside.rows.runs in
    let next = c.rerun.new.self in
    let r = c.args.r in
    let within = subst (λ (rs : List RunState). r < length rs) (sym c.self.view_is) c.requires.within in
    let ended = subst (λ (rs : List RunState). IfSome (run_at rs r) (λ x. x.phase ≡ run.Ended)) (sym c.self.view_is) c.requires.ended in
    let is_next : next.runs ≡ with_run r again items = sym (same_Ok _ _ c.in_ok-rerun.ensures.again) in
    let sound = subst (λ (rs : List RunState). RunsAreSound rs) (sym c.self.view_is) c.requires.sound in
    let begun = subst (λ (rs : List RunState). RunsAreSound (with_run r again rs)) (sym c.self.view_is) c.requires.begun in
    let waiting = rerun_waits items next.runs r within ended is_next in
    let kept = kept_beside_rerun c.self.inside.rows next c.self.inside.book c.rerun.new.book r within ended is_next sound begun c.self.invariant.0
    c.rerun.ensures.entries (c.in_ok-rerun.ensures.told c.self.invariant.0.told) c.in_ok-rerun.ensures.tickets c.rerun.ensures.expected in
    let all = arrives next.runs c.enter-to_stop.new.rows.runs c.stop_running.new.self next.bindings c.rerun.new.book (Run r) c.enter-to_stop.result
    (subst (λ (rs : List RunState). RunsAreSound rs) (sym is_next) begun) waiting kept c.enter-to_stop.ensures.displaced
    c.enter-to_stop.ensures.to_stop c.stop_running.ensures in
    ap Ok
    (sym (all ∙ ap (λ (rs : List RunState). (arrived (Run r) rs).runs) is_next
    ∙ ap (λ (rs : List RunState). (arrived (Run r) (with_run r again rs)).runs) c.self.view_is))

pub enter-to_stop-requires-clause-due : goal.enter-to_stop-requires-clause-due
enter-to_stop-requires-clause-due c =
    due_rerun c.self.inside.rows.runs c.rerun.new.self.runs c.self.inside.due c.mark.new.self c.args.r
    (subst (λ (rs : List RunState). c.args.r < length rs) (sym c.self.view_is) c.requires.within)
    (subst (λ (rs : List RunState). IfSome (run_at rs c.args.r) (λ x. x.phase ≡ run.Ended)) (sym c.self.view_is) c.requires.ended)
    (sym (same_Ok _ _ c.in_ok-rerun.ensures.again))
    (subst (λ (rs : List RunState). RunsAreSound rs) (sym c.self.view_is) c.requires.sound) c.mark.ensures.keeps c.mark.ensures.puts
    c.self.invariant.1
