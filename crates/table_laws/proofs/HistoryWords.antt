-- What follows from the law of a group over all commands.
use Rattle.std.specs.Prelude.{◌≡◌, ◌≤◌, List, [], ◌∷◌, ◌++◌, ◌&&◌, ◌||◌, length, not, Bool, true, false, Some, None, refl}
use Rattle.std.proofs.Common.{ap, sym, ◌∙◌}
use Rattle.std.proofs.lemmas.Bool.{and_parts, or_right, true≢false}
use Rattle.wf_value.specs.declared.outcome.Outcome.{Outcome}
use Rattle.group_name.specs.Group.{Group}
use Rattle.run_plan.specs.declared.command.Command.{Command}
use Rattle.table_model.specs.GroupLaw.{has_arrived, has_ended, has_started, next_displaced, was_stopped, Move}
use Rattle.table_model.specs.Groups.{pending_in, in_progress_in}
use Rattle.table_model.specs.Step.{after}
use Rattle.table_model.specs.Runs.{leg_at, run_at, RunState}
use Rattle.table_model.specs.Sound.{IsSound}
use Rattle.table_model.specs.TableState.{TableState}
use Rattle.table_model.specs.declared.phases.LegPhase.{LegPhase}
use Rattle.table_model.specs.declared.phases.LegPhase.TheVariants as leg
use Rattle.table_model.specs.declared.phases.RunPhase.{RunPhase}
use Rattle.table_model.specs.declared.phases.RunPhase.TheVariants as run
use Rattle.settling_laws.proofs.ArrivalKeeps.{itself}
use Rattle.table_laws.specs.GroupHistories.{NeverBegan, all_moves, requests_cancellation}
use Rattle.table_laws.specs.Names.{Names, name_in}
use Rattle.table_laws.proofs.GroupFollows.{displaced_by_a_later_one, displaced_never_starts, displaced_waits, first_has_ended}
use Rattle.table_laws.proofs.GroupSaid.{arrived_on, ended_on}
use Rattle.table_laws.proofs.HistoryLaw.{group_keeps_law, told_so_far}
use Rattle.table_laws.proofs.HistoryStep.{arrived_in_it}
use Rattle.table_laws.proofs.HolderStatus.{Fits, Status, leg_status, run_status, status, status_by, status_of_leg, status_of_run}
use Rattle.table_laws.proofs.HoldersOnce.{one_pending, one_in_progress}
use Rattle.table_laws.proofs.OwnMoves.{arrived_by_own, ended_by_own, own}
use Rattle.table_laws.proofs.ReachedTables.{after_is_sound}
use Rattle.table_laws.proofs.Unbegun.{Unbegun}
use Rattle.table_model.specs.declared.holder.Holder.{Holder}
use Rattle.table_model.specs.declared.holder.Holder.TheVariants.{Run, Leg}

-- ---- starts and ends

pub nobody_else_starts : (names : Names) (t : TableState) (cs : List Command) (g : Group) (before between after_it : List Move) (h k : Holder)
    → IsSound t → all_moves names g t cs ≡ before ++ Move.start h ∷ (between ++ Move.start k ∷ after_it) → has_ended h between ≡ true
nobody_else_starts names t cs g before between after_it h k s e =
    first_has_ended (requests_cancellation names g t cs) (all_moves names g t cs) before between after_it h k (group_keeps_law names t cs g s) e

pub only_a_later_one : (names : Names) (t : TableState) (cs : List Command) (g : Group) (before after_it : List Move) (r : Outcome) (h : Holder)
    → IsSound t → all_moves names g t cs ≡ before ++ Move.end_with r h ∷ after_it → has_started h before ≡ false
    → was_stopped h before ≡ false
    → (earlier : List Move) × (newcomer : Holder) × (before ≡ earlier ++ Move.arrive newcomer ∷ []) × (has_arrived h earlier ≡ true)
only_a_later_one names t cs g before after_it r h s e =
    displaced_by_a_later_one (requests_cancellation names g t cs) (all_moves names g t cs) before after_it r h (group_keeps_law names t cs g s) e

-- ---- at most one of each kind

pub one_pending_after : (t : TableState) (cs : List Command) (g : Group) → IsSound t → length (pending_in (after t cs).runs g) ≤ 1
one_pending_after t cs g s = one_pending (after t cs).runs g (after_is_sound t cs s).one_of_each_group

pub one_in_progress_after : (t : TableState) (cs : List Command) (g : Group) → IsSound t → length (in_progress_in (after t cs).runs g) ≤ 1
one_in_progress_after t cs g s = one_in_progress (after t cs).runs g (after_is_sound t cs s).one_of_each_group

-- ---- a displaced holder never begins

-- the status of a holder that has arrived and ended, and never started
over_by : (h : Holder) (s : Status) (moves : List Move) → Fits s h (own h moves) → has_arrived h moves ≡ true → has_ended h moves ≡ true
    → has_started h moves ≡ false → s ≡ Status.over
over_by h Status.unarrived moves fits arrives ends unstarted =
    absurd (true≢false (sym arrives ∙ sym (arrived_by_own h moves) ∙ ap (has_arrived h) fits))
over_by h Status.waiting moves fits arrives ends unstarted =
    absurd (true≢false (sym ends ∙ sym (ended_by_own h moves) ∙ ap (has_ended h) fits))
over_by h (Status.in_progress true) moves fits arrives ends unstarted =
    absurd (true≢false (sym ends ∙ sym (ended_by_own h moves) ∙ ap (has_ended h) fits))
over_by h (Status.in_progress false) moves fits arrives ends unstarted =
    absurd (true≢false (sym ends ∙ sym (ended_by_own h moves) ∙ ap (has_ended h) fits))
over_by h Status.over moves fits arrives ends unstarted = refl

run_over : (phase : RunPhase) (b : Bool) → run_status phase b ≡ Status.over → phase ≡ run.Ended
run_over run.Waiting b e = cc
run_over run.Live b e = cc
run_over run.Ended b e = refl

leg_over : (phase : LegPhase) → leg_status phase ≡ Status.over → (o : Outcome) × (phase ≡ leg.Ended o)
leg_over leg.New e = cc
leg_over leg.Waiting e = cc
leg_over leg.Ready e = cc
leg_over leg.Running e = cc
leg_over leg.Stopping e = cc
leg_over (leg.Ended r) e = (r, refl)

never_began : (runs : List RunState) (h : Holder) → status runs h ≡ Status.over → Unbegun runs h → NeverBegan runs h
never_began runs (Run r) over un =
    elim (run_at runs r) as (λ o. run_at runs r ≡ o → status_by status_of_run o ≡ Status.over → NeverBegan runs (Run r)) [
      | None ↦ λ is e. cc
      | Some x ↦ λ is e.
          let ended = run_over x.phase x.stopping e in
          let its = un x is in
          (x, is, record { ended = ended; all_cancelled = its.cancelled ended; no_legs = its.no_legs })
    ] refl over
never_began runs (Leg p) over un =
    elim (leg_at runs p) as (λ o. leg_at runs p ≡ o → status_by status_of_leg o ≡ Status.over → NeverBegan runs (Leg p)) [
      | None ↦ λ is e. cc
      | Some z ↦ λ is e.
          let ended = leg_over z.phase e in
          let its = un z is in
          (z, is, record { cancelled = ended.1 ∙ ap (λ o. leg.Ended o) (its.cancelled ended.0 ended.1); no_lease = its.no_lease })
    ] refl over

-- by its moves, a displaced holder has arrived and ended, and has not started
pub record IsDisplaced (h : Holder) (moves : List Move) : Type 0 where
  pub arrived : has_arrived h moves ≡ true
  pub ended : has_ended h moves ≡ true
  pub unstarted : has_started h moves ≡ false

pub one_displaced : (names : Names) (t : TableState) (cs : List Command) (g : Group) (before after_it : List Move) (newcomer h : Holder)
    → IsSound t → all_moves names g t cs ≡ before ++ Move.arrive newcomer ∷ after_it → next_displaced before ≡ Some h
    → IsDisplaced h (all_moves names g t cs)
one_displaced names t cs g before after_it newcomer h s e is =
    let moves = all_moves names g t cs in
    let law = group_keeps_law names t cs g s in
    let arrived_before = (and_parts (has_arrived h before) (not (has_started h before) && not (has_ended h before))
    (displaced_waits before h is)).0 in
    let begins = law.displaced_are_cancelled before after_it newcomer h e is in
    let ends_then : has_ended h after_it ≡ true =
    ap (has_ended h) begins.1 ∙ ap (λ b. b || has_ended h begins.0) (itself h) in
    record {
      arrived = ap (has_arrived h) e ∙ arrived_on h before (Move.arrive newcomer ∷ after_it)
          ∙ ap (λ b. b || has_arrived h (Move.arrive newcomer ∷ after_it)) arrived_before;
      ended = ap (has_ended h) e ∙ ended_on h before (Move.arrive newcomer ∷ after_it) ∙ ap (λ b. has_ended h before || b) ends_then
          ∙ or_right (has_ended h before) true refl;
      unstarted = displaced_never_starts (requests_cancellation names g t cs) moves before after_it newcomer h law e is;
    }

pub displaced_never_began : (names : Names) (t : TableState) (cs : List Command) (g : Group) (before after_it : List Move) (newcomer h : Holder)
    → IsSound t → all_moves names g t cs ≡ before ++ Move.arrive newcomer ∷ after_it
    → next_displaced before ≡ Some (name_in names (after t cs) h) → NeverBegan (after t cs).runs h
displaced_never_began names t cs g before after_it newcomer h s e is =
    let runs = (after t cs).runs in
    let so_far = told_so_far names t cs g s in
    let gone = one_displaced names t cs g before after_it newcomer (name_in names (after t cs) h) s e is in
    let arrives = sym (so_far.agrees.arrived h) ∙ gone.arrived in
    let unstarted = sym (so_far.agrees.started h) ∙ gone.unstarted in
    let of_it = arrived_in_it names g (λ n. false) (after t cs) (all_moves names g t cs) so_far h arrives in
    never_began runs h
    (over_by h (status runs h) so_far.now (so_far.each h of_it) arrives (sym (so_far.agrees.ended h) ∙ gone.ended) unstarted)
    (so_far.unbegun h of_it arrives unstarted)
