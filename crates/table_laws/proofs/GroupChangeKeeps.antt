-- Each single change preserves the law of its group, and the moves determine the state after it.
use Rattle.std.proofs.Common.{◌≡◌, List, [], ◌∷◌, ◌++◌, Bool, true, false, ◌&&◌, ◌||◌, not, Some, None}
use Rattle.std.proofs.Common.{refl, ap, ap₂, sym, subst, ◌∙◌, append_assoc}
use Rattle.std.proofs.lemmas.List.{append-nil}
use Rattle.std.proofs.lemmas.Bool.{and_right, not-true, or_right}
use Rattle.std.proofs.lemmas.Option.{none-some}
use Rattle.wf_value.specs.declared.outcome.Outcome.{Outcome}
use Rattle.wf_value.specs.declared.outcome.Outcome.TheVariants.{Cancelled}
use Rattle.table_model.specs.Groups.{GroupState}
use Rattle.table_model.specs.GroupLaw.{has_arrived, has_ended, has_started, was_stopped, is_pending, is_in_progress, is_the, same_holder}
use Rattle.table_model.specs.GroupLaw.{Move, KeepsLaw}
use Rattle.table_laws.specs.GroupChanges.{Change, Matches, MayAllBe, MayBe, after_all, changed, moves_of, moves_of_all}
use Rattle.table_laws.proofs.GroupArrival.{arrival_matches, arrival_walks}
use Rattle.table_laws.proofs.GroupLawWalk.{Lawful, law_goes_on}
use Rattle.table_laws.proofs.GroupSaid.{latest_on, pending_on, in_progress_on, runs_started, stopped_on}
use Rattle.table_laws.proofs.GroupSaid.{the_same, waits_unstarted}
use Rattle.table_laws.proofs.GroupTruths.{not_both, pending_after_end, pending_after_start, pending_after_stop}
use Rattle.table_laws.proofs.GroupTruths.{pending_after_withdrawal, in_progress_after_arrival, in_progress_after_end, in_progress_after_start}
use Rattle.table_laws.proofs.GroupTruths.{or_false, in_progress_after_stop}
use Rattle.table_laws.proofs.ListWalk.{Walk}
use Rattle.table_laws.proofs.OnlyStops.{told_then}
use Rattle.table_model.specs.declared.holder.Holder.{Holder}

-- ---- a pending holder does not run

waits : (g : GroupState) (moves : List Move) (h : Holder) → Matches g moves → g.pending ≡ Some h → is_pending h moves ≡ true
waits g moves h is one = is.pending h ∙ the_same g.pending h one

runs : (g : GroupState) (moves : List Move) (h : Holder) → Matches g moves → g.in_progress ≡ Some h → is_in_progress h moves ≡ true
runs g moves h is one = is.in_progress h ∙ the_same g.in_progress h one

waiting_runs_not : (g : GroupState) (moves : List Move) (h : Holder) → Matches g moves → g.pending ≡ Some h → is_the g.in_progress h ≡ false
waiting_runs_not g moves h is one =
    sym (is.in_progress h)
    ∙ ap (λ s. s && not (has_ended h moves)) (not-true (has_started h moves) (waits_unstarted h moves (waits g moves h is one)).0)

in_progress_waits_not : (g : GroupState) (moves : List Move) (h : Holder) → Matches g moves → g.in_progress ≡ Some h → is_the g.pending h ≡ false
in_progress_waits_not g moves h is one =
    sym (is.pending h)
    ∙ ap (λ s. has_arrived h moves && (not s && not (has_ended h moves))) (runs_started h moves (runs g moves h is one))
    ∙ and_right (has_arrived h moves) false refl

-- ---- the pending holder starts

start_walks : (cancels : Holder → Bool) (g : GroupState) (moves : List Move) (k : Holder) → g.in_progress ≡ None → g.pending ≡ Some k
    → Matches g moves → Walk (Lawful cancels) moves (Move.start k ∷ [])
start_walks cancels g moves k idle one is = (
  (
    λ other. is.in_progress other ∙ ap (λ o. is_the o other) idle,
    is.latest k one,
    not-true (has_ended k moves) (waits_unstarted k moves (waits g moves k is one)).1,
  ),
  tt,
)

start_matches : (cancels : Holder → Bool) (g : GroupState) (moves : List Move) (k : Holder) → g.in_progress ≡ None → g.pending ≡ Some k
    → Matches g moves → Matches (changed cancels g (Change.beginning k)) (moves ++ Move.start k ∷ [])
start_matches cancels g moves k idle one is =
    let more : List Move = Move.start k ∷ [] in
    let own : (h : Holder) → is_pending h moves ≡ same_holder h k = λ h. is.pending h ∙ ap (λ o. is_the o h) one in
    record {
      in_progress = λ h.
          in_progress_on h moves more (same_holder h k) false (or_false (same_holder h k)) refl
          ∙ ap (λ q. (has_started h moves || q) && not (has_ended h moves || false)) (sym (own h))
          ∙ in_progress_after_start (has_arrived h moves) (has_started h moves) (has_ended h moves)
          (is.in_progress h ∙ ap (λ o. is_the o h) idle)
          ∙ own h;
      stopping = λ h same. stopped_on h moves more ∙ or_false (was_stopped h moves) ∙ is.unstopped h (one ∙ same);
      pending = λ h.
          pending_on h moves more false (same_holder h k) false refl (or_false (same_holder h k)) refl
          ∙ ap (λ q. (has_arrived h moves || false) && (not (has_started h moves || q) && not (has_ended h moves || false))) (sym (own h))
          ∙ pending_after_start (has_arrived h moves) (has_started h moves) (has_ended h moves);
      latest = λ h same. absurd (none-some h same);
      unstopped = λ h same. absurd (none-some h same);
    }

-- ---- the holder in progress is asked to stop

stop_matches : (cancels : Holder → Bool) (g : GroupState) (moves : List Move) (k : Holder) → g.in_progress ≡ Some k → Matches g moves
    → Matches (changed cancels g (Change.stop_request k)) (moves ++ Move.stop k ∷ [])
stop_matches cancels g moves k one is =
    let more : List Move = Move.stop k ∷ [] in
    record {
      in_progress = λ h.
          in_progress_on h moves more false false refl refl ∙ in_progress_after_stop (has_started h moves) (has_ended h moves) ∙ is.in_progress h;
      stopping = λ h same.
          stopped_on h moves more
          ∙ ap (λ b. was_stopped h moves || (b || false)) (the_same (Some k) h (sym one ∙ same))
          ∙ or_right (was_stopped h moves) true refl;
      pending = λ h.
          pending_on h moves more false false false refl refl refl
          ∙ pending_after_stop (has_arrived h moves) (has_started h moves) (has_ended h moves)
          ∙ is.pending h;
      latest = λ h same. latest_on moves more ∙ is.latest h same;
      unstopped = λ h same.
          stopped_on h moves more
          ∙ ap₂ (λ a b. a || (b || false)) (is.unstopped h same) (ap (λ o. is_the o h) (sym one) ∙ waiting_runs_not g moves h is same);
    }

-- ---- the holder in progress ends

end_walks : (cancels : Holder → Bool) (g : GroupState) (moves : List Move) (r : Outcome) (k : Holder) → g.in_progress ≡ Some k
    → Matches g moves → Walk (Lawful cancels) moves (Move.end_with r k ∷ [])
end_walks cancels g moves r k one is =
    (λ unstarted _. absurd (not_both (has_started k moves) (runs_started k moves (runs g moves k is one)) unstarted), tt)

end_matches : (cancels : Holder → Bool) (g : GroupState) (moves : List Move) (r : Outcome) (k : Holder) → g.in_progress ≡ Some k
    → Matches g moves → Matches (changed cancels g (Change.ending r k)) (moves ++ Move.end_with r k ∷ [])
end_matches cancels g moves r k one is =
    let more : List Move = Move.end_with r k ∷ [] in
    let own : (h : Holder) → is_in_progress h moves ≡ same_holder h k = λ h. is.in_progress h ∙ ap (λ o. is_the o h) one in
    record {
      in_progress = λ h.
          in_progress_on h moves more false (same_holder h k) refl (or_false (same_holder h k))
          ∙ ap (λ q. (has_started h moves || false) && not (has_ended h moves || q)) (sym (own h))
          ∙ in_progress_after_end (has_started h moves) (has_ended h moves);
      stopping = λ h same. absurd (none-some h same);
      pending = λ h.
          pending_on h moves more false false (same_holder h k) refl refl (or_false (same_holder h k))
          ∙ ap (λ q. (has_arrived h moves || false) && (not (has_started h moves || false) && not (has_ended h moves || q))) (sym (own h))
          ∙ pending_after_end (has_arrived h moves) (has_started h moves) (has_ended h moves)
          ∙ is.pending h;
      latest = λ h same. latest_on moves more ∙ is.latest h same;
      unstopped = λ h same. stopped_on h moves more ∙ or_false (was_stopped h moves) ∙ is.unstopped h same;
    }

-- ---- the pending holder is asked to stop, and so ends

withdrawal_walks : (cancels : Holder → Bool) (moves : List Move) (k : Holder)
    → Walk (Lawful cancels) moves (Move.stop k ∷ Move.end_with Cancelled k ∷ [])
withdrawal_walks cancels moves k =
    (tt, (λ _ unstopped. absurd (not_both (was_stopped k (moves ++ Move.stop k ∷ [])) (told_then moves k) unstopped), tt))

withdrawal_matches : (cancels : Holder → Bool) (g : GroupState) (moves : List Move) (k : Holder) → g.pending ≡ Some k → Matches g moves
    → Matches (changed cancels g (Change.withdrawal k)) (moves ++ Move.stop k ∷ Move.end_with Cancelled k ∷ [])
withdrawal_matches cancels g moves k one is =
    let more : List Move = Move.stop k ∷ Move.end_with Cancelled k ∷ [] in
    let own : (h : Holder) → is_pending h moves ≡ same_holder h k = λ h. is.pending h ∙ ap (λ o. is_the o h) one in
    record {
      in_progress = λ h.
          in_progress_on h moves more false (same_holder h k) refl (or_false (same_holder h k))
          ∙ ap (λ q. (has_started h moves || false) && not (has_ended h moves || q)) (sym (own h))
          ∙ in_progress_after_arrival (has_arrived h moves) (has_started h moves) (has_ended h moves)
          ∙ is.in_progress h;
      stopping = λ h same.
          stopped_on h moves more
          ∙ ap₂ (λ a b. a || (b || false)) (is.stopping h same) (ap (λ o. is_the o h) (sym one) ∙ in_progress_waits_not g moves h is same)
          ∙ or_false g.stopping;
      pending = λ h.
          pending_on h moves more false false (same_holder h k) refl refl (or_false (same_holder h k))
          ∙ ap (λ q. (has_arrived h moves || false) && (not (has_started h moves || false) && not (has_ended h moves || q))) (sym (own h))
          ∙ pending_after_withdrawal (has_arrived h moves) (has_started h moves) (has_ended h moves);
      latest = λ h same. absurd (none-some h same);
      unstopped = λ h same. absurd (none-some h same);
    }

-- ---- every change

change_walks : (cancels : Holder → Bool) (g : GroupState) (moves : List Move) (c : Change) → MayBe g moves c → Matches g moves
    → Walk (Lawful cancels) moves (moves_of cancels g c)
change_walks cancels g moves (Change.arrival k) may is = arrival_walks cancels g moves k is
change_walks cancels g moves (Change.beginning k) may is = start_walks cancels g moves k may.0 may.1 is
change_walks cancels g moves (Change.stop_request k) may is = (tt, tt)
change_walks cancels g moves (Change.ending r k) may is = end_walks cancels g moves r k may is
change_walks cancels g moves (Change.withdrawal k) may is = withdrawal_walks cancels moves k

pub change_keeps_law : (cancels : Holder → Bool) (g : GroupState) (moves : List Move) (c : Change) → MayBe g moves c
    → KeepsLaw cancels moves → Matches g moves → KeepsLaw cancels (moves ++ moves_of cancels g c)
change_keeps_law cancels g moves c may law is =
    law_goes_on cancels moves (moves_of cancels g c) law (change_walks cancels g moves c may is)

pub change_matches : (cancels : Holder → Bool) (g : GroupState) (moves : List Move) (c : Change) → MayBe g moves c → Matches g moves
    → Matches (changed cancels g c) (moves ++ moves_of cancels g c)
change_matches cancels g moves (Change.arrival k) may is = arrival_matches cancels g moves k may is
change_matches cancels g moves (Change.beginning k) may is = start_matches cancels g moves k may.0 may.1 is
change_matches cancels g moves (Change.stop_request k) may is = stop_matches cancels g moves k may.0 is
change_matches cancels g moves (Change.ending r k) may is = end_matches cancels g moves r k may is
change_matches cancels g moves (Change.withdrawal k) may is = withdrawal_matches cancels g moves k may is

-- ---- and any list of changes

pub changes_keep_law : (cancels : Holder → Bool) (g : GroupState) (moves : List Move) (cs : List Change)
    → MayAllBe cancels g moves cs → KeepsLaw cancels moves → Matches g moves → KeepsLaw cancels (moves ++ moves_of_all cancels g cs)
changes_keep_law cancels g moves [] may law is = subst (λ ms. KeepsLaw cancels ms) (sym (append-nil moves)) law
changes_keep_law cancels g moves (c ∷ cs) may law is =
    subst (λ ms. KeepsLaw cancels ms)
    (append_assoc moves (moves_of cancels g c) (moves_of_all cancels (changed cancels g c) cs))
    (changes_keep_law cancels (changed cancels g c) (moves ++ moves_of cancels g c) cs may.1 (change_keeps_law cancels g moves c may.0
    law is)
    (change_matches cancels g moves c may.0 is))

pub changes_match : (cancels : Holder → Bool) (g : GroupState) (moves : List Move) (cs : List Change)
    → MayAllBe cancels g moves cs → Matches g moves → Matches (after_all cancels g cs) (moves ++ moves_of_all cancels g cs)
changes_match cancels g moves [] may is = subst (λ ms. Matches g ms) (sym (append-nil moves)) is
changes_match cancels g moves (c ∷ cs) may is =
    subst (λ ms. Matches (after_all cancels (changed cancels g c) cs) ms)
    (append_assoc moves (moves_of cancels g c) (moves_of_all cancels (changed cancels g c) cs))
    (changes_match cancels (changed cancels g c) (moves ++ moves_of cancels g c) cs may.1 (change_matches cancels g moves c may.0 is))
