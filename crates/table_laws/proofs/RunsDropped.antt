-- What is known about a group goes on where the first runs of a table are dropped and no holder of them is in progress or pending. No move is
-- made: the moves so far are the same, by the same names.
use Rattle.std.specs.Prelude.{◌≡◌, ℕ, ◌+◌, ◌≤◌, ◌<◌, List, map, Bool, true, false, Some, None, if◌then◌else◌}
use Rattle.std.proofs.Common.{arith, ap, ap₂, sym, ◌∙◌, subst}
use Rattle.std.proofs.lemmas.Bool.{leb-false}
use Rattle.group_name.specs.Group.{Group}
use Rattle.table_model.specs.GroupLaw.{has_arrived, has_started, latest, Move}
use Rattle.table_model.specs.Groups.{holds, is_in, waits}
use Rattle.table_model.specs.Holders.{run_of}
use Rattle.table_model.specs.TableState.{TableState}
use Rattle.settling_laws.specs.Moved.{moved}
use Rattle.settling_laws.proofs.MovedHolders.{moved_down}
use Rattle.table_laws.specs.Names.{Names, attempt_of, by_id, name_in, renamed}
use Rattle.table_laws.proofs.Agrees.{Agrees}
use Rattle.table_laws.proofs.Forgotten.{forgets, latest_kept}
use Rattle.table_laws.proofs.HistoryNames.{AreNamed, agrees_by, later_is_new}
use Rattle.table_laws.proofs.HistoryStep.{SoFar, arrived_in_it}
use Rattle.table_laws.proofs.HolderStatus.{Fits, Status, is_waiting, status, waits_as}
use Rattle.table_laws.proofs.HoldersMoved.{fits_down, moved_stays, own_remaining, remaining, remaining_agree, stays}
use Rattle.table_laws.proofs.OwnMoves.{arrived_by_own, of_group, own, own_of_group, started_by_own}
use Rattle.table_laws.proofs.PendingSoFar.{idle_so_far, pending_is_newest, settled_by_now}
use Rattle.table_laws.proofs.Through.{agrees_through}
use Rattle.table_laws.proofs.Unbegun.{Unbegun}
use Rattle.table_model.specs.declared.holder.Holder.{Holder}

-- The second table is the first without its first k runs, as far as the group sees: each holder is as the same one in the first, and no holder
-- of a dropped run is in progress or pending.
pub record Drops (g : Group) (k : ℕ) (t next : TableState) : Type 0 where
  pub same_id : (h : Holder) → by_id next h ≡ by_id t (moved k h)
  pub same_attempt : (h : Holder) → attempt_of next.runs h ≡ attempt_of t.runs (moved k h)
  pub same_status : (h : Holder) → status next.runs h ≡ status t.runs (moved k h)
  pub same_group : (h : Holder) → is_in next.runs g h ≡ is_in t.runs g (moved k h)
  pub still_unbegun : (h : Holder) → Unbegun t.runs (moved k h) → Unbegun next.runs h
  pub are_over : (h : Holder) → run_of h < k → (holds t.runs h ≡ false) × (waits t.runs h ≡ false)

module _ (names : Names) (g : Group) (requests : Holder → Bool) (k : ℕ) (t next : TableState) (drops : Drops g k t next) (whole : List Move)
    (so_far : SoFar names g requests t whole) where
  abbrev kept : List Move
  kept = of_group (stays k) so_far.now

  abbrev now : List Move
  now = remaining k so_far.now

  -- ---- the names

  -- a holder of a dropped run gets a name that has made no move
  abbrev by_then : Bool → Holder → Holder
  by_then b h = if b then name_in names t h else names.name (attempt_of t.runs h + 1) (by_id t h)

  abbrev then_named : Holder → Holder
  then_named h = by_then (stays k h) h

  of_a_dropped_run : (h : Holder) → stays k h ≡ false → run_of h < k
  of_a_dropped_run h gone = leb-false k (run_of h) gone

  kept_agree : Agrees then_named kept whole
  kept_agree =
      forgets (name_in names t) then_named (stays k) so_far.now whole (λ h is. ap (λ b. by_then b h) is)
      (λ h gone.
      ap (λ b. own (by_then b h) whole) gone ∙ later_is_new names t whole so_far.named (attempt_of t.runs h + 1) h (no_less (attempt_of t.runs h)))
      (λ h gone. idle_so_far names g requests t whole so_far h (drops.are_over h (of_a_dropped_run h gone)))
      (pending_is_newest names g requests t whole so_far) (settled_by_now names g requests t whole so_far (stays k)) so_far.agrees
    where
      no_less : (n : ℕ) → n + 1 ≤ n → ⊥
      no_less n le = omega (arith, le)

  same_name : (h : Holder) → name_in names next h ≡ then_named (moved k h)
  same_name h = ap₂ names.name (drops.same_attempt h) (drops.same_id h) ∙ ap (λ b. by_then b (moved k h)) (sym (moved_stays k h))

  now_agree : Agrees (name_in names next) now whole
  now_agree =
      agrees_by (λ h. then_named (moved k h)) (name_in names next) now whole same_name
      (agrees_through (moved k) then_named now kept whole (remaining_agree k so_far.now) kept_agree)

  named_then : AreNamed names next whole
  named_then n some =
      let from = so_far.named n some in (
        from.0,
        from.1,
        from.2,
        λ h is.
            let below : from.0 ≤ attempt_of t.runs (moved k h) = from.3 (moved k h) (is ∙ drops.same_id h) in
            subst (λ a. from.0 ≤ a) (sym (drops.same_attempt h)) below,
      )

  -- ---- the holders

  newest_then : (h : Holder) → is_in next.runs g h ≡ true → waits next.runs h ≡ true → latest now ≡ Some h
  newest_then h is e =
      let waited : waits t.runs (moved k h) ≡ true =
      waits_as t.runs (moved k h) ∙ ap is_waiting (sym (drops.same_status h)) ∙ sym (waits_as next.runs h) ∙ e in
      (remaining_agree k so_far.now).latest_named h
      (latest_kept (stays k) so_far.now None None (moved k h) (moved_stays k h) (λ same. same)
      (so_far.newest (moved k h) (sym (drops.same_group h) ∙ is) waited))

  unbegun_then : (h : Holder) → has_arrived h now ≡ true → has_started h now ≡ false → Unbegun next.runs h
  unbegun_then h arrives unstarted =
      let it = moved k h in
      let its : own it kept ≡ own it so_far.now = own_of_group (stays k) it so_far.now (moved_stays k h) in
      let came : has_arrived it so_far.now ≡ true =
      sym (arrived_by_own it so_far.now) ∙ ap (has_arrived it) (sym its) ∙ arrived_by_own it kept ∙ (remaining_agree k so_far.now).arrived h
      ∙ arrives in
      let not_yet : has_started it so_far.now ≡ false =
      sym (started_by_own it so_far.now) ∙ ap (has_started it) (sym its) ∙ started_by_own it kept ∙ (remaining_agree k so_far.now).started h
      ∙ unstarted in
      drops.still_unbegun h (so_far.unbegun it (arrived_in_it names g requests t whole so_far it came) came not_yet)

  pub dropped_goes_on : SoFar names g requests next whole
  dropped_goes_on = record {
    now = now;
    each = (λ h is.
        subst (λ (s : Status). Fits s h (own h now)) (sym (drops.same_status h))
        (fits_down k (status t.runs (moved k h)) h so_far.now (so_far.each (moved k h) (sym (drops.same_group h) ∙ is))));
    others = (λ h isnt.
        own_remaining k h so_far.now ∙ ap (map (renamed (moved_down k))) (so_far.others (moved k h) (sym (drops.same_group h) ∙ isnt)));
    newest = newest_then;
    unbegun = (λ h is. unbegun_then h);
    agrees = now_agree;
    named = named_then;
    law = so_far.law;
  }
