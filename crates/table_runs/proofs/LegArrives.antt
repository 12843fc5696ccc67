-- A new leg is cancelled, if its group is its own run's, or waits. It is not in the book of groups yet; all others are in it as before.
use Rattle.std.specs.Prelude.{◌≡◌, ◌<◌, ℕ, List, length, true, false, Option, None, Some, refl}
use Rattle.std.specs.Option.{option_map_or}
use Rattle.std.proofs.Common.{ap, sym, ◌∙◌}
use Rattle.std.proofs.lemmas.Bool.{true≢false}
use Rattle.group_book.specs.Books.{BookState, slot_in}
use Rattle.group_book.proofs.Exact.{Stays, exact_within, pick}
use Rattle.run_marks.specs.Marked.{is_marked}
use Rattle.table_model.specs.Changes.{changed}
use Rattle.table_model.specs.Groups.{group_at, holds, leg_holds, leg_waits, waits}
use Rattle.table_model.specs.Runs.{leg_at, with_leg, with_run, LegState, RunState, is_new, leg_in_phase}
use Rattle.table_model.specs.inner.Resuming.{is_new_at}
use Rattle.table_model.specs.Settling.{with_leg_in}
use Rattle.table_model.specs.Sound.{RunsAreSound}
use Rattle.table_model.specs.declared.change.Change.TheVariants as change
use Rattle.table_model.specs.declared.holder.Holder.{Holder}
use Rattle.table_model.specs.declared.holder.Holder.TheVariants.{Leg}
use Rattle.table_model.specs.declared.phases.LegPhase.{LegPhase}
use Rattle.table_model.specs.declared.phases.LegPhase.TheVariants as leg
use Rattle.table_model.specs.declared.sites.LegSite.{LegSite}
use Rattle.table_model.proofs.JobKeeps.{with_job_of, with_leg_of}
use Rattle.table_bindings.specs.declared.bindings.RunBindings.{RunBindings}
use Rattle.settling_laws.proofs.KeptBack.{RunsStillFor}
use Rattle.settling_laws.proofs.RuleKeeps.{leg_goes, new_ends, newcomer_waits}
use Rattle.settling_laws.proofs.SoundRuns.{runs_that_fit}
use Rattle.wf_value.specs.declared.outcome.Outcome.TheVariants as outcome
use Rattle.table_runs.specs.inner.Arriving.{ExactBeside, KeptBeside, waits_beside}
use Rattle.table_runs.specs.inner.GroupsKept.{AreExact, GroupsAreKept}
use Rattle.table_runs.specs.inner.HolderChanges.{ChangesNobody, SameHolders, StaysAs}
use Rattle.table_runs.specs.inner.MarkedRuns.{AreMarked, is_due}
use Rattle.table_runs.proofs.Arriving.{itself_beside, others_as_before}
use Rattle.table_runs.proofs.DueStill.{due_changed, still_in}
use Rattle.table_runs.proofs.GroupsHeld.{Entries, told_within}
use Rattle.table_runs.proofs.HoldersThere.{holds_not, leg_within_there, tells, there_if_holds, there_if_new, there_if_waits}
use Rattle.table_runs.proofs.OneChange.{leg_adds, leg_others, leg_written, same_holders}
use Rattle.table_runs.proofs.OneHolder.{LegIs, leg_within}

-- ---- the leg

new_phase : (phase : LegPhase) → is_new phase ≡ true → phase ≡ leg.New
new_phase leg.New e = refl
new_phase leg.Waiting e = cc
new_phase leg.Ready e = cc
new_phase leg.Running e = cc
new_phase leg.Stopping e = cc
new_phase (leg.Ended o) e = cc

pub leg_that_is_new : (runs : List RunState) (p : LegSite) → is_new_at runs p ≡ true → LegIs runs p leg.New
leg_that_is_new runs p e = by (leg_at runs p) refl e
  where
    by : (o : Option LegState) → leg_at runs p ≡ o → option_map_or (λ (x : LegState). is_new x.phase) o false ≡ true → LegIs runs p leg.New
    by None at e = cc
    by (Some x) at e = record { state = x; there = at; is = new_phase x.phase e }

pub new_leg_within : (runs : List RunState) (p : LegSite) → is_new_at runs p ≡ true → p.run < length runs
new_leg_within runs p new = let z = leg_that_is_new runs p new in leg_within_there runs p z.state z.there

module _ (runs : List RunState) (p : LegSite) (new : is_new_at runs p ≡ true) (sound : RunsAreSound runs) where
  it : LegIs runs p leg.New
  it = leg_that_is_new runs p new

  -- in the group of its own run it is cancelled
  pub cancelled_nobody : ChangesNobody runs (with_leg_in (leg.Ended outcome.Cancelled) p runs)
  cancelled_nobody =
      let z = leg_that_is_new runs p new in
      leg_within runs p z.state (leg_in_phase (leg.Ended outcome.Cancelled)) sound z.there
      (leg_goes runs p z.state (leg.Ended outcome.Cancelled) (runs_that_fit runs sound) z.there (new_ends z.state.phase z.state.lease z.is)).stay
      (sym (ap leg_waits z.is)) (sym (ap leg_holds z.is)) (λ y e. cc)

  -- ---- it waits

  abbrev next : List RunState
  next = with_leg_in leg.Waiting p runs

  same : SameHolders runs next
  same =
      let fit = runs_that_fit runs sound in
      same_holders runs p.run (with_job_of p.job (with_leg_of p.leg (leg_in_phase leg.Waiting))) fit
      (newcomer_waits runs p it.state fit it.there it.is).stay (leg_adds (leg_in_phase leg.Waiting) p.job p.leg (λ y e. cc))

  others : (h : Holder) → (h ≡ Leg p → ⊥) → StaysAs runs next h
  others = leg_others runs p it.state (leg_in_phase leg.Waiting) it.there

  waited_not : waits runs (Leg p) ≡ false
  waited_not = ap (λ (o : Option LegState). option_map_or (λ (x : LegState). leg_waits x.phase) o false) it.there ∙ ap leg_waits it.is

  held_not : holds runs (Leg p) ≡ false
  held_not = ap (λ (o : Option LegState). option_map_or (λ (x : LegState). leg_holds x.phase) o false) it.there ∙ ap leg_holds it.is

  it_holds_not : (waiting : waits next (Leg p) ≡ true) → holds next (Leg p) ≡ false
  it_holds_not waiting = holds_not next (Leg p) waiting

  module _ (waiting : waits next (Leg p) ≡ true) where
    waiting_stay : (h : Holder) → Stays (group_at runs) (group_at next) (waits runs) (waits_beside (Leg p) next) h
    waiting_stay h =
        pick tells h (Leg p) (Stays (group_at runs) (group_at next) (waits runs) (waits_beside (Leg p) next) h)
        (λ is. (
          ap (waits_beside (Leg p) next) is ∙ itself_beside (Leg p) next ∙ sym (ap (waits runs) is ∙ waited_not),
          λ waits_now. absurd (true≢false (sym waits_now ∙ ap (waits runs) is ∙ waited_not)),
        ))
        (λ other. (
          others_as_before (Leg p) next h other ∙ (others h other).waits,
          λ waits_now. same.group h (there_if_waits runs h waits_now),
        ))

    holding_stay : (h : Holder) → Stays (group_at runs) (group_at next) (holds runs) (holds next) h
    holding_stay h =
        pick tells h (Leg p) (Stays (group_at runs) (group_at next) (holds runs) (holds next) h)
        (λ is. (
          ap (holds next) is ∙ it_holds_not waiting ∙ sym (ap (holds runs) is ∙ held_not),
          λ holds_now. absurd (true≢false (sym holds_now ∙ ap (holds runs) is ∙ held_not)),
        ))
        (λ other. ((others h other).holds, λ holds_now. same.group h (there_if_holds runs h holds_now)))

    exact_beside_leg : (entries : Entries) → AreExact runs entries → ExactBeside (Leg p) next entries
    exact_beside_leg entries exact = record {
      pending = exact_within tells (group_at runs) (group_at next) (waits runs) (waits_beside (Leg p) next) (λ g. (slot_in entries g).pending)
          waiting_stay exact.pending;
      in_progress = exact_within tells (group_at runs) (group_at next) (holds runs) (holds next) (λ g. (slot_in entries g).in_progress)
          holding_stay exact.in_progress;
    }

    pub kept_beside_leg : (bindings : List RunBindings) (book : BookState Holder) → GroupsAreKept runs bindings book
        → KeptBeside (Leg p) next bindings book
    kept_beside_leg bindings book kept = record {
      exact = exact_beside_leg book.entries kept.exact;
      told = told_within runs next bindings same kept.told;
      ticket = kept.told.tickets p new ∙ sym (same.group (Leg p) (there_if_new runs p new));
      expected = kept.expected;
    }

  -- who holds a group still holds it
  still : (s : ℕ) → RunsStillFor runs next s
  still s h of_run waits_too g group k e =
      still_in runs next same g k
      (λ held.
      pick tells k (Leg p) (holds next k ≡ true) (λ is. absurd (true≢false (sym held ∙ ap (holds runs) is ∙ held_not)))
      (λ other. (others k other).holds ∙ held)) e

  pub due_of_leg : (old now : List ℕ) → ((i : ℕ) → is_marked old i ≡ true → is_marked now i ≡ true) → is_marked now p.run ≡ true
      → length now ≡ length old → AreMarked (is_due runs) runs old → AreMarked (is_due next) next now
  due_of_leg old now kept itself as_long are =
      due_changed runs (with_job_of p.job (with_leg_of p.leg (leg_in_phase leg.Waiting))) old now p.run (λ s other none. still s) kept itself
      as_long are

-- ---- the runs, as they are seen once it waits

pub waits_then : (runs seen now : List RunState) (p : LegSite) (was waiting : LegState) → leg_at runs p ≡ Some was
    → waiting ≡ leg_in_phase leg.Waiting was → seen ≡ runs → now ≡ with_run p.run (changed (change.PutLeg p.job p.leg waiting)) seen
    → now ≡ with_leg_in leg.Waiting p runs
waits_then runs seen now p was waiting at is_waiting same is =
    is ∙ ap (λ (rs : List RunState). with_leg p (λ _. waiting) rs) same ∙ leg_written runs p was waiting (leg_in_phase leg.Waiting) at is_waiting
