-- A holder of another run that was kept back is still kept back after a change, unless the change frees its group and it is pending there.
use Rattle.std.specs.Prelude.{◌≡◌, ◌<◌, ℕ, List, true, false, length, Option, None, Some, refl}
use Rattle.std.proofs.Common.{arith, ap, sym, ◌∙◌}
use Rattle.std.proofs.lemmas.Bool.{and_parts}
use Rattle.group_book.specs.Books.{slot_in}
use Rattle.group_book.proofs.Exact.{it_is_in, its_group, pick}
use Rattle.group_name.specs.Group.{Group}
use Rattle.run_marks.specs.Marked.{is_marked}
use Rattle.table_model.specs.Runs.{with_run, RunState}
use Rattle.table_model.specs.Groups.{group_at, holds, is_in, is_in_progress_in, waits}
use Rattle.table_model.specs.Holders.{run_of}
use Rattle.table_model.specs.declared.holder.Holder.{Holder}
use Rattle.table_model.proofs.Changed.{at_another, length-changed_at}
use Rattle.settling_laws.proofs.KeptBack.{RunsStillFor, runs_still}
use Rattle.table_runs.specs.inner.BookSteps.{Leaves}
use Rattle.table_runs.specs.inner.GroupsKept.{AreExact}
use Rattle.table_runs.specs.inner.HolderChanges.{ChangesNobody, EndsOnly, SameHolders, StartsOnly}
use Rattle.table_runs.specs.inner.MarkedRuns.{AreMarked, is_due}
use Rattle.table_runs.proofs.GroupsHeld.{Entries, in_progress_slot, pending_slot}
use Rattle.table_runs.proofs.HoldersThere.{tells, there_if_holds, there_if_waits, within_there}
use Rattle.table_runs.proofs.MarkedRuns.{due_unless}

-- ---- who holds a group still holds it

held_in : (runs : List RunState) (g : Group) (h : Holder) → is_in_progress_in runs g h ≡ true → holds runs h ≡ true
held_in runs g h e = (and_parts (is_in runs g h) (holds runs h) e).1

pub still_in : (old new : List RunState) (same : SameHolders old new) (g : Group) (h : Holder) → (holds old h ≡ true → holds new h ≡ true)
    → is_in_progress_in old g h ≡ true → is_in_progress_in new g h ≡ true
still_in old new same g h still e =
    runs_still old new g h (same.group h (there_if_holds old h (held_in old g h e))) (λ held k group. still held) e

pub still_where_nobody : (old new : List RunState) → ChangesNobody old new → (s : ℕ) → RunsStillFor old new s
still_where_nobody old new changes s h of_run waiting g group k e =
    still_in old new changes.same g k (λ held. (changes.stay k).holds ∙ held) e

pub still_after_start : (old new : List RunState) (one : Holder) → StartsOnly one old new → (s : ℕ) → RunsStillFor old new s
still_after_start old new one starts s h of_run waiting g group k e =
    pick tells k one (is_in_progress_in new g k ≡ true)
    (λ is. still_in old new starts.same g k (λ held. ap (holds new) is ∙ starts.holds_now) e)
    (λ other. still_in old new starts.same g k (λ held. (starts.others k other).holds ∙ held) e)

no_one : (h : Holder) → None ≡ Some h → ⊥
no_one h e = cc

some_same : (h k : Holder) → Some h ≡ Some k → h ≡ k
some_same h k e = cc

-- the pending holder of the group that is freed
next_there : (old : List RunState) (before after : Entries) (one h : Holder) (g : Group) (next : Option Holder) → AreExact old before
    → (key : Option Group) → key ≡ group_at old one → group_at old one ≡ Some g → group_at old h ≡ Some g → holds old one ≡ true
    → waits old h ≡ true → Leaves key one before after next → next ≡ Some h
next_there old before after one h g next exact None is its of_h held waiting leaves = absurd (none_is (is ∙ its))
  where
    none_is : None ≡ Some g → ⊥
    none_is e = cc
next_there old before after one h g next exact (Some k) is its of_h held waiting leaves =
    leaves.next (in_progress_slot old before exact k one (sym is) held)
    ∙ pending_slot old before exact k h (of_h ∙ sym its ∙ sym is) waiting

-- it is there
pub next_within : (old : List RunState) (before after : Entries) (one : Holder) (key : Option Group) (next : Option Holder) (h : Holder)
    → AreExact old before → Leaves key one before after next → next ≡ Some h → run_of h < length old
next_within old before after one None next h exact leaves is = absurd (no_one h (sym leaves.1 ∙ is))
next_within old before after one (Some g) next h exact leaves is = by (slot_in before g).in_progress refl
  where
    waits_there : (slot_in before g).pending ≡ Some h → run_of h < length old
    waits_there at = within_there old h (there_if_waits old h (it_is_in (group_at old) (waits old) g h ((exact.pending g h).0 at)))

    nobody : next ≡ None → run_of h < length old
    nobody none = absurd (no_one h (sym none ∙ is))

    by : (o : Option Holder) → (slot_in before g).in_progress ≡ o → run_of h < length old
    by None free = nobody (leaves.none (λ e. no_one one (sym free ∙ e)))
    by (Some k) at =
        pick tells k one (run_of h < length old) (λ same. waits_there (sym (leaves.next (at ∙ ap Some same)) ∙ is))
        (λ other. nobody (leaves.none (λ e. other (some_same k one (sym at ∙ e)))))

pub still_after_end : (old new : List RunState) (before after : Entries) (one : Holder) (key : Option Group) (next : Option Holder)
    → EndsOnly one old new → AreExact old before → key ≡ group_at old one → Leaves key one before after next → (s : ℕ)
    → ((h : Holder) → next ≡ Some h → run_of h ≡ s → ⊥) → RunsStillFor old new s
still_after_end old new before after one key next ends exact is leaves s unless h of_run waiting g group k e =
    pick tells k one (is_in_progress_in new g k ≡ true)
    (λ is_one.
    let held : holds old one ≡ true = ap (holds old) (sym is_one) ∙ held_in old g k e in
    let its : group_at old one ≡ Some g = ap (group_at old) (sym is_one) ∙ its_group (group_at old) (holds old) g k e in
    absurd (unless h (next_there old before after one h g next exact key is its group held waiting leaves) of_run))
    (λ other. still_in old new ends.same g k (λ held. (ends.others k other).holds ∙ held) e)

-- ---- the marks of runs that are due

-- a run changes
pub due_changed : (runs : List RunState) (f : RunState → RunState) (old new : List ℕ) (r : ℕ)
    → ((s : ℕ) → (s ≡ r → ⊥) → is_marked new s ≡ false → RunsStillFor runs (with_run r f runs) s)
    → ((i : ℕ) → is_marked old i ≡ true → is_marked new i ≡ true) → is_marked new r ≡ true → length new ≡ length old
    → AreMarked (is_due runs) runs old → AreMarked (is_due (with_run r f runs)) (with_run r f runs) new
due_changed runs f old new r stay kept itself as_long are = record {
  covers = omega (arith, are.covers, as_long, length-changed_at r f runs);
  marked = (λ s x at due.
      due_unless runs (with_run r f runs) old new r kept itself are stay s x (λ other. at_another r f runs s other) at due);
}
