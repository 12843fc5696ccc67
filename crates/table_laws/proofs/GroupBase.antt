-- The base moves satisfy the law and determine the state of the group.
use Rattle.std.specs.Option.{option_map_or}
use Rattle.std.specs.Prelude.{cond, map, option_to_list}
use Rattle.std.proofs.lemmas.List.{append-nil}
use Rattle.std.proofs.Common.{◌≡◌, List, [], ◌∷◌, ◌++◌, Bool, true, false, ◌&&◌, ◌||◌, not, Option, Some, None}
use Rattle.std.proofs.Common.{refl, ap, ap₂, sym, subst, ◌∙◌}
use Rattle.std.proofs.lemmas.Option.{none-some}
use Rattle.std.proofs.lemmas.Bool.{and_right, or_right}
use Rattle.table_model.specs.Groups.{GroupState}
use Rattle.table_model.specs.GroupLaw.{has_arrived, is_the, same_holder, Move, KeepsLaw, cancelled_end}
use Rattle.settling_laws.proofs.ArrivalKeeps.{holder_tested, itself}
use Rattle.table_laws.specs.GroupChanges.{Change, Matches, base_moves, beyond_base, changed, is_new, moves_of, in_progress_moves}
use Rattle.table_laws.proofs.GroupChangeKeeps.{change_keeps_law, change_matches}
use Rattle.table_laws.proofs.GroupLawWalk.{Lawful, walk_is_law}
use Rattle.table_laws.proofs.GroupSaid.{arrived_on, the_same}
use Rattle.table_laws.proofs.GroupTruths.{not_both, or_false}
use Rattle.table_laws.proofs.ListWalk.{Walk}
use Rattle.table_model.specs.declared.holder.Holder.{Holder}

-- ---- no holder yet

abbrev idle : Bool → GroupState
idle stopping = record { in_progress = None; stopping = stopping; pending = None }

idle_matches : (stopping : Bool) → Matches (idle stopping) []
idle_matches stopping = record {
  in_progress = λ h. refl;
  stopping = λ h same. absurd (none-some h same);
  pending = λ h. refl;
  latest = λ h same. absurd (none-some h same);
  unstopped = λ h same. absurd (none-some h same);
}

idle_keeps : (cancels : Holder → Bool) → KeepsLaw cancels []
idle_keeps cancels = walk_is_law cancels [] tt

-- ---- one holder runs

abbrev runs_alone : Holder → Bool → GroupState
runs_alone r stopping = record { in_progress = Some r; stopping = stopping; pending = None }

one_started : (b : Bool) → ((b || false) && not false) ≡ b
one_started true = refl
one_started false = refl

one_waits_not : (b : Bool) → ((b || false) && (not (b || false) && not false)) ≡ false
one_waits_not true = refl
one_waits_not false = refl

in_progress_matches : (r : Holder) (stopping : Bool) → Matches (runs_alone r stopping) (in_progress_moves stopping r)
in_progress_matches r true = record {
  in_progress = λ h. one_started (same_holder h r);
  stopping = λ h same. ap (λ b. b || false) (the_same (Some r) h same);
  pending = λ h. one_waits_not (same_holder h r);
  latest = λ h same. absurd (none-some h same);
  unstopped = λ h same. absurd (none-some h same);
}
in_progress_matches r false = record {
  in_progress = λ h. one_started (same_holder h r);
  stopping = λ h same. refl;
  pending = λ h. one_waits_not (same_holder h r);
  latest = λ h same. absurd (none-some h same);
  unstopped = λ h same. absurd (none-some h same);
}

in_progress_walks : (cancels : Holder → Bool) (r : Holder) (stopping : Bool) → Walk (Lawful cancels) [] (in_progress_moves stopping r)
in_progress_walks cancels r true =
    ((λ h is. absurd (cc), λ h requests runs unstopped. absurd (cc)), ((λ other. refl, refl, refl), (tt, tt)))
in_progress_walks cancels r false = ((λ h is. absurd (cc), λ h requests runs unstopped. absurd (cc)), ((λ other. refl, refl, refl), tt))

in_progress_keeps : (cancels : Holder → Bool) (r : Holder) (stopping : Bool) → KeepsLaw cancels (in_progress_moves stopping r)
in_progress_keeps cancels r stopping = walk_is_law cancels (in_progress_moves stopping r) (in_progress_walks cancels r stopping)

new_beside : (r p : Holder) (stopping : Bool) → same_holder p r ≡ false → is_new p (in_progress_moves stopping r) ≡ true
new_beside r p true apart = ap (λ b. not (b || (b || (b || false)))) apart
new_beside r p false apart = ap (λ b. not (b || (b || false))) apart

-- ---- and another holder waits

abbrev waiting : GroupState → Holder → GroupState
waiting g p = record { in_progress = g.in_progress; stopping = g.stopping; pending = Some p }

plain_moves : (cancels : Holder → Bool) (g : GroupState) (p : Holder) → cancels p ≡ false → g.pending ≡ None
    → moves_of cancels g (Change.arrival p) ≡ Move.arrive p ∷ []
plain_moves cancels g p requests alone =
    ap₂ (λ o b. Move.arrive p ∷ cancelled_end o
    ++ map (λ s. Move.stop s) (option_to_list (cond (b && not g.stopping) g.in_progress None))) alone requests

plain_state : (cancels : Holder → Bool) (g : GroupState) (p : Holder) → cancels p ≡ false
    → changed cancels g (Change.arrival p) ≡ waiting g p
plain_state cancels g p requests =
    let with_flag : Bool → GroupState = λ b. record { in_progress = g.in_progress; stopping = b; pending = Some p } in
    ap (λ b. with_flag (g.stopping || b)) requests ∙ ap with_flag (or_false g.stopping)

plain_law : (cancels : Holder → Bool) (g : GroupState) (moves : List Move) (p : Holder) → cancels p ≡ false → g.pending ≡ None
    → is_new p moves ≡ true → KeepsLaw cancels moves → Matches g moves → KeepsLaw cancels (moves ++ Move.arrive p ∷ [])
plain_law cancels g moves p requests alone new law is =
    subst (λ ms. KeepsLaw cancels (moves ++ ms)) (plain_moves cancels g p requests alone)
    (change_keeps_law cancels g moves (Change.arrival p) new law is)

plain_match : (cancels : Holder → Bool) (g : GroupState) (moves : List Move) (p : Holder) → cancels p ≡ false → g.pending ≡ None
    → is_new p moves ≡ true → Matches g moves → Matches (waiting g p) (moves ++ Move.arrive p ∷ [])
plain_match cancels g moves p requests alone new is =
    subst (λ s. Matches s (moves ++ Move.arrive p ∷ [])) (plain_state cancels g p requests)
    (subst (λ ms. Matches (changed cancels g (Change.arrival p)) (moves ++ ms)) (plain_moves cancels g p requests alone)
    (change_matches cancels g moves (Change.arrival p) new is))

-- ---- all holders together

-- the pending holder does not ask for cancellation here, and is not the one in progress
record Apart (cancels : Holder → Bool) (in_progress pending : Option Holder) : Type 0 where
  requests : (p : Holder) → pending ≡ Some p → cancels p ≡ false
  other : (r p : Holder) → in_progress ≡ Some r → pending ≡ Some p → same_holder p r ≡ false

abbrev state : Option Holder → Bool → Option Holder → GroupState
state in_progress stopping pending = record { in_progress = in_progress; stopping = stopping; pending = pending }

base_law : (cancels : Holder → Bool) (in_progress : Option Holder) (stopping : Bool) (pending : Option Holder) → Apart cancels in_progress pending
    → KeepsLaw cancels (base_moves (state in_progress stopping pending))
base_law cancels None stopping None apart = idle_keeps cancels
base_law cancels None stopping (Some p) apart =
    plain_law cancels (idle stopping) [] p (apart.requests p refl) refl refl (idle_keeps cancels) (idle_matches stopping)
base_law cancels (Some r) stopping None apart =
    subst (λ ms. KeepsLaw cancels ms) (sym (append-nil (in_progress_moves stopping r))) (in_progress_keeps cancels r stopping)
base_law cancels (Some r) stopping (Some p) apart =
    plain_law cancels (runs_alone r stopping) (in_progress_moves stopping r) p (apart.requests p refl) refl
    (new_beside r p stopping (apart.other r p refl refl)) (in_progress_keeps cancels r stopping) (in_progress_matches r stopping)

base_match : (cancels : Holder → Bool) (in_progress : Option Holder) (stopping : Bool) (pending : Option Holder)
    → Apart cancels in_progress pending → Matches (state in_progress stopping pending) (base_moves (state in_progress stopping pending))
base_match cancels None stopping None apart = idle_matches stopping
base_match cancels None stopping (Some p) apart =
    plain_match cancels (idle stopping) [] p (apart.requests p refl) refl refl (idle_matches stopping)
base_match cancels (Some r) stopping None apart =
    subst (λ ms. Matches (runs_alone r stopping) ms) (sym (append-nil (in_progress_moves stopping r))) (in_progress_matches r stopping)
base_match cancels (Some r) stopping (Some p) apart =
    plain_match cancels (runs_alone r stopping) (in_progress_moves stopping r) p (apart.requests p refl) refl
    (new_beside r p stopping (apart.other r p refl refl)) (in_progress_matches r stopping)

pending_arrived : (g : GroupState) (p : Holder) → g.pending ≡ Some p → has_arrived p (base_moves g) ≡ true
pending_arrived g p one =
    let base : List Move = option_map_or (in_progress_moves g.stopping) g.in_progress [] in
    arrived_on p base (map (λ h. Move.arrive h) (option_to_list g.pending))
    ∙ ap (λ o. has_arrived p base || has_arrived p (map (λ h. Move.arrive h) (option_to_list o))) one
    ∙ ap (λ b. has_arrived p base || (b || false)) (itself p)
    ∙ or_right (has_arrived p base) true refl

apart_by : (r p : Holder) (b : Bool) → same_holder p r ≡ b → same_holder r p ≡ false → same_holder p r ≡ false
apart_by r p false same isnt = same
apart_by r p true same isnt =
    absurd (not_both (same_holder r p) (ap (λ x. same_holder r x) (holder_tested p r same) ∙ itself r) isnt)

apart_here : (cancels : Holder → Bool) (g : GroupState) → ((h : Holder) → g.in_progress ≡ Some h → is_the g.pending h ≡ false)
    → Apart (beyond_base cancels g) g.in_progress g.pending
apart_here cancels g differ = record {
  requests = λ p one. ap (λ b. cancels p && not b) (pending_arrived g p one) ∙ and_right (cancels p) false refl;
  other = λ r p runs one. apart_by r p (same_holder p r) refl (ap (λ o. is_the o r) (sym one) ∙ differ r runs);
}

pub base_keeps_law : (cancels : Holder → Bool) (g : GroupState) → ((h : Holder) → g.in_progress ≡ Some h → is_the g.pending h ≡ false)
    → KeepsLaw (beyond_base cancels g) (base_moves g)
base_keeps_law cancels g differ = base_law (beyond_base cancels g) g.in_progress g.stopping g.pending (apart_here cancels g differ)

pub base_matches : (cancels : Holder → Bool) (g : GroupState) → ((h : Holder) → g.in_progress ≡ Some h → is_the g.pending h ≡ false)
    → Matches g (base_moves g)
base_matches cancels g differ = base_match (beyond_base cancels g) g.in_progress g.stopping g.pending (apart_here cancels g differ)
