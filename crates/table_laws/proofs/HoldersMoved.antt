-- Holders and moves when the first runs are dropped: the holders of the other runs move down, and so do their moves.
use Rattle.std.specs.Prelude.{◌≡◌, ℕ, ◌+◌, List, [], ◌∷◌, map, nat_le, Bool, true, false, if◌then◌else◌, refl}
use Rattle.std.proofs.Common.{arith, ap, ap₂, sym, subst, ◌∙◌}
use Rattle.std.proofs.lemmas.Bool.{le-leb, leb-true}
use Rattle.table_model.specs.GroupLaw.{holder_of, is_in_progress, is_pending, Move}
use Rattle.table_model.specs.Holders.{run_of}
use Rattle.settling_laws.specs.Moved.{moved}
use Rattle.settling_laws.proofs.MovedHolders.{down_moved, moved_apart, moved_back, moved_down}
use Rattle.table_laws.specs.Names.{renamed}
use Rattle.table_laws.proofs.Agrees.{Agrees}
use Rattle.table_laws.proofs.HolderStatus.{Fits, Status}
use Rattle.table_laws.proofs.OwnMoves.{of_group, own, own_of_group, runs_by_own, waits_by_own}
use Rattle.table_laws.proofs.Through.{in_progress_as, own_renamed, pending_as, renamed_agrees}
use Rattle.table_model.specs.declared.holder.Holder.{Holder}
use Rattle.table_model.specs.declared.holder.Holder.TheVariants.{Run, Leg}

-- ---- holders

-- it is of one of the other runs
abbrev pub stays : ℕ → Holder → Bool
stays k h = nat_le k (run_of h)

pub moved_stays : (k : ℕ) (h : Holder) → stays k (moved k h) ≡ true
moved_stays k (Run r) = le-leb k (k + r) (omega arith)
moved_stays k (Leg p) = le-leb k (k + p.run) (omega arith)

-- ---- moves

-- the moves of the holders of the other runs, by where these stand without the first k runs
abbrev pub remaining : ℕ → List Move → List Move
remaining k moves = map (renamed (moved_down k)) (of_group (stays k) moves)

move_back : (k : ℕ) (m : Move) → stays k (holder_of m) ≡ true → renamed (moved k) (renamed (moved_down k) m) ≡ m
move_back k (Move.arrive h) is = ap (λ x. Move.arrive x) (moved_back k h (leb-true k (run_of h) is))
move_back k (Move.start h) is = ap (λ x. Move.start x) (moved_back k h (leb-true k (run_of h) is))
move_back k (Move.stop h) is = ap (λ x. Move.stop x) (moved_back k h (leb-true k (run_of h) is))
move_back k (Move.end_with r h) is = ap (λ x. Move.end_with r x) (moved_back k h (leb-true k (run_of h) is))

-- among all runs they are the same moves
pub all_back : (k : ℕ) (moves : List Move) → map (renamed (moved k)) (remaining k moves) ≡ of_group (stays k) moves
all_back k [] = refl
all_back k (m ∷ moves) =
    elim (stays k (holder_of m)) as
    (λ b. stays k (holder_of m) ≡ b
    → map (renamed (moved k)) (map (renamed (moved_down k)) (if b then m ∷ of_group (stays k) moves else of_group (stays k) moves))
    ≡ (if b then m ∷ of_group (stays k) moves else of_group (stays k) moves)) [
      | true ↦ λ is. ap₂ (λ x ms. x ∷ ms) (move_back k m is) (all_back k moves)
      | false ↦ λ gone. all_back k moves
    ] refl

pub remaining_agree : (k : ℕ) (moves : List Move) → Agrees (moved k) (remaining k moves) (of_group (stays k) moves)
remaining_agree k moves =
    subst (λ ms. Agrees (moved k) (remaining k moves) ms) (all_back k moves) (renamed_agrees (moved k) (moved_apart k) (remaining k moves))

-- ---- the moves of one holder

down_again : (k : ℕ) (m : Move) → renamed (moved_down k) (renamed (moved k) m) ≡ m
down_again k (Move.arrive h) = ap (λ x. Move.arrive x) (down_moved k h)
down_again k (Move.start h) = ap (λ x. Move.start x) (down_moved k h)
down_again k (Move.stop h) = ap (λ x. Move.stop x) (down_moved k h)
down_again k (Move.end_with r h) = ap (λ x. Move.end_with r x) (down_moved k h)

all_down : (k : ℕ) (moves : List Move) → map (renamed (moved_down k)) (map (renamed (moved k)) moves) ≡ moves
all_down k [] = refl
all_down k (m ∷ moves) = ap₂ (λ x ms. x ∷ ms) (down_again k m) (all_down k moves)

pub own_remaining : (k : ℕ) (h : Holder) (moves : List Move)
    → own h (remaining k moves) ≡ map (renamed (moved_down k)) (own (moved k h) moves)
own_remaining k h moves =
    sym (all_down k (own h (remaining k moves)))
    ∙ ap (map (renamed (moved_down k)))
    (sym (own_renamed (moved k) (moved_apart k) h (remaining k moves)) ∙ ap (own (moved k h)) (all_back k moves)
    ∙ own_of_group (stays k) (moved k h) moves (moved_stays k h))

runs_down : (k : ℕ) (h : Holder) (moves : List Move)
    → is_in_progress h (own h (remaining k moves)) ≡ is_in_progress (moved k h) (own (moved k h) moves)
runs_down k h moves =
    let kept = of_group (stays k) moves in
    runs_by_own h (remaining k moves) ∙ sym (in_progress_as (moved k) (remaining k moves) kept (remaining_agree k moves) h)
    ∙ sym (runs_by_own (moved k h) kept) ∙ ap (is_in_progress (moved k h)) (own_of_group (stays k) (moved k h) moves (moved_stays k h))

waits_down : (k : ℕ) (h : Holder) (moves : List Move)
    → is_pending h (own h (remaining k moves)) ≡ is_pending (moved k h) (own (moved k h) moves)
waits_down k h moves =
    let kept = of_group (stays k) moves in
    waits_by_own h (remaining k moves) ∙ sym (pending_as (moved k) (remaining k moves) kept (remaining_agree k moves) h)
    ∙ sym (waits_by_own (moved k h) kept) ∙ ap (is_pending (moved k h)) (own_of_group (stays k) (moved k h) moves (moved_stays k h))

pub fits_down : (k : ℕ) (s : Status) (h : Holder) (moves : List Move) → Fits s (moved k h) (own (moved k h) moves)
    → Fits s h (own h (remaining k moves))
fits_down k Status.unarrived h moves fits = own_remaining k h moves ∙ ap (map (renamed (moved_down k))) fits
fits_down k Status.waiting h moves fits =
    own_remaining k h moves ∙ ap (map (renamed (moved_down k))) fits ∙ ap (λ x. Move.arrive x ∷ []) (down_moved k h)
fits_down k (Status.in_progress true) h moves fits =
    own_remaining k h moves ∙ ap (map (renamed (moved_down k))) fits
    ∙ ap (λ x. Move.arrive x ∷ Move.start x ∷ Move.stop x ∷ []) (down_moved k h)
fits_down k (Status.in_progress false) h moves fits =
    own_remaining k h moves ∙ ap (map (renamed (moved_down k))) fits ∙ ap (λ x. Move.arrive x ∷ Move.start x ∷ []) (down_moved k h)
fits_down k Status.over h moves fits = (runs_down k h moves ∙ fits.0, waits_down k h moves ∙ fits.1)
