-- The holders of a concurrency group, and what an arrival, a start and an end make of them. GitHub Docs, "Control the concurrency of
-- workflows and jobs": at most one job or workflow of a group runs and at most one is pending; a newcomer cancels the pending one.
use Rattle.std.specs.Prelude.{◌≡◌, List, [], ◌∷◌, ◌++◌, map, filter, Bool, true, false, ◌&&◌, not, if◌then◌else◌}
use Rattle.std.specs.Option.{option_to_list}
use Rattle.group_name.specs.Group.{Group, same_group}
use Rattle.group_book.specs.Books.{slot_in}
use Rattle.group_book.specs.declared.slot.Slot.{Slot}

-- one that has arrived in a group and has not ended; it waits, or it is in progress
pub record Arrived (H : Type 0) : Type 0 where
  pub group : Group
  pub holder : H
  pub waits : Bool

module _ {H : Type 0} where
  abbrev pub holders : List (Arrived H) → List H
  holders all = map (λ a. a.holder) all

  -- whether one of them is pending in a group, and whether it is in progress there
  abbrev pub is_pending : Group → Arrived H → Bool
  is_pending g a = same_group g a.group && a.waits

  abbrev pub is_in_progress : Group → Arrived H → Bool
  is_in_progress g a = same_group g a.group && not a.waits

  -- of all that have arrived and have not ended, those that are pending in a group, and those that are in progress there
  abbrev pub pending_in : Group → List (Arrived H) → List (Arrived H)
  pending_in g all = filter (is_pending g) all

  abbrev pub in_progress_in : Group → List (Arrived H) → List (Arrived H)
  in_progress_in g all = filter (is_in_progress g) all

  -- a book is right where each slot has exactly these
  pub record IsBookOf (all : List (Arrived H)) (entries : List (Group × Slot H)) : Type 0 where
    pub pending : (g : Group) → holders (pending_in g all) ≡ option_to_list (slot_in entries g).pending
    pub in_progress : (g : Group) → holders (in_progress_in g all) ≡ option_to_list (slot_in entries g).in_progress

  -- ---- what changes

  -- a newcomer arrives in a group: every pending holder of the group ends, and the newcomer waits
  abbrev pub after_arrival : Group → H → List (Arrived H) → List (Arrived H)
  after_arrival g newcomer all = filter (λ a. not (is_pending g a)) all ++ record { group = g; holder = newcomer; waits = true } ∷ []

  -- the pending holder of a group begins
  abbrev pub begun_in : Group → Arrived H → Arrived H
  begun_in g a = if is_pending g a then record { group = a.group; holder = a.holder; waits = false } else a

  abbrev pub after_start : Group → List (Arrived H) → List (Arrived H)
  after_start g all = map (begun_in g) all

  -- a holder of a group ends
  abbrev pub after_end : Group → (H → Bool) → List (Arrived H) → List (Arrived H)
  after_end g is all = filter (λ a. not (same_group g a.group && is a.holder)) all
