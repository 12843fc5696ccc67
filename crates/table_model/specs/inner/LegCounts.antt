-- How many legs of a job are in each phase that settling, claims and ends ask about.
use Rattle.std.specs.Prelude.{◌≡◌, ◌<◌, ◌^◌, ◌||◌, ℕ, List, [], count_by, Bool, true, if◌then◌else◌}
use Rattle.std.specs.List.{list_any}
use Rattle.table_model.specs.Fitting.{is_ready, is_at_work}
use Rattle.table_model.specs.Groups.{leg_waits}
use Rattle.table_model.specs.Runs.{JobState, LegState, is_new}
use Rattle.table_model.specs.declared.leg_counts.LegCounts.{LegCounts}
use Rattle.table_model.specs.declared.phases.LegPhase.{LegPhase}

abbrev pub legs_in : (LegPhase → Bool) → List LegState → ℕ
legs_in test legs = count_by (λ l. test l.phase) legs

-- the counts of these legs
pub record AreCounted (legs : List LegState) (counts : LegCounts) : Type 0 where
  pub newcomers : counts.newcomers ≡ legs_in is_new legs
  pub waiting : counts.waiting ≡ legs_in leg_waits legs
  pub ready : counts.ready ≡ legs_in is_ready legs
  pub at_work : counts.at_work ≡ legs_in is_at_work legs

-- a job that has not opened has none of the legs in its room
abbrev pub legs_of_room : Bool → List LegState → List LegState
legs_of_room has_legs room = if has_legs then room else []

-- 1 if true, 0 if false
abbrev pub one_where : Bool → ℕ
one_where b = if b then 1 else 0

-- if a leg leaves the phase, the count is positive; and the count can grow by one
abbrev pub CanMove : (LegPhase → Bool) → LegPhase → ℕ → Type 0
CanMove test from count = (test from ≡ true → 0 < count) × (count < 2 ^ 63)

-- whether a leg is new or waits; no rule applies to any other leg
abbrev pub is_unready_leg : LegState → Bool
is_unready_leg leg = is_new leg.phase || leg_waits leg.phase

abbrev pub has_unready_leg : JobState → Bool
has_unready_leg job = list_any is_unready_leg job.legs
