-- The law evaluated on examples: the cases of the documentation, and lists that break each rule.
use Rattle.std.specs.Prelude.{◌≡◌, [], ◌∷◌, ◌++◌, Bool, true, false, Some, refl}
use Rattle.wf_value.specs.declared.outcome.Outcome.TheVariants.{Success, Failure, Cancelled}
use Rattle.table_model.specs.Groups.{GroupState}
use Rattle.table_model.specs.GroupLaw.{Move}
use Rattle.table_laws.specs.GroupChanges.{base_moves, beyond_base}
use Rattle.table_laws.specs.GroupLawTest.{keeps_law}
use Rattle.table_model.specs.declared.holder.Holder.{Holder}
use Rattle.table_model.specs.declared.holder.Holder.TheVariants.{Run, Leg}

-- holders by the ids of their runs
abbrev pub run1 : Holder
run1 = Run 1

abbrev pub run2 : Holder
run2 = Run 2

abbrev pub run3 : Holder
run3 = Run 3

abbrev leg : Holder
leg = Leg (record { run = 4; job = 1; leg = 2 })

abbrev never : Holder → Bool
never h = false

abbrev always : Holder → Bool
always h = true

-- ---- lists that satisfy the law

-- one run after another
is_numbered : keeps_law never (Move.arrive run1 ∷ Move.start run1 ∷ Move.arrive run2 ∷ Move.end_with Failure run1 ∷ Move.start run2 ∷ [])
    ≡ true
is_numbered = refl

-- a run and a leg of another share the group
run_and_leg : keeps_law never (Move.arrive run1 ∷ Move.start run1 ∷ Move.arrive leg ∷ Move.end_with Success run1 ∷ Move.start leg ∷ [])
    ≡ true
run_and_leg = refl

-- the third run takes the place of the second, which is pending
pending_is_replaced : keeps_law never (Move.arrive run1 ∷ Move.start run1 ∷ Move.arrive run2 ∷ Move.arrive run3
    ∷ Move.end_with Cancelled run2 ∷ Move.end_with Success run1 ∷ Move.start run3 ∷ []) ≡ true
pending_is_replaced = refl

-- with cancel-in-progress the newcomer stops the run in progress, and waits until that run has ended
progress_is_cancelled : keeps_law always (Move.arrive run1 ∷ Move.start run1 ∷ Move.arrive run2 ∷ Move.stop run1
    ∷ Move.end_with Cancelled run1 ∷ Move.start run2 ∷ []) ≡ true
progress_is_cancelled = refl

-- with both, the pending holder ends first, and then the one in progress is stopped
abbrev held : GroupState
held = record { in_progress = Some run1; stopping = false; pending = Some run2 }

both_at_once : keeps_law (beyond_base always held) (base_moves held ++ Move.arrive run3 ∷ Move.end_with Cancelled run2
    ∷ Move.stop run1 ∷ [])
    ≡ true
both_at_once = refl

-- a pending holder that is asked to stop
with_stop_requested : keeps_law never (Move.arrive run1 ∷ Move.start run1 ∷ Move.arrive run2 ∷ Move.stop run2 ∷ Move.end_with Cancelled run2
    ∷ Move.end_with Success run1 ∷ []) ≡ true
with_stop_requested = refl

-- the holders that a group already has do not count as asking for cancellation
base_is_excepted : keeps_law (beyond_base always held)
    (base_moves held) ≡ true
base_is_excepted = refl

-- ---- lists that break the law

-- two holders run at once
starts_beside_another : keeps_law never (Move.arrive run1 ∷ Move.start run1 ∷ Move.arrive run2 ∷ Move.start run2 ∷ []) ≡ false
starts_beside_another = refl

-- a stopped holder releases the group only when it ends
freed_at_the_stop : keeps_law always (Move.arrive run1 ∷ Move.start run1 ∷ Move.arrive run2 ∷ Move.stop run1 ∷ Move.start run2 ∷ [])
    ≡ false
freed_at_the_stop = refl

-- an ended holder starts again
starts_after_its_end : keeps_law never (Move.arrive run1 ∷ Move.start run1 ∷ Move.end_with Success run1 ∷ Move.start run1 ∷ []) ≡ false
starts_after_its_end = refl

-- a holder that is not the latest arrival starts
starts_out_of_order : keeps_law never (Move.arrive run1 ∷ Move.stop run1 ∷ Move.arrive run2 ∷ Move.end_with Cancelled run1
    ∷ Move.start run1 ∷ []) ≡ false
starts_out_of_order = refl

queues_every_newcomer : keeps_law never (Move.arrive run1 ∷ Move.start run1 ∷ Move.arrive run2 ∷ Move.arrive run3
    ∷ Move.end_with Success run1 ∷ Move.start run3 ∷ []) ≡ false
queues_every_newcomer = refl

-- the displaced holder ends as a failure
ends_otherwise : keeps_law never (Move.arrive run1 ∷ Move.start run1 ∷ Move.arrive run2 ∷ Move.arrive run3
    ∷ Move.end_with Failure run2 ∷ []) ≡ false
ends_otherwise = refl

-- a pending holder ends though no other arrived
ends_without_cause : keeps_law never (Move.arrive run1 ∷ Move.start run1 ∷ Move.arrive run2 ∷ Move.end_with Cancelled run2 ∷ []) ≡ false
ends_without_cause = refl

-- a newcomer with cancel-in-progress stops no holder
stops_nobody : keeps_law always (Move.arrive run1 ∷ Move.start run1 ∷ Move.arrive run2 ∷ Move.end_with Success run1 ∷ Move.start run2
    ∷ [])
    ≡ false
stops_nobody = refl

-- the stop comes before the end of the displaced holder
stops_too_early : keeps_law (beyond_base always held)
    (Move.arrive run1 ∷ Move.start run1 ∷ Move.arrive run2 ∷ Move.arrive run3 ∷ Move.stop run1 ∷ Move.end_with Cancelled run2
    ∷ []) ≡ false
stops_too_early = refl
