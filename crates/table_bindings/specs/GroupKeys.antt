-- The groups that a run and its legs ask for, once their names are known. That of a leg is decided when its job opens: by then all jobs that
-- its job needs have finished, and their results do not change in the attempt. Memory is taken when the attempt begins.
use Rattle.std.specs.Prelude.{◌≡◌, ℕ, ◌+◌, List, [], Bool, true, false, length, sum_by, Option, Some, None, option_and_then, slice_get}
use Rattle.std.specs.Option.{option_map_or}
use Rattle.wf_expr.specs.Bound.{Results}
use Rattle.group_name.specs.BoundGroup.{HasRoomFor, group_at as bound_group_at}
use Rattle.group_name.specs.Group.{Group}
use Rattle.table_model.specs.Runs.{changed_at}
use Rattle.table_bindings.specs.BoundGroups.{is_set_by}
use Rattle.table_bindings.specs.declared.bindings.JobBindings.{JobBindings}
use Rattle.table_bindings.specs.declared.group_keys.HolderKey.{HolderKey}
use Rattle.table_bindings.specs.declared.group_keys.HolderKey.TheVariants.{Known, Later, NoGroup}
use Rattle.table_bindings.specs.declared.groups.GroupRequest.{GroupRequest}
use Rattle.table_model.specs.declared.holder.Holder.{Holder}
use Rattle.table_model.specs.declared.holder.Holder.TheVariants.{Run, Leg}

-- ---- one holder

-- its group, if that is known and there is one
abbrev pub key_in : HolderKey → Option Group
key_in (Later key ticket) = None
key_in NoGroup = None
key_in (Known known) = Some known.key

-- the key that it brings to its group when it arrives
abbrev pub ticket_in : HolderKey → Option Group
ticket_in (Later key ticket) = None
ticket_in NoGroup = None
ticket_in (Known known) = known.ticket

-- the same without that key
abbrev pub spent : HolderKey → HolderKey
spent (Later key ticket) = Later key ticket
spent NoGroup = NoGroup
spent (Known known) = Known (record { key = known.key; ticket = None; cancels = known.cancels })

abbrev pub has_no_group : HolderKey → Bool
has_no_group (Later key ticket) = false
has_no_group NoGroup = true
has_no_group (Known known) = false

-- 1 while it may still arrive, and 0 once it can't
abbrev pub arrivals_in : HolderKey → ℕ
arrivals_in (Later key ticket) = 1
arrivals_in NoGroup = 0
arrivals_in (Known known) = option_map_or (λ group. 1) known.ticket 0

-- its group is not known yet, and memory is taken for both keys that the request may give
abbrev pub IsLater : GroupRequest → HolderKey → Type 0
IsLater request (Later key ticket) = HasRoomFor request.group key × HasRoomFor request.group ticket
IsLater request NoGroup = ⊥
IsLater request (Known known) = ⊥

-- what a request gives with these results
abbrev pub known_as : Group → Bool → HolderKey
known_as g cancels = Known (record { key = g; ticket = Some g; cancels = cancels })

abbrev pub decided : Results → GroupRequest → HolderKey
decided results request = option_map_or (λ g. known_as g (is_set_by results request.cancels)) (bound_group_at results request.group) NoGroup

-- ---- a run and its legs

-- what is known of the group of the run itself, and of those of its legs, job by job
pub record KeyState : Type 0 where
  pub own : HolderKey
  pub jobs : List (List HolderKey)

abbrev pub holder_key : KeyState → Holder → Option HolderKey
holder_key keys (Run r) = Some keys.own
holder_key keys (Leg p) = option_and_then (λ legs. slice_get legs p.leg) (slice_get keys.jobs p.job)

-- the group of a run or of a leg, if it is known and there is one
abbrev pub key_of : KeyState → Holder → Option Group
key_of keys h = option_and_then key_in (holder_key keys h)

-- one of them has brought its key
abbrev pub with_spent : Holder → KeyState → KeyState
with_spent (Run r) keys = record { own = spent keys.own; jobs = keys.jobs }
with_spent (Leg p) keys = record { own = keys.own; jobs = changed_at p.job (λ legs. changed_at p.leg spent legs) keys.jobs }

-- how many of them may still arrive
abbrev pub arrivals_of_legs : List HolderKey → ℕ
arrivals_of_legs = sum_by arrivals_in

abbrev pub arrivals_of : KeyState → ℕ
arrivals_of keys = arrivals_in keys.own + sum_by arrivals_of_legs keys.jobs

-- none of the groups of a job's legs is known yet
pub record AreLater (requests : List GroupRequest) (legs : List HolderKey) : Type 0 where
  pub as_many : length legs ≡ length requests
  pub each : (l : ℕ) (request : GroupRequest) (key : HolderKey) → slice_get requests l ≡ Some request → slice_get legs l ≡ Some key
      → IsLater request key

-- the groups that the legs of a job ask for
abbrev pub requests_of : List JobBindings → ℕ → List GroupRequest
requests_of jobs j = option_map_or (λ job. job.groups) (slice_get jobs j) []

abbrev pub AllAreLater : List JobBindings → List (List HolderKey) → Type 0
AllAreLater jobs keys = (j : ℕ) (legs : List HolderKey) → slice_get keys j ≡ Some legs → AreLater (requests_of jobs j) legs
