-- A page of the runners of a table, in the order of their names. The format is defined by this project.
use Rattle.std.specs.Prelude.{◌≡◌, ℕ, ◌+◌, ◌-◌, List, [], ◌∷◌, ◌++◌, codes, decimal, length, map, nat_lt, slice_get, take, unwrap_or, Bool, true, Option, Some, None, option_map, if◌then◌else◌}
use Rattle.std.specs.List.{position}
use Rattle.std.specs.Option.{option_map_or}
use Rattle.std.specs.Str.{bytes_eq}
use Rattle.run_plan.specs.declared.last_command.ClaimReply.TheVariants as claim_reply
use Rattle.run_plan.specs.declared.last_command.LastCommand.{LastCommand}
use Rattle.run_plan.specs.declared.last_command.LastCommand.TheVariants.{Claim, Done}
use Rattle.run_plan.specs.declared.last_command.ClaimReply.{ClaimReply}
use Rattle.run_plan.specs.declared.reply.Lease.{Lease}
use Rattle.table_model.specs.TableState.{is_above, RunnerState, TableState}
use Rattle.table_views.specs.Members.{member, number_or_null, text_or_null}
use Rattle.table_views.specs.Pages.{IsPage, page_text, rows_from}
use Rattle.table_views.specs.Texts.{listed, quoted}
use Rattle.definitions.specs.Limits.{most_looked}

abbrev pub lease_of_reply : ClaimReply → Option Lease
lease_of_reply claim_reply.Nothing = None
lease_of_reply (claim_reply.Lease kept) = Some kept.lease_reply

abbrev pub lease_of_last : LastCommand → Option Lease
lease_of_last (Claim claim reply) = lease_of_reply reply
lease_of_last (Done done) = None

-- the lease that a runner holds, which it got by its last claim
abbrev pub held_lease : RunnerState → Option Lease
held_lease runner = option_map_or (λ held. lease_of_last runner.last) runner.holds None

abbrev pub lease_json : Option Lease → List ℕ
lease_json None = codes "null"
lease_json (Some lease) =
    codes "{\"lease\":" ++ decimal lease.lease ++ member (codes "run") (decimal lease.run) ++ member (codes "job") (quoted lease.job)
    ++ member (codes "leg") (decimal lease.leg) ++ codes "}"

-- the labels of a claim, if that was the last command
abbrev pub claimed_labels : LastCommand → Option (List (List ℕ))
claimed_labels (Claim claim reply) = Some claim.labels
claimed_labels (Done done) = None

abbrev pub labels_or_null : Option (List (List ℕ)) → List ℕ
labels_or_null None = codes "null"
labels_or_null (Some labels) = listed (map quoted labels)

-- the seconds since a runner was last heard, if that is known, and its labels
abbrev pub heard_members : Option ℕ → RunnerState → List ℕ
heard_members heard runner =
    member (codes "heard_seconds_ago") (number_or_null heard) ++ member (codes "labels") (labels_or_null (claimed_labels runner.last))

abbrev pub runner_row : Option ℕ → RunnerState → List ℕ
runner_row heard runner =
    codes "{\"runner\":" ++ quoted runner.name ++ member (codes "number") (decimal runner.number)
    ++ member (codes "lease") (lease_json (held_lease runner)) ++ heard_members heard runner ++ codes "}"

-- the seconds of the runner at an index, of those of the runners from an index on
abbrev pub heard_at : List (Option ℕ) → ℕ → ℕ → Option ℕ
heard_at heard from index = option_map_or (λ seconds. seconds) (slice_get heard (index - from)) None

-- whether a name begins with the wanted text, if one is wanted
abbrev pub begins_with : Option (List ℕ) → List ℕ → Bool
begins_with None name = true
begins_with (Some beginning) name = bytes_eq beginning (take (length beginning) name)

-- the row of the runner at an index, if the list shows it
abbrev pub runner_rows : Option (List ℕ) → List (Option ℕ) → ℕ → List RunnerState → ℕ → List (List ℕ)
runner_rows name heard from runners index =
    option_map_or (λ runner. if begins_with name runner.name then runner_row (heard_at heard from index) runner ∷ [] else [])
    (slice_get runners index) []

-- the name after which the list goes on after `count` of the runners from an index on, if one is left
abbrev pub next_name : List RunnerState → ℕ → ℕ → Option (List ℕ)
next_name runners from count =
    if nat_lt (from + count) (length runners) then option_map (λ runner. runner.name) (slice_get runners (from + count - 1)) else None

-- the index of the first runner whose name comes after this one
abbrev pub index_after : List RunnerState → List ℕ → ℕ
index_after runners name = unwrap_or (position (is_above name) runners) (length runners)

-- a page of the runners from an index on whose names begin with a text
pub record IsRunnerPage (name : Option (List ℕ)) (heard : List (Option ℕ)) (from limit : ℕ) (t : TableState) (text : List ℕ) : Type 0 where
  pub count : ℕ
  pub page : IsPage (λ index. length (runner_rows name heard from t.runners index)) from (length t.runners - from) limit most_looked count
  pub is : text ≡ page_text (codes "runners") (rows_from (runner_rows name heard from t.runners) from count) count
      (codes "after") (text_or_null (next_name t.runners from count))
