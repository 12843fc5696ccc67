-- A session of one client of the view port. These rules are defined by this project.
use Rattle.std.specs.Prelude.{◌≡◌, ◌⊎◌, ℕ, ◌+◌, ◌-◌, ◌≤◌, ◌^◌, List, [], ◌++◌, drop, length, min, nat_le, nat_lt, replicate, take, Bool, true, false, ◌||◌, Option, Some, None, Result, Ok, Err}
use Rattle.std.specs.Io.KnownBytes.{Appends}
use Rattle.wf_value.specs.declared.refusal.Refusal.{Refusal}
use Rattle.view_sessions.specs.Answers.{answer_bytes, answer_zeros}
use Rattle.view_sessions.specs.Faults.{fault_ends}
use Rattle.view_sessions.specs.Requests.{IsNextView}
use Rattle.view_sessions.specs.declared.answer.Content.{Content}
use Rattle.view_sessions.specs.declared.fault.ViewFault.{ViewFault}
use Rattle.view_sessions.specs.declared.request.FoundView.{FoundView}
use Rattle.view_sessions.specs.declared.request.ViewRequest.{ViewRequest}

-- what was received of requests that were not taken yet, how many were taken, what is still to be sent of their answers, and whether none is taken any more
pub record SessionState : Type 0 where
  pub held : List ℕ
  pub requests : ℕ
  pub owed : List ℕ
  pub over : Bool

abbrev pub new_session : SessionState
new_session = record { held = []; requests = 0; owed = []; over = false }

abbrev pub owes : SessionState → Bool
owes s = nat_lt 0 (length s.owed)

-- ---- the next request, which is taken once the answer before it was sent

abbrev pub takes_none : SessionState → Bool
takes_none s = s.over || owes s

abbrev pub taken_of : Result (Option FoundView) Refusal → Option ViewRequest
taken_of (Ok None) = None
taken_of (Ok (Some found)) = Some found.request
taken_of (Err e) = None

abbrev pub after_next : SessionState → Result (Option FoundView) Refusal → SessionState
after_next s (Ok None) = s
after_next s (Ok (Some found)) = record s { held = drop found.length s.held; requests = min (s.requests + 1) (2 ^ 64 - 1) }
after_next s (Err e) = record s { over = true }

abbrev pub TakesNext : SessionState → SessionState → Option ViewRequest → Type 0
TakesNext old new taken =
    ((takes_none old ≡ true) × (taken ≡ None) × (new ≡ old))
    ⊎ ((takes_none old ≡ false) × (found : Result (Option FoundView) Refusal) × IsNextView old.held found × (taken ≡ taken_of found) × (new ≡ after_next old found))

-- ---- its answer

abbrev pub answer_ends : Result Content ViewFault → Bool
answer_ends (Ok content) = false
answer_ends (Err fault) = fault_ends fault

-- whether an answer is the last of the session: the request or the answer ends it, or it has taken 64 requests
abbrev pub is_last : SessionState → Result Content ViewFault → Bool → Bool
is_last s answer closes = closes || (answer_ends answer || nat_le 64 s.requests)

abbrev pub answered : SessionState → Result Content ViewFault → Bool → Bool → SessionState
answered s answer head_only closes =
    record s {
      owed = answer_bytes answer head_only (is_last s answer closes) ++ replicate (answer_zeros answer head_only) 0;
      over = is_last s answer closes;
    }

-- ---- sending

-- the first bytes that are owed were written, and are owed no more
abbrev pub Sends : ℕ → Option (List ℕ) → Option (List ℕ) → SessionState → SessionState → Type 0
Sends n out out_new old new = (n ≤ length old.owed) × Appends out out_new (take n old.owed) × (new ≡ record old { owed = drop n old.owed })
