-- The requests of a view session: RFC 9112, sections 2 to 5, with the heads of webhook sessions. A request has no body: this is defined by this
-- project.
use Rattle.std.specs.Prelude.{◌≡◌, ◌⊎◌, ℕ, ◌≤◌, ◌<◌, ◌&&◌, ◌||◌, List, codes, drop, length, not, Bool, true, false, if◌then◌else◌, Option, Some, None, Result, Ok, Err}
use Rattle.std.specs.List.{list_any}
use Rattle.std.specs.Str.{bytes_eq}
use Rattle.definitions.specs.Limits.{max_head}
use Rattle.httparse.specs.Grammar.{HasNoRequest, MayBecomeRequest, RequestHead}
use Rattle.http1.specs.Fields.{Header}
use Rattle.http1.specs.Text.{eq_ignore_case}
use Rattle.wf_value.specs.Gives.{no_memory}
use Rattle.wf_value.specs.declared.refusal.Refusal.{Refusal}
use Rattle.webhook_sessions.specs.Asking.{wants_close}
use Rattle.webhook_sessions.specs.Heading.{Heading, heading_of}
use Rattle.webhook_sessions.specs.Hooks.{BeginsWith, HasBadHead}
use Rattle.view_sessions.specs.Targets.{asked}
use Rattle.view_sessions.specs.declared.fault.ViewFault.{ViewFault}
use Rattle.view_sessions.specs.declared.fault.ViewFault.TheVariants.{BadRequest, BodyNotAllowed}
use Rattle.view_sessions.specs.declared.request.FoundView.{FoundView}
use Rattle.view_sessions.specs.declared.request.ViewRequest.{ViewRequest}

-- whether a field says that the request has a body: RFC 9112, section 6.3
abbrev pub is_body_field : Header → Bool
is_body_field field =
    eq_ignore_case field.0 (codes "transfer-encoding")
    || (eq_ignore_case field.0 (codes "content-length") && not (bytes_eq field.1 (codes "0")))

abbrev pub asks_head : List ℕ → Bool
asks_head method = bytes_eq method (codes "HEAD")

-- a request with a fault of its framing: the session ends
abbrev pub unread : ViewFault → Bool → ViewRequest
unread fault head_only = record { asked = Err fault; head_only = head_only; closes = true }

-- the request of a head
abbrev pub request_of : Heading → ViewRequest
request_of head =
    if list_any is_body_field head.fields then unread BodyNotAllowed (asks_head head.method)
    else record { asked = asked head.method head.target; head_only = asks_head head.method; closes = wants_close head }

-- the bytes are this request, then a rest
abbrev pub ViewReads : List ℕ → ViewRequest → List ℕ → Type 0
ViewReads bytes r rest =
    (HasBadHead bytes × (r ≡ unread BadRequest false) × (rest ≡ bytes))
    ⊎ ((h : RequestHead) × BeginsWith bytes h rest × (r ≡ request_of (heading_of h)))

-- the bytes are less than a head, which may still come
abbrev pub ViewWaits : List ℕ → Type 0
ViewWaits bytes = HasNoRequest bytes × MayBecomeRequest bytes × (length bytes < max_head)

-- the whole request at the start of the bytes, and its length
abbrev pub IsNextView : List ℕ → Result (Option FoundView) Refusal → Type 0
IsNextView bytes (Ok None) = ViewWaits bytes
IsNextView bytes (Ok (Some found)) = (found.length ≤ length bytes) × ViewReads bytes found.request (drop found.length bytes)
IsNextView bytes (Err e) = e ≡ no_memory
