-- The rules of an HTTP/1.1 session. A request is a head as in the grammar of `httparse`, RFC 9112, sections 2 to 5, and a body of as many
-- bytes as its `Content-Length` says. The limits `max_head` and `max_fields` of a head are defined by this project.
use Rattle.std.specs.Prelude.{◌≡◌, ◌⊎◌, ℕ, ◌+◌, ◌≤◌, ◌<◌, List, [], ◌++◌, length, take, Some, None}
use Rattle.definitions.specs.Limits.{max_body, max_fields, max_head, max_requests}
use Rattle.httparse.specs.Grammar.{RequestHead, ReadsRequest, HasNoRequest, MayBecomeRequest, EndsInTarget, print_request}
use Rattle.httparse.specs.Spans.{RequestOverflows}
use Rattle.act_sessions.specs.declared.request.Request.{Request}
use Rattle.act_sessions.specs.Rules.{Rules}
use Rattle.webhook_sessions.specs.declared.fault.Fault.{Fault}
use Rattle.webhook_sessions.specs.declared.fault.Fault.TheVariants.{BadHead}
use Rattle.webhook_sessions.specs.Answers.{answer_text, fault_text, out_of_memory_text}
use Rattle.webhook_sessions.specs.Asking.{request_after, unread}
use Rattle.webhook_sessions.specs.Heading.{heading_of}

-- the bytes begin with this head, which is within the limits
pub record BeginsWith (bytes : List ℕ) (h : RequestHead) (after : List ℕ) : Type 0 where
  pub reads : ReadsRequest bytes h after
  pub fields : length h.fields ≤ max_fields
  pub short : length (print_request h) ≤ max_head

-- whatever follows, the bytes begin with no head of at most `max_fields` fields, or `max_head` bytes contain no whole head
abbrev pub HasBadHead : List ℕ → Type 0
HasBadHead bytes = RequestOverflows max_fields bytes ⊎ ((max_head ≤ length bytes) × HasNoRequest (take max_head bytes))

-- the bytes are this request, then a rest
abbrev pub HookReads : List ℕ → Request Fault → List ℕ → Type 0
HookReads bytes r rest =
    (HasBadHead bytes × (r ≡ unread BadHead) × (rest ≡ bytes))
    ⊎ ((h : RequestHead) × (after : List ℕ) × BeginsWith bytes h after × (request_after (heading_of h) after ≡ Some (r, rest)))

-- the bytes are less than a request: a head may still come, or the body is incomplete
abbrev pub HookWaits : List ℕ → Type 0
HookWaits bytes =
    (HasNoRequest bytes × MayBecomeRequest bytes × (length bytes < max_head))
    ⊎ ((h : RequestHead) × (after : List ℕ) × BeginsWith bytes h after × (request_after (heading_of h) after ≡ None))

-- the bytes end inside a target, and no bytes after them make a head within the limits: the target is not UTF-8
abbrev pub IsInLostTarget : List ℕ → Type 0
IsInLostTarget bytes = EndsInTarget bytes × RequestOverflows max_fields bytes

-- some bytes after them make a head, and each such head has more than `max_fields` fields: the bytes end inside the first field too many
abbrev pub IsInExcessField : List ℕ → Type 0
IsInExcessField bytes = ((more : List ℕ) × (h : RequestHead) × ReadsRequest (bytes ++ more) h []) × RequestOverflows max_fields bytes

-- A session takes at most `max_requests` requests; this limit is defined by this project. No more bytes wait than the longest head and
-- the longest body have.
abbrev pub hooks : Rules Fault
hooks = record {
  reads = HookReads;
  waits = HookWaits;
  answer_text = answer_text;
  fault_text = fault_text;
  out_of_memory_response = Some out_of_memory_text;
  most = max_requests;
  limit = max_head + max_body;
}
