-- The bytes of an answer: RFC 9112, sections 4 to 6.
use Rattle.std.specs.Prelude.{ℕ, Bool, List, [], ◌∷◌, ◌++◌, length, codes, Option, Some, None, Ok, Err, if◌then◌else◌}
use Rattle.std.specs.Fmt.{decimal}
use Rattle.http.specs.StatusCode.{status_text}
use Rattle.wf_value.specs.RefusalText.{refusal_text}
use Rattle.wf_value.specs.declared.refusal.Refusal.{Refusal}
use Rattle.run_plan.specs.ReplyText.{reply_text}
use Rattle.run_plan.specs.declared.reply.Reply.{Reply}
use Rattle.run_plan.specs.declared.reply.Reply.TheVariants as reply
use Rattle.act_sessions.specs.Exchange.{Response}
use Rattle.webhook_sessions.specs.declared.fault.Fault.{Fault}
use Rattle.webhook_sessions.specs.Statuses.{fault_status, fault_refusal, fault_allows, reply_status, refusal_status}

abbrev pub allow_line : Option (List ℕ) → List ℕ
allow_line None = []
allow_line (Some method) = codes "Allow: " ++ method ++ codes "\r\n"

abbrev pub close_line : Bool → List ℕ
close_line last = if last then codes "Connection: close\r\n" else []

abbrev pub kind_line : List ℕ → List ℕ
kind_line kind = codes "Content-Type: " ++ kind ++ codes "\r\n"

-- the length of the content in bytes
abbrev pub size_line : ℕ → List ℕ
size_line size = codes "Content-Length: " ++ decimal size ++ codes "\r\n"

-- a status, the content type, the allowed method, whether this is the last answer, and the content
unfoldable pub response : ℕ → List ℕ → Option (List ℕ) → Bool → List ℕ → List ℕ
response status kind allowed last content =
    codes "HTTP/1.1 " ++ status_text status ++ codes "\r\n"
    ++ kind_line kind ++ size_line (length content) ++ allow_line allowed ++ close_line last
    ++ codes "\r\n" ++ content

-- `refused N` and a line feed
abbrev pub refused : ℕ → Option (List ℕ) → Bool → Refusal → List ℕ
refused status allowed last e = response status (codes "text/plain") allowed last (refusal_text e ++ 10 ∷ [])

-- an admitted body is sent alone; every other reply is its text and a line feed
abbrev pub reply_content : Reply → List ℕ
reply_content (reply.Body body) = body
reply_content r = reply_text r ++ 10 ∷ []

abbrev pub reply_kind : Reply → List ℕ
reply_kind (reply.Body body) = codes "application/json"
reply_kind r = codes "text/plain"

abbrev pub answer_text : Bool → Response → List ℕ
answer_text last (Ok r) = response (reply_status r) (reply_kind r) None last (reply_content r)
answer_text last (Err e) = refused (refusal_status e) None last e

abbrev pub fault_text : Bool → Fault → List ℕ
fault_text last fault = refused (fault_status fault) (fault_allows fault) last (fault_refusal fault)

-- the out-of-memory response outside a command: the answer of 50, which ends the session
abbrev pub out_of_memory_text : List ℕ
out_of_memory_text =
    codes "HTTP/1.1 503 Service Unavailable\r\nContent-Type: text/plain\r\nContent-Length: 11\r\nConnection: close\r\n\r\nrefused 50\n"
