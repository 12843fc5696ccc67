-- The bytes of an answer: RFC 9112, sections 3 to 6. Which fields it has, and its texts, are defined by this project.
use Rattle.std.specs.Prelude.{ℕ, ◌+◌, ◌==◌, List, [], ◌++◌, codes, decimal, length, string_bytes, Bool, if◌then◌else◌, Result, Ok, Err}
use Rattle.http.specs.StatusCode.{status_text}
use Rattle.view_sessions.specs.Faults.{fault_content, fault_status}
use Rattle.view_sessions.specs.declared.answer.Content.{Content}
use Rattle.view_sessions.specs.declared.answer.Content.TheVariants.{Json, Lines, Plain, Metrics, Store, Board}
use Rattle.view_sessions.specs.declared.board_file.BoardFile.{BoardFile}
use Rattle.view_sessions.specs.declared.board_file.BoardFile.TheVariants.{Page, Script, Style}
use Rattle.view_sessions.specs.declared.fault.ViewFault.{ViewFault}

-- ---- the parts of an answer

abbrev pub board_kind : BoardFile → List ℕ
board_kind Page = codes "text/html; charset=utf-8"
board_kind Script = codes "text/javascript; charset=utf-8"
board_kind Style = codes "text/css; charset=utf-8"

abbrev pub content_kind : Content → List ℕ
content_kind (Json text) = codes "application/json"
content_kind (Lines text) = codes "application/x-ndjson"
content_kind (Plain text) = codes "text/plain"
content_kind (Metrics text) = codes "text/plain; version=0.0.4; charset=utf-8"
content_kind (Store file) = codes "application/octet-stream"
content_kind (Board file bytes) = board_kind file

-- the bytes of a content, and how many zeros follow them
abbrev pub content_bytes : Content → List ℕ
content_bytes (Json text) = string_bytes text
content_bytes (Lines text) = string_bytes text
content_bytes (Plain text) = string_bytes text
content_bytes (Metrics text) = string_bytes text
content_bytes (Store file) = file.bytes.items
content_bytes (Board file bytes) = bytes.items

abbrev pub content_zeros : Content → ℕ
content_zeros (Json text) = 0
content_zeros (Lines text) = 0
content_zeros (Plain text) = 0
content_zeros (Metrics text) = 0
content_zeros (Store file) = file.zeros
content_zeros (Board file bytes) = 0

abbrev pub kind_of : Result Content ViewFault → List ℕ
kind_of (Ok content) = content_kind content
kind_of (Err fault) = codes "application/json"

abbrev pub bytes_of : Result Content ViewFault → List ℕ
bytes_of (Ok content) = content_bytes content
bytes_of (Err fault) = fault_content fault

abbrev pub zeros_of : Result Content ViewFault → ℕ
zeros_of (Ok content) = content_zeros content
zeros_of (Err fault) = 0

abbrev pub status_of : Result Content ViewFault → ℕ
status_of (Ok content) = 200
status_of (Err fault) = fault_status fault

-- ---- the whole answer

abbrev pub allow_line : ℕ → List ℕ
allow_line status = if status == 405 then codes "Allow: GET, HEAD\r\n" else []

abbrev pub close_line : Bool → List ℕ
close_line last = if last then codes "Connection: close\r\n" else []

-- the head of an answer whose content has this length
unfoldable pub head_text : ℕ → List ℕ → ℕ → Bool → List ℕ
head_text status kind size last =
    codes "HTTP/1.1 " ++ status_text status ++ codes "\r\nContent-Type: " ++ kind ++ codes "\r\nContent-Length: " ++ decimal size
    ++ codes "\r\nCache-Control: no-store\r\n" ++ allow_line status ++ close_line last ++ codes "\r\n"

-- The bytes of an answer, after which the zeros follow. The answer to HEAD is the head alone: RFC 9110, section 9.3.2.
abbrev pub answer_bytes : Result Content ViewFault → Bool → Bool → List ℕ
answer_bytes answer head_only last =
    head_text (status_of answer) (kind_of answer) (length (bytes_of answer) + zeros_of answer) last
    ++ (if head_only then [] else bytes_of answer)

abbrev pub answer_zeros : Result Content ViewFault → Bool → ℕ
answer_zeros answer head_only = if head_only then 0 else zeros_of answer
