-- The status of each answer: RFC 9110, section 15.
use Rattle.std.specs.Prelude.{ℕ, Bool, List, [], ◌∷◌, Option, Some, None, if◌then◌else◌}
use Rattle.wf_value.specs.declared.code.Code.TheVariants as code
use Rattle.wf_value.specs.declared.refusal.Refusal.{Refusal}
use Rattle.wf_value.specs.declared.refusal.Refusal.TheVariants.{Numbered}
use Rattle.run_plan.specs.declared.reply.Reply.{Reply}
use Rattle.run_plan.specs.declared.reply.Reply.TheVariants as reply
use Rattle.act_sessions.specs.Exchange.{is_one_of, ends_by}
use Rattle.webhook_sessions.specs.declared.fault.Fault.{Fault}
use Rattle.webhook_sessions.specs.declared.fault.Fault.TheVariants.{BadHead, NoLength, BadLength, TooLong, EventHeader, NoPath, WrongMethod, Unprocessable}

-- ---- a fault

abbrev pub fault_status : Fault → ℕ
fault_status BadHead = 400
fault_status NoLength = 411
fault_status BadLength = 400
fault_status TooLong = 413
fault_status EventHeader = 400
fault_status NoPath = 404
fault_status (WrongMethod allowed) = 405
fault_status (Unprocessable refusal) = 422

abbrev pub fault_refusal : Fault → Refusal
fault_refusal BadHead = Numbered code.Head
fault_refusal NoLength = Numbered code.ContentLength
fault_refusal BadLength = Numbered code.ContentLength
fault_refusal TooLong = Numbered code.TooLong
fault_refusal EventHeader = Numbered code.EventHeader
fault_refusal NoPath = Numbered code.Path
fault_refusal (WrongMethod allowed) = Numbered code.Method
fault_refusal (Unprocessable refusal) = refusal

-- the method that a path allows, which a 405 has to name: RFC 9110, section 15.5.6
abbrev pub fault_allows : Fault → Option (List ℕ)
fault_allows (WrongMethod allowed) = Some allowed
fault_allows fault = None

-- ---- an answer

-- no such run or runner
abbrev pub is_missing : Refusal → Bool
is_missing e = is_one_of (code.NoRun ∷ code.NoRunner ∷ []) e

-- a refusal that ends a session is 503; any other one conflicts with the state of the table
abbrev pub refusal_status : Refusal → ℕ
refusal_status e = if is_missing e then 404 else (if ends_by e then 503 else 409)

-- no request is answered with a lease or another reply that only a runner gets
abbrev pub reply_status : Reply → ℕ
reply_status (reply.Created run) = 201
reply_status (reply.Again a) = 201
reply_status reply.Ok = 202
reply_status (reply.Forgotten last) = 202
reply_status (reply.Refused e) = refusal_status e
reply_status r = 200
