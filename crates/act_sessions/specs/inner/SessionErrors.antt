-- What a refusal outside an answer means for a session: 61 is a failed stream, anything else is out of memory.
use Rattle.wf_value.specs.declared.code.Code.TheVariants.{StreamFailed}
use Rattle.wf_value.specs.declared.refusal.Refusal.{Refusal}
use Rattle.wf_value.specs.declared.refusal.Refusal.TheVariants.{Numbered}
use Rattle.act_sessions.specs.declared.error.SessionError.{SessionError}
use Rattle.act_sessions.specs.declared.error.SessionError.TheVariants.{Memory, Broken}

abbrev pub error_of : Refusal → SessionError
error_of (Numbered StreamFailed) = Broken
error_of e = Memory
