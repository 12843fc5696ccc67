-- The answer to a request with a fault. RFC 9110, section 15. The codes and sentences are defined by this project.
use Rattle.std.specs.Prelude.{ℕ, List, codes, Bool, true, false}
use Rattle.view_sessions.specs.declared.fault.ViewFault.{ViewFault}
use Rattle.view_sessions.specs.declared.fault.ViewFault.TheVariants.{BadRequest, BodyNotAllowed, UnknownPath, MethodNotAllowed, UnknownParameter, BadParameter, UnknownRun, UnknownCursor, DeviceFailed, AreaFull, NoMemory}

abbrev pub fault_status : ViewFault → ℕ
fault_status BadRequest = 400
fault_status BodyNotAllowed = 400
fault_status UnknownPath = 404
fault_status MethodNotAllowed = 405
fault_status UnknownParameter = 400
fault_status BadParameter = 400
fault_status UnknownRun = 404
fault_status UnknownCursor = 410
fault_status DeviceFailed = 503
fault_status AreaFull = 503
fault_status NoMemory = 503

-- Whether the session ends with the answer: the next bytes cannot be framed, the service ends, or there is no memory.
abbrev pub fault_ends : ViewFault → Bool
fault_ends BadRequest = true
fault_ends BodyNotAllowed = true
fault_ends DeviceFailed = true
fault_ends NoMemory = true
fault_ends _ = false

-- the code and the sentence of the answer
abbrev pub fault_content : ViewFault → List ℕ
fault_content BadRequest = codes "{\"code\":\"bad_request\",\"message\":\"These bytes are no head of an HTTP/1.1 request of at most 8192 bytes and 64 fields.\"}\n"
fault_content BodyNotAllowed = codes "{\"code\":\"body_not_allowed\",\"message\":\"A request to this port has no body.\"}\n"
fault_content UnknownPath = codes "{\"code\":\"unknown_path\",\"message\":\"There is nothing at this path.\"}\n"
fault_content MethodNotAllowed = codes "{\"code\":\"method_not_allowed\",\"message\":\"Only GET and HEAD are allowed here.\"}\n"
fault_content UnknownParameter = codes "{\"code\":\"unknown_parameter\",\"message\":\"This path has no parameter of this name.\"}\n"
fault_content BadParameter = codes "{\"code\":\"bad_parameter\",\"message\":\"A parameter has no value, occurs twice, or has a value of another form.\"}\n"
fault_content UnknownRun = codes "{\"code\":\"unknown_run\",\"message\":\"There is no run with this id.\"}\n"
fault_content UnknownCursor = codes "{\"code\":\"unknown_cursor\",\"message\":\"The changes after this cursor are not known any more: list again.\"}\n"
fault_content DeviceFailed = codes "{\"code\":\"device_failed\",\"message\":\"The disk has failed, and the service ends.\"}\n"
fault_content AreaFull = codes "{\"code\":\"area_full\",\"message\":\"The table does not fit an area of the file: make a store with larger areas.\"}\n"
fault_content NoMemory = codes "{\"code\":\"no_memory\",\"message\":\"The service has run out of memory.\"}\n"
