use Rattle.std.proofs.Common.{◌≡◌, ◌+◌, ◌≤◌, ◌∙◌, inl, subst, length, take, drop, sym, ap, take-append-drop, length-take, arith}
use Rattle.std.proofs.lemmas.List.{take_all, take_rest}
use Rattle.httparse.specs.Grammar.{HasNoRequest, MayBecomeRequest}
use Rattle.httparse.specs.Spans.{IsRequestOf, IsRequestWithin}
use Rattle.webhook_sessions.specs.inner.FoundRequest.{IsFound}
use Rattle.webhook_sessions.specs.Heading.{heading_of}
use Rattle.act_sessions.proofs.Waiting.{waits_until_more}
use Rattle.webhook_sessions.specs.Hooks.{HookWaits, hooks}
use Rattle.webhook_sessions.proofs.Heads.{bad_where_long, bad_for_good, next_by, head_found, heading_found, keeps_nothing}
use Rattle.webhook_sessions.proofs.request.read_request.Goals as goal

pub returns-in-Ok-Complete-clause-found : goal.returns-in-Ok-Complete-clause-found
returns-in-Ok-Complete-clause-found c =
    let bytes = c.args.bytes.now in
    let prefix = take c.min.result bytes in
    let rest = drop c.min.result bytes in
    let headers = c.parse_request.new.headers in
    let s = c.in-Ok-Complete.found in
    let some : IsRequestOf prefix headers s = rw c.in-Ok-Complete.field-0-is at c.in-Ok-Complete.ensures.complete in
    let within : IsRequestWithin prefix headers s = rw c.in-Ok-Complete.field-0-is at c.in-Ok-Complete.ensures.within in
    let long = length-take c.min.result bytes in
    let short : length prefix ≤ 8192 = let m = c.min.ensures in omega arith in
    let head = head_found bytes prefix rest headers s some.0 (sym (take-append-drop c.min.result bytes)) short c.parse_request.auto.headers within some.1 in
    let fits = within.section.len_fits in
    let after = take_rest bytes s.len in
    let heading = c.new-head.ensures ∙ heading_found prefix headers s some.0 some.1 in
    let found : IsFound (heading_of some.0) s.len (drop s.len bytes) c.request_after.result =
    rw (heading, after) at c.request_after.ensures in
    next_by bytes some.0 s.len (omega arith) (omega arith) head c.request_after.result found

pub returns-in-Ok-Complete-clause-kept : goal.returns-in-Ok-Complete-clause-kept
returns-in-Ok-Complete-clause-kept c =
    keeps_nothing c.args.bytes.now c.new-head.result c.in-Ok-Complete.found.len _ c.request_after.result c.request_after.ensures

pub returns-in-Ok-Partial-clause-found : goal.returns-in-Ok-Partial-clause-found
returns-in-Ok-Partial-clause-found c =
    let bytes = c.args.bytes.now in
    let n = c.min.result in
    let short = c.if-bytes-lt-MAX_HEAD.true in
    let all : take n bytes ≡ bytes = let m = c.min.ensures in take_all n bytes (omega arith) in
    let none : HasNoRequest (take n bytes) = rw c.in-Ok-Partial.field-0-is at c.in-Ok-Partial.ensures.partial in
    let may : MayBecomeRequest (take n bytes) = rw c.in-Ok-Partial.field-0-is at c.in-Ok-Partial.ensures.unfinished in
    let waits : HookWaits bytes = inl (subst HasNoRequest all none, subst MayBecomeRequest all may, short) in
    rw c.waits_for_a_byte.ensures (waits, omega arith, omega arith, waits_until_more hooks bytes (length bytes + 1) waits (omega arith))

pub returns-in-Ok-Partial-clause-kept : goal.returns-in-Ok-Partial-clause-kept
returns-in-Ok-Partial-clause-kept c = rw c.waits_for_a_byte.ensures c.read_first.ensures

pub returns-in-Ok-Partial-2-clause-found : goal.returns-in-Ok-Partial-2-clause-found
returns-in-Ok-Partial-2-clause-found c =
    let bytes = c.args.bytes.now in
    let prefix = take c.min.result bytes in
    let none : HasNoRequest prefix = rw c.in-Ok-Partial.field-0-is at c.in-Ok-Partial.ensures.partial in
    rw c.unread.ensures (omega arith, bad_where_long bytes prefix (ap (λ n. take n bytes) c.min.ensures) c.if-bytes-lt-MAX_HEAD.false none)

pub returns-in-Err-clause-found : goal.returns-in-Err-clause-found
returns-in-Err-clause-found c =
    let bytes = c.args.bytes.now in
    let n = c.min.result in
    rw c.unread-in-Err.ensures (omega arith, bad_for_good bytes (take n bytes) (drop n bytes) (sym (take-append-drop n bytes)) c.in-Err.ensures.no_room)

pub request_after-requires : goal.request_after-requires
request_after-requires c =
    let bytes = c.args.bytes.now in
    let prefix = take c.min.result bytes in
    let s = c.in-Ok-Complete.found in
    let within : IsRequestWithin prefix c.parse_request.new.headers s = rw c.in-Ok-Complete.field-0-is at c.in-Ok-Complete.ensures.within in
    let fits = within.section.len_fits in
    let long = length-take c.min.result bytes in
    let m = c.min.ensures in
    omega arith

pub read_first-requires-clause-none : goal.read_first-requires-clause-none
read_first-requires-clause-none c =
    let bytes = c.args.bytes.now in
    let n = c.min.result in
    let short = c.if-bytes-lt-MAX_HEAD.true in
    let all : take n bytes ≡ bytes = let m = c.min.ensures in take_all n bytes (omega arith) in
    let none : HasNoRequest (take n bytes) = rw c.in-Ok-Partial.field-0-is at c.in-Ok-Partial.ensures.partial in
    subst HasNoRequest all none

pub read_first-requires-clause-may : goal.read_first-requires-clause-may
read_first-requires-clause-may c =
    let bytes = c.args.bytes.now in
    let n = c.min.result in
    let short = c.if-bytes-lt-MAX_HEAD.true in
    let all : take n bytes ≡ bytes = let m = c.min.ensures in take_all n bytes (omega arith) in
    let may : MayBecomeRequest (take n bytes) = rw c.in-Ok-Partial.field-0-is at c.in-Ok-Partial.ensures.unfinished in
    subst MayBecomeRequest all may
