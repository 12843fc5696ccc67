use Rattle.std.proofs.Common.{◌≤◌, ◌∙◌, length, take, drop, sym, ap, take-append-drop, length-take, arith, inr, refl, subst}
use Rattle.httparse.specs.Grammar.{HasNoRequest}
use Rattle.httparse.specs.Spans.{IsRequestOf, IsRequestWithin}
use Rattle.wf_value.proofs.PassedOn.{same_Ok}
use Rattle.webhook_sessions.specs.Heading.{Heading}
use Rattle.webhook_sessions.proofs.Heads.{head_found, heading_found}
use Rattle.view_sessions.specs.Requests.{ViewReads, request_of}
use Rattle.view_sessions.specs.declared.request.FoundView.{FoundView}
use Rattle.view_sessions.proofs.Heads.{bad_where_long, bad_for_good}
use Rattle.view_sessions.proofs.request.next_view.Goals as goal

pub returns-in_ok-found_request-in-Ok-Complete : goal.returns-in_ok-found_request-in-Ok-Complete
returns-in_ok-found_request-in-Ok-Complete c =
    let bytes = c.args.bytes.now in
    let prefix = take c.min.result bytes in
    let rest = drop c.min.result bytes in
    let headers = c.parse_request.new.headers in
    let s = c.in-Ok-Complete.found in
    let some : IsRequestOf prefix headers s = rw c.in-Ok-Complete.field-0-is at c.in-Ok-Complete.ensures.complete in
    let within : IsRequestWithin prefix headers s = rw c.in-Ok-Complete.field-0-is at c.in-Ok-Complete.ensures.within in
    let long = length-take c.min.result bytes in
    let short : length prefix ≤ 8192 = let m = c.min.ensures in omega arith in
    let head = head_found bytes prefix rest headers s some.0 (sym (take-append-drop c.min.result bytes)) short c.parse_request.auto.headers within some.1 in
    let fits = within.section.len_fits in
    let is = ap (λ (r : Heading). record { request = request_of r; length = s.len }) (sym (heading_found prefix headers s some.0 some.1))
    ∙ same_Ok _ _ c.in_ok-found_request-in-Ok-Complete.ensures in
    subst (λ (f : FoundView). (f.length ≤ length bytes) × ViewReads bytes f.request (drop f.length bytes)) is (omega arith, inr (some.0, head, refl))

pub returns-in-Ok-Partial-2 : goal.returns-in-Ok-Partial-2
returns-in-Ok-Partial-2 c =
    let bytes = c.args.bytes.now in
    let prefix = take c.min.result bytes in
    let none : HasNoRequest prefix = rw c.in-Ok-Partial.field-0-is at c.in-Ok-Partial.ensures.partial in
    rw c.bad_request.ensures (omega arith, bad_where_long bytes prefix (ap (λ n. take n bytes) c.min.ensures) c.if-bytes-lt-MAX_HEAD.false none)

pub returns-in-Err : goal.returns-in-Err
returns-in-Err c =
    let bytes = c.args.bytes.now in
    let n = c.min.result in
    rw c.bad_request-in-Err.ensures (omega arith, bad_for_good bytes (take n bytes) (drop n bytes) (sym (take-append-drop n bytes)) c.in-Err.ensures.no_room)
