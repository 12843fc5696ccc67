use Rattle.std.proofs.Common.{ap, map, sym}
use Rattle.std.specs.Prelude.{Ok}
use Rattle.httparse.specs.Spans.{header_bytes, span_bytes}
use Rattle.wf_value.proofs.PassedOn.{passed_on, same_Ok}
use Rattle.webhook_sessions.specs.Heading.{Heading}
use Rattle.view_sessions.specs.Requests.{request_of}
use Rattle.view_sessions.specs.declared.request.ViewRequest.{ViewRequest}
use Rattle.view_sessions.proofs.request.found_request.Goals as goal

pub returns-in_err-request : goal.returns-in_err-request
returns-in_err-request c =
    let prefix = c.args.prefix.now in
    let found = c.args.found.now in
    let head : Heading = record {
      method = span_bytes prefix found.method;
      target = span_bytes prefix found.path;
      minor = found.version;
      fields = map (header_bytes prefix) c.args.spans.now;
    } in
    let given = c.in_err-request.ensures head (sym c.of.ensures) (sym c.of-2.ensures) (sym c.has_body.ensures) (sym c.wants_close.ensures) in
    passed_on (λ f. f) c.from_residual.result _ (Ok (request_of head)) c.in_err-request.field-0.0 c.from_residual.ensures.1 given (λ no. cc)

pub returns : goal.returns
returns c =
    let prefix = c.args.prefix.now in
    let found = c.args.found.now in
    let head : Heading = record {
      method = span_bytes prefix found.method;
      target = span_bytes prefix found.path;
      minor = found.version;
      fields = map (header_bytes prefix) c.args.spans.now;
    } in
    let given = c.in_ok-request.ensures head (sym c.of.ensures) (sym c.of-2.ensures) (sym c.has_body.ensures) (sym c.wants_close.ensures) in
    ap (λ (r : ViewRequest). Ok (record { request = r; length = found.len })) (same_Ok _ _ given)
