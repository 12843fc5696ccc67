use Rattle.std.proofs.Common.{◌∙◌, ap, arith, length, map, sym, ◌<◌, []}
use Rattle.std.proofs.lemmas.List.{get_or-map, length-map}
use Rattle.std.proofs.lemmas.List.Folds.{list_any_at}
use Rattle.http1.specs.Fields.{Header}
use Rattle.httparse.specs.Spans.{header_bytes}
use Rattle.view_sessions.specs.Requests.{is_body_field}
use Rattle.view_sessions.proofs.request.has_body.Goals as goal

pub returns-then-is_body_field : goal.returns-then-is_body_field
returns-then-is_body_field c =
    let prefix = c.args.prefix.now in
    let spans = c.args.spans.now in
    let i = c.loop-span.span-index in
    let field : Header = ([], []) in
    let within : i < length (map (header_bytes prefix) spans) = omega (arith, c.loop-span-test.true, length-map spans (header_bytes prefix)) in
    let says = rw (c.of.ensures, c.of-in-loop-span.ensures) at c.is_body_field.ensures in
    sym (list_any_at is_body_field (map (header_bytes prefix) spans) i field within
    (ap is_body_field (get_or-map (header_bytes prefix) spans i _ field c.loop-span-test.true) ∙ (sym says ∙ c.if-is_body_field.true)))
