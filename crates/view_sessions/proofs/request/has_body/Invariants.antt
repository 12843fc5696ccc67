use Rattle.std.proofs.Common.{◌≡◌, map, take}
use Rattle.std.specs.Prelude.{false}
use Rattle.std.specs.List.{list_any}
use Rattle.httparse.specs.Spans.{header_bytes}
use Rattle.view_sessions.specs.Requests.{is_body_field}
use Rattle.view_sessions.proofs.request.has_body.Given as goal

-- none of the fields so far says so
abbrev pub invariant-loop-span : goal.invariant-loop-span
invariant-loop-span l = list_any is_body_field (map (header_bytes l.prefix) (take l.span-index l.spans)) ≡ false
