use Rattle.std.proofs.Common.{◌++◌, ap, ◌∙◌, append_assoc}
use Rattle.std.specs.Prelude.{codes, string_bytes}
use Rattle.webhook_sessions.proofs.answers.push_kind.Goals as goal

pub returns : goal.returns
returns c =
    let before = string_bytes c.args.text.now in
    let kind = c.args.kind.now in
    let name = codes "Content-Type: " in
    let end = codes "\r\n" in
    c.in_ok-push_str-3.ensures.bytes
    ∙ ap (λ l. l ++ end) (c.in_ok-push_str-2.ensures.bytes ∙ ap (λ l. l ++ kind) c.in_ok-push_str.ensures.bytes)
    ∙ append_assoc (before ++ name) kind end ∙ append_assoc before name (kind ++ end)
