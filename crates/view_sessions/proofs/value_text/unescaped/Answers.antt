use Rattle.std.proofs.Common.{◌≡◌, ◌∙◌, ◌++◌, List, ℕ, ap, sym, subst}
use Rattle.std.specs.Prelude.{Ok, Some}
use Rattle.std.specs.Str.{IsUtf8}
use Rattle.std.proofs.lemmas.Str.{IsUtf8-string_bytes}
use Rattle.percent_encoding.specs.Iter.{decoded_bytes}
use Rattle.percent_encoding.specs.Percent.{percent_decode}
use Rattle.view_sessions.proofs.Parts.{read_text, read_no_text}
use Rattle.view_sessions.proofs.value_text.unescaped.Goals as goal

pub returns-in-Ok : goal.returns-in-Ok
returns-in-Ok c =
    let read = percent_decode c.args.value.now in
    let bytes : c.append_to.new.out.items ≡ read =
    c.in_ok-append_to.ensures.ok ∙ ap (λ (l : List ℕ). l ++ decoded_bytes c.percent_decode.result) c.new-bytes.ensures.items ∙ c.percent_decode.ensures.bytes in
    let text = ap (λ v. v.items) c.in-Ok.ensures.ok ∙ bytes in
    ap Ok (read_text read (subst IsUtf8 text (IsUtf8-string_bytes c.in-Ok.text)) ∙ ap Some (sym text ∙ sym c.new.ensures))

pub returns : goal.returns
returns c =
    let read = percent_decode c.args.value.now in
    let bytes : c.append_to.new.out.items ≡ read =
    c.in_ok-append_to.ensures.ok ∙ ap (λ (l : List ℕ). l ++ decoded_bytes c.percent_decode.result) c.new-bytes.ensures.items ∙ c.percent_decode.ensures.bytes in
    ap Ok (read_no_text read (λ valid. c.in-Err.ensures.succeeds (subst IsUtf8 (sym bytes) valid)))
