use Rattle.std.proofs.Common.{inr, ap, sym, ◌∙◌, arith}
use Rattle.serde_json.specs.Read.{read}
use Rattle.wf_reader.proofs.BodyCases.{never_both, no_text, text_read}
use Rattle.wf_reader.proofs.body.read_body.Goals as goal

pub returns-in_default-clause-gives : goal.returns-in_default-clause-gives
returns-in_default-clause-gives c = inr (no_text c.args.bytes.now (omega arith) c.in_default.ensures.cases.0)

pub returns-in-Ok-from_str-clause-gives : goal.returns-in-Ok-from_str-clause-gives
returns-in-Ok-from_str-clause-gives c =
    text_read c.args.bytes.now _ (omega arith) c.in-Ok.ensures.cases.1 (sym (ap read c.in-Ok.ensures.cases.0) ∙ c.in-Ok-from_str.ensures.ok)

pub returns-in-Ok-from_str-clause-no_text : goal.returns-in-Ok-from_str-clause-no_text
returns-in-Ok-from_str-clause-no_text c = λ _ not_so. absurd (never_both c.args.bytes.now c.in-Ok.ensures.cases.1 not_so)

pub returns-in-Err-clause-no_text : goal.returns-in-Err-clause-no_text
returns-in-Err-clause-no_text c = λ _ not_so. absurd (never_both c.args.bytes.now c.in-Ok.ensures.cases.1 not_so)
