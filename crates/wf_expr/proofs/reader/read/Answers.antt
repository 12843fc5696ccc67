use Rattle.std.proofs.Common.{◌≡◌, ap₂, sym, ◌∙◌}
use Rattle.std.specs.Prelude.{Some, None}
use Rattle.std.specs.Str.{chars}
use Rattle.wf_expr.specs.inner.Parsing.{run, plain_piece}
use Rattle.wf_expr.specs.declared.reader.Reader.TheVariants.{OperandDue}
use Rattle.wf_expr.proofs.OpeningLemmas.{split-pieces}
use Rattle.wf_expr.proofs.reader.read.Goals as goal

pub returns-in-None : goal.returns-in-None
returns-in-None c = rw (split-pieces c.args.text.now None c.utf8.text c.in-None.ensures.cases) c.plain.ensures

pub returns-in_ok-pieces-in-Some : goal.returns-in_ok-pieces-in-Some
returns-in_ok-pieces-in-Some c =
    let ok = c.in_ok-pieces-in-Some.ensures in
    let prefix : plain_piece c.in-Some.prefix.now ≡ c.in_ok-pieces-in-Some.pieces = cc in
    rw (split-pieces c.args.text.now (Some (c.in-Some.prefix, c.in-Some.rest)) c.utf8.text c.in-Some.ensures.cases
    ∙ ap₂ (λ ps os. run (OperandDue ps os) (chars c.in-Some.rest.now)) prefix (sym c.none.ensures)) c.read_on.ensures
