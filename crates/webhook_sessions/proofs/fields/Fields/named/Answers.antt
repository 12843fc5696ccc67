use Rattle.std.proofs.Common.{ap, sym, ◌∙◌, subst, [], ◌∷◌, ◌++◌}
use Rattle.http1.specs.Text.{eq_ignore_case}
use Rattle.webhook_sessions.specs.Fields.{OccursAs}
use Rattle.webhook_sessions.proofs.NamedValues.{named_more, named_other, values_before}
use Rattle.webhook_sessions.proofs.fields.Fields.named.Goals.{then-eq_ignore_case, else-eq_ignore_case}
use Rattle.webhook_sessions.proofs.fields.Fields.named.Goals as goal

pub loop-span-preserved : goal.loop-span-preserved
loop-span-preserved c =
    let name = c.args.name.now in
    let prefix = c.self.inside.prefix.now in
    let spans = c.self.inside.spans.now in
    let i = c.loop-span.span-index in
    let is_it = sym (c.eq_ignore_case.ensures ∙ ap (λ n. eq_ignore_case n name) c.of.ensures) in
    elim c.if-eq_ignore_case.branch [
      | then-eq_ignore_case w ↦
          let before = values_before name prefix spans i in
          let more = named_more name prefix spans i _ c.loop-span-test.true (is_it ∙ w.if-eq_ignore_case.true) in
          let value = ap (λ v. before ++ v ∷ []) w.of-then-eq_ignore_case.ensures in
          let occurs = w.once_more-found.ensures before c.loop-span.invariant in
          rw w.found-is (subst (λ values. OccursAs values w.once_more-found.result) (value ∙ sym more) occurs)
      | else-eq_ignore_case w ↦
          let same = named_other name prefix spans i _ c.loop-span-test.true (is_it ∙ w.if-eq_ignore_case.false) in
          rw w.found-is (subst (λ values. OccursAs values c.loop-span.found) (sym same) c.loop-span.invariant)
    ]
