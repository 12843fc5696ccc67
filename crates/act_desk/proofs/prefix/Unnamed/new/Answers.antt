use Rattle.std.proofs.Common.{◌≡◌, ◌∙◌, ℕ, ap, sym, true}
use Rattle.logbook.specs.Pages.{Named, Nib}
use Rattle.act_desk.specs.inner.Lines.{head_of}
use Rattle.act_desk.proofs.Lines.{unused_line, unused_next}
use Rattle.act_desk.proofs.prefix.Unnamed.new.Goals as goal

pub invariant_of-result : goal.invariant_of-result
invariant_of-result c =
    let made = c.open-seen.ensures in
    let pen = c.open-seen.result.1 in
    let token = c.reserve-token in
    let key : pen.nib.key ≡ 0 = ap (λ (n : Nib). n.key) made.4 in
    let named : ℕ → Named = λ k. record { tracked = true; key = k; book = pen.book } in
    let unused = token.ensures.token.2 in
    record {
      word_is = c.tracked-word.ensures.0 ∙ (ap named key ∙ ap head_of (made.2 ∙ sym token.ensures.seen.0));
      token_is = (token.ensures.token.0 ∙ sym token.ensures.seen.0, token.ensures.token.1);
      empty = unused_line token.result.nib.key token.new.seen.log unused;
      next = unused_next token.result.nib.key token.new.seen.log unused;
    }
