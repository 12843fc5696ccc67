use Rattle.std.proofs.Common.{◌≡◌, ◌∙◌, ◌+◌, ◌<◌, List, ℕ, ◌++◌, drop, ap, arith, subst, sym}
use Rattle.gated_journal.specs.Appends.{body_in}
use Rattle.command_encodings.specs.Commands.{command_bytes}
use Rattle.act_store.specs.PendingBatch.{BatchState, with_command}
use Rattle.act_store.specs.inner.PendingRecord.{IsWithCommand, body_held, encoded_in}
use Rattle.act_store.proofs.Records.{encoded_longer}
use Rattle.act_store.proofs.pending_batch.PendingBatch.add.Goals as goal

pub returns-clause-added : goal.returns-clause-added
returns-clause-added c =
    let held = c.self.inside.record in
    let count = c.self.inside.count in
    let command = c.args.command.now in
    let body = body_in c.in_ok-bytes.bytes.items in
    let is : body ≡ body_held held = c.in_ok-bytes.ensures.body ∙ ap body_held c.take.ensures.value in
    let grows : IsWithCommand body command c.of.result =
    subst (λ (l : List ℕ). IsWithCommand body command l) (sym c.of.ensures) c.in_ok-added.ensures.added in
    let few : count < 4294967295 = omega (arith, c.requires.few, ap (λ (w : BatchState). w.count) c.self.view_is) in
    let encoded : drop 4 c.of.result ≡ encoded_in held ++ command_bytes command =
    encoded_longer held count command body c.of.result c.self.invariant is few grows in
    ap (λ (l : List ℕ). record { count = count + 1; encoded = l }) encoded
    ∙ ap (λ (w : BatchState). with_command w command) c.self.view_is
