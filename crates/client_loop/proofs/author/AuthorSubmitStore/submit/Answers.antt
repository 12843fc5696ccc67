use Rattle.std.proofs.Common.{◌≡◌, ◌∙◌, ◌++◌, ◌∷◌, [], ap}
use Rattle.std.specs.Prelude.{Option}
use Rattle.run_plan.specs.declared.command.Command.{Command}
use Rattle.act_sessions.specs.Exchange.{Response}
use Rattle.act_sessions.proofs.Taken.{command_taken}
use Rattle.client_loop.specs.inner.Authors.{IsEntered}
use Rattle.client_loop.specs.declared.author.Author.{Author}
use Rattle.client_loop.proofs.author.AuthorSubmitStore.submit.Goals as goal

pub returns : goal.returns
returns g c =
    let old = c.args.self.now in
    let answer = c.enter-answer.result in
    let new : Author = record old { exchanges = c.add.new.self } in
    let kept : c.add.new.self ≡ old.exchanges ++ (c.args.command, answer) ∷ [] =
    c.add.ensures ∙ ap (λ (k : Command). old.exchanges ++ (k, answer) ∷ []) c.of-was.ensures in
    command_taken g.P.Protocol.rules c.args.count
    (λ (r : Option Response). IsEntered old c.args.store.now c.args.command r new c.enter-answer.new.store) c.args.command c.args.closes answer
    c.text_of_answer.result (c.enter-answer.ensures, kept)
    (c.text_of_answer.ensures c.args.command)
