use Rattle.std.specs.Prelude.{find, length}
use Rattle.std.proofs.Common.{ap, subst, ◌≤◌, ◌∙◌}
use Rattle.definitions.specs.Limits.{max_runs}
use Rattle.group_book.specs.Books.{slot_in}
use Rattle.table_model.specs.Groups.{all_holders, is_pending_in}
use Rattle.table_runs.specs.declared.runs.Runs.TheInside.{Inside}
use Rattle.table_runs.proofs.FoundBySlot.{pending_found, pending_within, most_within}
use Rattle.table_runs.proofs.runs.Runs.pending.Goals as goal

pub returns-clause-holder : goal.returns-clause-holder
returns-clause-holder c =
    let g = c.args.group.now in
    c.pending.ensures.slot ∙ ap (λ (w : Inside). (slot_in w.book.entries g).pending) c.self-inside.view_is
    ∙ pending_found c.self.inside.rows.runs c.self.inside.book.entries c.self.invariant.0.exact g
    ∙ ap (λ runs. find (is_pending_in runs g) (all_holders runs)) c.self.view_is

pub returns-clause-within : goal.returns-clause-within
returns-clause-within c =
    let g = c.args.group.now in
    most_within c.self.inside.rows.runs c.pending.result
    (subst (λ (w : Inside). length w.rows.runs ≤ max_runs) c.self-inside.view_is c.self-inside.invariant.0.few)
    (pending_within c.self.inside.rows.runs c.self.inside.book.entries c.self.invariant.0.exact g c.pending.result
    (c.pending.ensures.slot ∙ ap (λ (w : Inside). (slot_in w.book.entries g).pending) c.self-inside.view_is))
