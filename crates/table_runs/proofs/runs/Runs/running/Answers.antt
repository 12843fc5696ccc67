use Rattle.std.specs.Prelude.{find, length}
use Rattle.std.proofs.Common.{ap, subst, ◌≤◌, ◌∙◌}
use Rattle.definitions.specs.Limits.{max_runs}
use Rattle.group_book.specs.Books.{slot_in}
use Rattle.table_model.specs.Groups.{all_holders, is_in_progress_in}
use Rattle.table_runs.specs.declared.runs.Runs.TheInside.{Inside}
use Rattle.table_runs.proofs.FoundBySlot.{in_progress_found, in_progress_within, most_within}
use Rattle.table_runs.proofs.runs.Runs.running.Goals as goal

pub returns-clause-holder : goal.returns-clause-holder
returns-clause-holder c =
    let g = c.args.group.now in
    c.running.ensures.slot ∙ ap (λ (w : Inside). (slot_in w.book.entries g).in_progress) c.self-inside.view_is
    ∙ in_progress_found c.self.inside.rows.runs c.self.inside.book.entries c.self.invariant.0.exact g
    ∙ ap (λ runs. find (is_in_progress_in runs g) (all_holders runs)) c.self.view_is

pub returns-clause-within : goal.returns-clause-within
returns-clause-within c =
    let g = c.args.group.now in
    most_within c.self.inside.rows.runs c.running.result
    (subst (λ (w : Inside). length w.rows.runs ≤ max_runs) c.self-inside.view_is c.self-inside.invariant.0.few)
    (in_progress_within c.self.inside.rows.runs c.self.inside.book.entries c.self.invariant.0.exact g c.running.result
    (c.running.ensures.slot ∙ ap (λ (w : Inside). (slot_in w.book.entries g).in_progress) c.self-inside.view_is))
