use Rattle.std.proofs.Common.{sym, ◌∙◌, ap, subst}
use Rattle.std.specs.List.{AllByRecursion, flat_map}
use Rattle.std.proofs.lemmas.List.Folds.{flat_map-map}
use Rattle.table_model.specs.inner.Cells.{JobCells}
use Rattle.table_model.proofs.Found.{each_of_map}
use Rattle.command_encodings.specs.Commands.{admit}
use Rattle.table_text.specs.Tables.{flag_byte, job, run_byte}
use Rattle.table_text.specs.inner.Writing.{JobHasBytes}
use Rattle.table_text.proofs.TableKnown.{all_seen, run_bytes, run_takes}
use Rattle.table_text.proofs.push_table.RunPush.push_to.Goals as goal

pub push_list-requires : goal.push_list-requires
push_list-requires c =
    each_of_map JobHasBytes (λ (j : JobCells). j.state) c.jobs.result.now
    (subst (AllByRecursion JobHasBytes) (sym c.jobs.ensures) c.requires.1)

pub returns-clause-takes : goal.returns-clause-takes
returns-clause-takes c =
    run_takes c.args.self.now c.requires (subst admit.Takes c.prepared.ensures c.in_ok-push_admit.ensures.takes)
    (subst (AllByRecursion job.Takes) c.jobs.ensures
    (all_seen job.Takes (λ (j : JobCells). j.state) c.jobs.result.now c.in_ok-push_list.ensures.takes))

pub returns-clause-bytes : goal.returns-clause-bytes
returns-clause-bytes c =
    run_bytes _ _ _ _ _ _ _ _ _ _ _ _ _ _ c.in_ok-push_admit.ensures.bytes c.in_ok-push_word_and_bytes.ensures.bytes
    c.in_ok-push_list.ensures.bytes
    (ap admit.encoding c.prepared.ensures) (c.get.ensures.value ∙ c.attempt.ensures) (c.run_byte-phase.ensures ∙ ap run_byte c.phase.ensures)
    (c.flag_byte-stopping.ensures ∙ ap flag_byte c.is_stopping.ensures)
    (sym (flat_map-map job.encoding (λ (j : JobCells). j.state) c.jobs.result.now) ∙ ap (flat_map job.encoding) c.jobs.ensures)
