-- What may move to another thread. The toolchain derives this for most types. It does not for an admitted event, which is
-- reference-counted and seen by its bytes, or for types that contain one, so their parts are named here.
use denote.Param.Send.{IsSend, IsSync, sendable, view_send, view_sync}
use Rattle.std.proofs.Crossing as crossing
use Rattle.std.proofs.sync.Arc.TheSendSync as arc
use Rattle.std.proofs.alloc.Global.TheSendSync as heap
use Rattle.std.proofs.vec.Vec.TheSendSync as vec
use Rattle.std.proofs.collections.BTreeMap.TheSendSync as map
use Rattle.std.proofs.string.String.TheSendSync as text
use Rattle.std.proofs.option.Option.TheSendSync as option
use Rattle.run_plan.proofs.planned.Plan.TheSendSync as plan
use Rattle.run_plan.proofs.small_text.SmallText.TheSendSync as small
use Rattle.wf_value.proofs.chars.Chars.TheSendSync as chars
use Rattle.wf_reader.proofs.concurrency.Concurrency.TheSendSync as concurrency
use Rattle.serde_json.proofs.value.Value.TheLaws.TheKnot as knot
use Rattle.serde_json.specs.contracts.value.Value.{the_row as value}
use Rattle.wf_reader.specs.contracts.contexts.Contexts.{the_row as contexts}
use Rattle.wf_reader.specs.contracts.contexts.Contexts.TheInside.{the_row as contexts_inside}
use denote.Param.SendFields.{declared_send, declared_sync, variants_send}
use Rattle.run_plan.specs.contracts.prepared.Admission.{the_row as admission, the_type as admission_type}
use Rattle.run_plan.specs.contracts.prepared.AdmittedBody.{the_row as admitted, the_type as admitted_type}
use Rattle.run_plan.specs.contracts.planned_workflow.PlannedWorkflow.{the_row as workflow, the_type as workflow_type}
use Rattle.run_plan.specs.contracts.prepared.Prepared.{the_row}
use Rattle.run_plan.specs.contracts.prepared.Prepared.TheInside.{the_row as inside, the_type as inside_type}
use Rattle.std.proofs.result.Result.TheSendSync as result
use Rattle.wf_value.proofs.refusal.Refusal.TheSendSync as refusal
use Rattle.run_plan.proofs.boxed_lease.BoxedLease.TheSendSync as lease
use Rattle.run_plan.proofs.number.Number.TheSendSync as number
use Rattle.run_plan.proofs.command.Claim.TheSendSync as claim
use Rattle.run_plan.proofs.command.Done.TheSendSync as done
use Rattle.run_plan.proofs.command.Attempt.TheSendSync as attempt
use Rattle.run_plan.proofs.command.Beat.TheSendSync as beat
use Rattle.act_sessions.proofs.transcript.Ending.TheSendSync as ending
use Rattle.table_model.proofs.job.Job.TheSendSync as job
use Rattle.table_model.proofs.phases.RunPhase.TheSendSync as phase
use Rattle.table_bindings.proofs.bindings.RunBindings.TheSendSync as bindings
use Rattle.group_book.proofs.book.Book.TheSendSync as book
use Rattle.run_marks.proofs.marks.RunBitmap.TheSendSync as bitmap
use Rattle.table_model.proofs.holder.Holder.TheSendSync as holder
use Rattle.std.proofs.hash.BuildHasherDefault.TheSendSync as hashers
use Rattle.std.proofs.hash.FoldHasher.TheSendSync as hasher
use Rattle.indexmap.proofs.map.IndexMap.TheSendSync as indexed
use Rattle.label_lists.proofs.lists.LabelLists.TheSendSync as lists
use Rattle.forgotten_runs.proofs.delivery_indexes.DeliveryIndexes.TheSendSync as deliveries
use Rattle.forgotten_runs.proofs.forgotten.ForgottenRuns.TheSendSync as forgotten
use Rattle.table_runs.proofs.rows.counts.Counted.TheSendSync as counted
use Rattle.table_runs.specs.contracts.rows.workflow.Workflow.{the_row as key}
use Rattle.table_runs.specs.contracts.rows.workflow.Workflow.TheInside.{the_row as key_inside}
use Rattle.table_runs.specs.contracts.rows.counts.Counts.{the_row as counts, the_type as counts_type}
use Rattle.table_runs.specs.contracts.rows.index.Index.{the_row as index, the_type as index_type}
use Rattle.run_table.proofs.runners.Runners.TheSendSync as runners
use Rattle.run_plan.specs.contracts.command.Command.{the_row as command, enum as command_variants}
use Rattle.run_plan.specs.contracts.reply.Reply.{the_row as reply, enum as reply_variants}
use Rattle.run_plan.specs.contracts.shared_body.SharedBody.{the_row as body}
use Rattle.run_plan.specs.contracts.shared_body.SharedBody.TheInside.{the_row as body_inside}
use Rattle.act_store.specs.contracts.entry.Entry.{the_row as entry, the_type as entry_type}
use Rattle.act_sessions.specs.contracts.transcript.LoggedExchange.{the_row as asked, the_type as asked_type}
use Rattle.act_sessions.specs.contracts.transcript.Transcript.{the_row as transcript, the_type as transcript_type}
use Rattle.table_model.specs.contracts.run.Run.{the_row as run}
use Rattle.table_model.specs.contracts.run.Run.TheInside.{the_row as run_inside, the_type as run_type}
use Rattle.table_runs.specs.contracts.rows.Rows.{the_row as rows}
use Rattle.table_runs.specs.contracts.rows.Rows.TheInside.{the_row as rows_inside, the_type as rows_type}
use Rattle.table_runs.specs.contracts.runs.Runs.{the_row as runs}
use Rattle.table_runs.specs.contracts.runs.Runs.TheInside.{the_row as runs_inside, the_type as runs_type}
use Rattle.run_table.specs.contracts.table_data.TableData.{the_row as table_data}
use Rattle.run_table.specs.contracts.table_data.TableData.TheInside.{the_row as table_data_inside, the_type as table_data_type}
use Rattle.run_table.specs.contracts.table.Table.{the_row as table}
use Rattle.run_table.specs.contracts.table.Table.TheInside.{the_row as table_inside, the_type as table_type}
use denote.RattleType.{RattleType}
use Rattle.act_disk.specs.declared.disk.Disk.{Ghosts}
use Rattle.gated_journal.proofs.area_pair.AreaPair.TheSendSync as standing
use Rattle.gated_journal.proofs.gate.GateState.TheSendSync as gate
use Rattle.act_store.proofs.layout.Layout.TheSendSync as layout
use Rattle.act_store.proofs.pending_batch.PendingBatch.TheSendSync as pending_batch
use Rattle.act_store.proofs.begun.Begun.TheSendSync as begun
use Rattle.act_store.specs.contracts.store.Store.{the_row as store}
use Rattle.act_store.specs.contracts.store.Store.TheInside.{the_row as store_inside, the_type as store_type}

ruleset parts = (
  sendable,
  vec.the_send,
  vec.the_sync,
  map.the_send,
  map.the_sync,
  text.the_send,
  text.the_sync,
  option.the_send,
  option.the_sync,
  crossing.frees,
  heap.the_send,
  heap.the_sync,
  heap.the_field_send,
  heap.the_field_sync,
)

value_send : IsSend value
value_send = search (parts, knot.send-Value) depth 12

value_sync : IsSync value
value_sync = search (parts, knot.sync-Value) depth 12

contexts_send : IsSend contexts
contexts_send = view_send contexts_inside _ _ _ _ (search (parts, value_send) depth 12)

contexts_sync : IsSync contexts
contexts_sync = view_sync contexts_inside _ _ _ _ (search (parts, value_sync) depth 12)

workflow_send : IsSend workflow
workflow_send =
    declared_send workflow_type (
      search (parts, chars.the_send) depth 6,
      (
        search (parts, chars.the_send) depth 6,
        (search (parts, chars.the_send) depth 6, (search (parts, concurrency.the_send) depth 8, (search (parts, plan.the_send) depth 6, tt))),
      ),
    )

workflow_sync : IsSync workflow
workflow_sync =
    declared_sync workflow_type (
      search (parts, chars.the_sync) depth 6,
      (
        search (parts, chars.the_sync) depth 6,
        (search (parts, chars.the_sync) depth 6, (search (parts, concurrency.the_sync) depth 8, (search (parts, plan.the_sync) depth 6, tt))),
      ),
    )

admission_send : IsSend admission
admission_send =
    declared_send admission_type (search (parts, small.the_send) depth 8, (search (parts, small.the_send) depth 8, tt))

admission_sync : IsSync admission
admission_sync =
    declared_sync admission_type (search (parts, small.the_sync) depth 8, (search (parts, small.the_sync) depth 8, tt))

admitted_send : IsSend admitted
admitted_send = declared_send admitted_type (search parts depth 8, (search (parts, contexts_send) depth 6, tt))

admitted_sync : IsSync admitted
admitted_sync = declared_sync admitted_type (search parts depth 8, (search (parts, contexts_sync) depth 6, tt))

inside_send : IsSend inside
inside_send =
    declared_send inside_type (
      search (parts, arc.the_send, admission_send, admission_sync) depth 12,
      (
        search (parts, arc.the_send, admitted_send, admitted_sync) depth 12,
        (search (parts, arc.the_send, workflow_send, workflow_sync) depth 12, tt),
      ),
    )

pub prepared_send : IsSend the_row
prepared_send = view_send inside _ _ _ _ inside_send

command_send : IsSend command
command_send =
    variants_send command_variants (
      (search (parts, prepared_send) depth 6, tt),
      (
        (search (parts, claim.the_send) depth 6, tt),
        (
          (search (parts, done.the_send) depth 6, tt),
          ((search (parts, beat.the_send) depth 6, tt), ((search (parts, number.the_send) depth 6, tt), ((search (parts, small.the_send) depth 6, tt), ((search (parts, number.the_send) depth 6, tt), ((search (parts, number.the_send) depth 6, tt), ((search (parts, attempt.the_send) depth 6, tt), ((search (parts, number.the_send) depth 6, tt), ((search (parts, small.the_send) depth 6, tt), tt)))))))),
        ),
      ),
    )

body_send : IsSend body
body_send = view_send body_inside _ _ _ _ (search (parts, prepared_send) depth 6)

reply_send : IsSend reply
reply_send =
    variants_send reply_variants (
      (search (parts, number.the_send) depth 6, tt),
      ((search (parts, lease.the_send) depth 6, tt), (tt, (tt, (tt, (tt, ((search (parts, chars.the_send) depth 6, tt), ((body_send, tt), ((search (parts, attempt.the_send) depth 6, tt), ((search parts depth 6, tt), ((search (parts, refusal.the_send) depth 6, tt), tt)))))))))),
    )

pub entry_send : IsSend entry
entry_send = declared_send entry_type (search parts depth 6, (search (parts, command_send) depth 6, (search (parts, reply_send) depth 6, tt)))

asked_send : IsSend asked
asked_send = declared_send asked_type (search (parts, command_send) depth 6, (search (parts, reply_send, refusal.the_send, result.the_send) depth 8, tt))

pub transcript_send : IsSend transcript
transcript_send = declared_send transcript_type (search (parts, asked_send) depth 10, (search parts depth 6, (search (parts, ending.the_send) depth 6, tt)))

run_send : IsSend run
run_send =
    view_send run_inside _ _ _ _
    (declared_send run_type (
      search (parts, number.the_send) depth 6,
      (
        search (parts, number.the_send) depth 6,
        (search (parts, prepared_send) depth 6, (search (parts, number.the_send) depth 6, (search (parts, phase.the_send) depth 6, (search parts depth 6, (search (parts, job.the_send) depth 10, tt))))),
      ),
    ))

-- the workflow by which runs are counted is a share of an event
key_send : IsSend key
key_send = view_send key_inside _ _ _ _ (search (parts, prepared_send) depth 6)

counts_send : IsSend counts
counts_send = declared_send counts_type (search (parts, indexed.the_send, key_send, counted.the_send, hashers.the_send, hasher.the_send) depth 12, tt)

index_send : IsSend index
index_send =
    declared_send index_type (
      search (parts, deliveries.the_send) depth 6,
      (search (parts, counts_send) depth 6, (search (parts, lists.the_send) depth 6, tt)),
    )

rows_send : IsSend rows
rows_send =
    view_send rows_inside _ _ _ _
    (declared_send rows_type (
      search (parts, run_send) depth 10,
      (search (parts, bindings.the_send) depth 10, (search (parts, index_send) depth 6, (search (parts, bitmap.the_send) depth 6, (search parts depth 6, tt)))),
    ))

runs_send : IsSend runs
runs_send =
    view_send runs_inside _ _ _ _
    (declared_send runs_type (
      search (parts, rows_send) depth 6,
      (search (parts, book.the_send, holder.the_send) depth 10, (search (parts, bitmap.the_send) depth 6, (search parts depth 6, tt))),
    ))

table_data_send : IsSend table_data
table_data_send = view_send table_data_inside _ _ _ _ (declared_send table_data_type (search parts depth 6, (search (parts, forgotten.the_send) depth 6, (search (parts, runs_send) depth 6, (search (parts, runners.the_send) depth 6, tt)))))

pub table_send : IsSend table
table_send = view_send table_inside _ _ _ _ (declared_send table_type (search (parts, table_data_send) depth 6, (search parts depth 6, tt)))

pub store_send : (D : RattleType) (g : Ghosts D.Denot) → IsSend D → IsSend (store D g)
store_send D g disk =
    view_send (store_inside D g) _ _ _ _
    (declared_send (store_type D g) (
      search (parts, disk) depth 6,
      (
        search (parts, standing.the_send) depth 6,
        (
          search (parts, gate.the_send) depth 6,
          (
            search parts depth 6,
            (
              search (parts, table_send) depth 6,
              (search (parts, entry_send) depth 10, (search parts depth 6, (search parts depth 6, (search parts depth 6, (search (parts, layout.the_send) depth 6, (search (parts, pending_batch.the_send) depth 6, (search (parts, begun.the_send) depth 8, (search parts depth 6, tt)))))))),
            ),
          ),
        ),
      ),
    ))
