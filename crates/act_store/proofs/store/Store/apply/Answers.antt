use Rattle.std.proofs.Common.{rules, ◌≡◌, ◌++◌, [], ◌∷◌, refl, sym, subst}
use Rattle.std.specs.Prelude.{None, Option, Some, option_map}
use Rattle.table_model.specs.Step.{stepped}
use Rattle.command_encodings.specs.Commands.{command_bytes}
use Rattle.table_model.specs.TableState.{TableState}
use Rattle.definitions.specs.Disk.{EachSince}
use Rattle.act_disk.proofs.Moments.{started}
use Rattle.act_store.specs.StoreState.{Checkpoint, StoreState, RecoversToEither}
use Rattle.act_store.specs.Plain.{refusal_of_apply}
use Rattle.act_store.specs.inner.Promise.{IsCounted, IsConsistent}
use Rattle.act_store.specs.inner.StoreSeen.{as_checkpoint, as_state}
use Rattle.act_store.specs.LaterEntries.{with_encoded}
use Rattle.act_store.specs.declared.entry.Entry.{Entry}
use Rattle.act_store.proofs.Entering.{IsAdmitted, counted_entered, few_wait, is_admitted, record_is_short}
use Rattle.act_store.proofs.Refused.{apply_no_fault}
use Rattle.act_store.proofs.Settling.{consistent_entered}
use Rattle.act_store.proofs.Snapshots.{begun_entered, seen_grown}
use Rattle.act_store.proofs.store.Store.apply.Goals as goal

pub enter-requires : goal.enter-requires
enter-requires g c =
    let s = c.self.inside in
    let k = as_state s in
    let counted = c.self.invariant.0 in
    let command = c.args.command in
    let none : refusal_of_apply c.args.self.now command ≡ None = search rules in
    let admitted = is_admitted k command
    (subst (λ (v : StoreState g.row.D.Denot). refusal_of_apply v command ≡ None) (sym c.self.view_is) none) in
    record {
      few = few_wait k s.table s.pending_batch counted command admitted;
      fits = record_is_short k s.table s.pending_batch counted command admitted;
    }

pub invariant_of-self-2 : goal.invariant_of-self-2
invariant_of-self-2 g c =
    let s = c.self.inside in
    let k = as_state s in
    let counted = c.self.invariant.0 in
    let command = c.args.command in
    let none : refusal_of_apply c.args.self.now command ≡ None = search rules in
    let admitted : IsAdmitted k command = is_admitted k command
    (subst (λ (v : StoreState g.row.D.Denot). refusal_of_apply v command ≡ None) (sym c.self.view_is) none) in
    let entry : Entry = record { seat = c.args.seat; command = command; reply = (stepped s.table command).reply } in
    let history = c.enter.new.history.items in
    let is : history ≡ s.history.items ++ entry ∷ [] = c.in_ok-reply.ensures.history in
    let table : c.enter.new.table ≡ (stepped s.table command).table = c.in_ok-reply.ensures.table in
    let begun = c.enter.new.begun in
    let grown : begun ≡ option_map (with_encoded (command_bytes command)) s.begun = c.in_ok-reply.ensures.begun in
    let same : option_map as_checkpoint begun ≡ k.begun = seen_grown command s.begun begun grown in (
      subst (λ (o : Option Checkpoint). IsCounted (record k { history = history; begun = o }) c.enter.new.table c.enter.new.pending_batch)
          (sym same)
          (subst (λ (t : TableState). IsCounted (record k { history = history }) t c.enter.new.pending_batch) (sym table)
          (counted_entered k s.table s.pending_batch counted command entry history refl refl is c.enter.new.pending_batch
          c.in_ok-reply.ensures.pending_batch c.in_ok-reply.ensures.encoded admitted)),
      c.self.invariant.1,
      λ honest. subst (λ (o : Option Checkpoint). IsConsistent g.D.Disk.images s.areas.side s.other (record k { history = history; begun = o }))
          (sym same)
          (consistent_entered g.D.Disk.images s.areas.side s.other k counted.size history entry is counted.covers admitted.live
          (c.self.invariant.2 honest)),
      begun_entered s.base.value s.history.items s.generation s.areas.len s.areas.side s.other (g.D.Disk.honest s.disk) s.failed
          (g.D.Disk.seen s.disk) s.begun c.self.invariant.3 history entry begun is c.in_ok-reply.ensures.encoded grown,
    )

pub returns-in-Some-clause-any_moment : goal.returns-in-Some-clause-any_moment
returns-in-Some-clause-any_moment g c =
    let s = c.self.inside in
    let disk = g.D.Disk in
    subst (λ (v : StoreState g.row.D.Denot). disk.honest v.disk → EachSince disk.moment disk.images_since v.disk v.disk (RecoversToEither v))
    c.self.view_is
    (λ honest. started disk.moment disk.images_since s.disk (RecoversToEither (as_state s))
    (λ i left. (c.self.invariant.2 honest).each i (g.met.D.Disk.only_now s.disk honest i left)))

pub returns-in-Some-clause-no_fault : goal.returns-in-Some-clause-no_fault
returns-in-Some-clause-no_fault g c =
    let is : refusal_of_apply c.args.self.now c.args.command ≡ Some c.in-Some.refusal = search rules in
    apply_no_fault c.args.self.now c.args.command c.in-Some.refusal is
