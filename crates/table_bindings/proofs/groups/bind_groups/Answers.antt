use Rattle.std.specs.Prelude.{◌≡◌, List, Some, slice_get}
use Rattle.std.proofs.Common.{sym, subst}
use Rattle.wf_reader.specs.Event.{event_of}
use Rattle.table_model.specs.Groups.{concurrency_of_leg}
use Rattle.table_model.specs.LegContext.{context_of}
use Rattle.table_bindings.specs.BoundGroups.{SaysSo, facts_by}
use Rattle.table_bindings.specs.declared.groups.GroupRequest.{GroupRequest}
use Rattle.table_bindings.proofs.Binding.{legs_say}
use Rattle.table_bindings.proofs.groups.bind_groups.Goals as goal

pub returns-in_ok-legs-in-Some-clause-says : goal.returns-in_ok-legs-in-Some-clause-says
returns-in_ok-legs-in-Some-clause-says c = λ l.
    let identity = c.args.identity.now in
    let job = c.args.job.now in
    let repository = (event_of identity.event.body).repo in
    let is : job.concurrency ≡ Some c.in-Some.requested = cc in
    subst
    (λ (kept : List GroupRequest). SaysSo repository (λ results. context_of (facts_by identity c.args.j job l results)) (concurrency_of_leg job l)
    (slice_get kept l))
    (sym c.new.ensures)
    (legs_say repository (λ i results. context_of (facts_by identity c.args.j job i results)) job c.in-Some.requested
    c.in_ok-legs-in-Some.legs.items is
    c.in_ok-legs-in-Some.ensures.each c.in_ok-legs-in-Some.ensures.says l)
