use Rattle.std.specs.Option.{option_map_or}
use Rattle.std.proofs.Common.{◌≡◌, ◌<◌, List, false, ap, length, refl, subst, sym, ◌∙◌, Ok}
use Rattle.std.proofs.lemmas.Option.{slice_get_within}
use Rattle.run_plan.specs.declared.reply.Lease.{Lease as Leased}
use Rattle.run_plan.specs.declared.reply.Reply.TheVariants as reply
use Rattle.table_model.specs.Runs.{with_leg, leased_leg, LegState, RunState}
use Rattle.table_model.specs.Step.{lease_at}
use Rattle.table_model.specs.Groups.{holds, leg_holds}
use Rattle.table_model.specs.declared.holder.Holder.TheVariants.{Leg}
use Rattle.table_model.specs.TableState.{RunnerState, TableState}
use Rattle.run_table.specs.inner.IndexNamed.{index_named}
use Rattle.table_model.proofs.JobKeeps.{leg_in}
use Rattle.run_table.proofs.ClaimKeeps.{fitting_leg}
use Rattle.run_table.proofs.Leased.{leased_table}
use Rattle.run_table.proofs.BeforeSettling.{leased_may_settle, so_settles, sound_as_they_are}
use Rattle.run_table.proofs.table_data.TableData.lease.Goals as goal
use Rattle.run_table.proofs.table_data.TableData.lease.Goals.{After-lease}
use Rattle.wf_value.proofs.PassedOn.{same_Ok}

pub put-requires : goal.put-requires
put-requires c =
    c.requires.index ∙ ap (λ (t : TableState). index_named t.runners c.args.claim.now.runner) (sym c.self.view_is)
    ∙ ap (λ (r : RunnerState). index_named c.self.inside.runners r.name) (sym c.in_ok-runner.ensures.runner)

pub runner_and_replies-requires : goal.runner_and_replies-requires
runner_and_replies-requires c =
    let t = c.args.self.now in
    let p = c.args.leg in
    let ready = fitting_leg c.args.claim.now.labels t.runs p c.requires.fits in
    let place = (leg_in t.runs p ready.leg_of ready.is).place in
    subst (λ (s : TableState). p.run < length s.runs) (sym c.self.view_is) (slice_get_within t.runs p.run place.run place.run_is)

-- it is ready, so it holds its group
pub lease-requires : goal.lease-requires
lease-requires c =
    let t = c.args.self.now in
    let runs_are : c.self.inside.runs ≡ t.runs = ap (λ (s : TableState). s.runs) c.self.view_is in
    let ready = fitting_leg c.args.claim.now.labels t.runs c.args.leg c.requires.fits in
    record {
      sound = sound_as_they_are t c.self.inside.runs c.requires.sound runs_are;
      holds = ap (λ (runs : List RunState). holds runs (Leg c.args.leg)) runs_are
          ∙ ap (λ o. option_map_or (λ (x : LegState). leg_holds x.phase) o false) ready.is ∙ ap leg_holds ready.ready;
    }

-- the leg has the new lease
moved : (c : After-lease)
    → c.lease.new.self ≡ with_leg c.args.leg (λ _. leased_leg c.new-lease.result) c.self.inside.runs
moved c =
    c.lease.ensures

pub returns-clause-step : goal.returns-clause-step
returns-clause-step c =
    let lease_reply = lease_at c.self.inside.runs c.args.leg c.new-lease.result in
    ap Ok
    (leased_table c.self.inside.last_lease c.self.inside.forgotten c.self.inside.runs c.self.inside.runners c.args.self.now c.args.claim.now c.args.leg
    c.new-lease.result c.get-self-inside.result lease_reply c.in_ok-runner.runner
    c.put.new.self c.lease.new.self c.settle.new.self c.self.view_is c.new-lease.ensures
    c.get-self-inside.ensures.value refl (sym c.in_ok-runner.ensures.runner) (same_Ok _ _ c.in_ok-put.ensures.put)
    (moved (goal.at.returns-clause-step c).After-lease) c.settle.ensures
    ∙ ap (λ (l : Leased). (
      record {
        last_lease = c.get-self-inside.result;
        forgotten = c.self.inside.forgotten;
        runs = c.settle.new.self;
        runners = c.put.new.self;
      },
      reply.Lease l,
    )) (sym c.in_ok-runner.ensures.lease_reply))

pub settle-requires : goal.settle-requires
settle-requires c =
    let leased = λ (t : TableState). with_leg c.args.leg (λ _. leased_leg c.new-lease.result) t.runs in
    let may =
    so_settles (leased c.args.self.now) c.lease.new.self
    (moved (goal.at.settle-requires c).After-lease ∙ ap leased c.self.view_is)
    (leased_may_settle c.args.self.now c.args.claim.now.labels c.args.leg c.new-lease.result c.requires.sound c.requires.fits) in
    may.sound
