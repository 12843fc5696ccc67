use Rattle.std.proofs.Common.{◌≡◌, ◌∙◌, ◌+◌, ap, false, refl}
use Rattle.act_store.specs.Plain.{entered, refusal_of_apply}
use Rattle.act_desk.proofs.Unfailed.{fault_told, live_by, never_refused}
use Rattle.act_desk.proofs.alone.submit.Goals as goal

pub returns-in_err-commit-clause-refused : goal.returns-in_err-commit-clause-refused
returns-in_err-commit-clause-refused g c =
    never_refused (refusal_of_apply c.args.store.now c.args.command) _ c.apply.result _ c.in_ok-reply.was c.apply.ensures.refused

pub returns-in_err-commit-clause-faults : goal.returns-in_err-commit-clause-faults
returns-in_err-commit-clause-faults g c =
    let s = c.args.store.now in
    let live : s.failed ≡ false = live_by s.failed _ c.apply.result _ c.in_ok-reply.was c.apply.ensures.refused in
    let same : c.apply.new.self ≡ entered s 0 c.args.command = c.in_ok-reply.ensures.entered.0 in
    let live1 : c.apply.new.self.failed ≡ false = rw same live in
    let disk : c.apply.new.self.disk ≡ s.disk = rw same refl in
    fault_told c.from_residual-in_err-commit.result c.in_err-commit.field-0.0 (g.D.Disk.fault_count s.disk)
    (g.D.Disk.fault_count c.commit.new.self.disk) c.from_residual-in_err-commit.ensures.1 (c.in_err-commit.ensures.refused live1)
    (c.in_err-commit.ensures.faults live1 ∙ ap (λ (d : g.row.D.Denot). g.D.Disk.fault_count d + 1) disk)

pub returns-clause-refused : goal.returns-clause-refused
returns-clause-refused g c =
    never_refused (refusal_of_apply c.args.store.now c.args.command) _ c.apply.result _ c.in_ok-reply.was c.apply.ensures.refused
