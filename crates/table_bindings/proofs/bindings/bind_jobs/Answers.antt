use Rattle.std.specs.Prelude.{◌≡◌, ℕ, ◌<◌, ◌++◌, ◌∷◌, [], List, Some, length, slice_get, refl}
use Rattle.std.proofs.Common.{arith, ap, sym, subst, ◌∙◌}
use Rattle.std.proofs.lemmas.Option.{same_Some, slice_get_read}
use Rattle.run_plan.specs.PlanOf.{plan_of}
use Rattle.run_plan.specs.declared.planned.PlannedJob.{PlannedJob}
use Rattle.table_bindings.specs.Bindings.{JobSays}
use Rattle.table_bindings.specs.inner.BoundJobs.{AreBeside}
use Rattle.table_bindings.specs.declared.bindings.JobBindings.{JobBindings}
use Rattle.table_bindings.specs.declared.group_keys.HolderKey.{HolderKey}
use Rattle.table_bindings.specs.declared.label_numbers.ListNumbers.{ListNumbers}
use Rattle.table_bindings.proofs.Binding.{one_pushed}
use Rattle.table_bindings.proofs.BoundJobs.{one_beside}
use Rattle.table_bindings.proofs.LabelNumbers.{grows_more}
use Rattle.table_bindings.proofs.bindings.bind_jobs.Goals as goal

pub loop-j-preserved : goal.loop-j-preserved
loop-j-preserved c =
    let identity = c.args.identity.now in
    let plan = c.as_slice-plan.result.now in
    let was = c.loop-j.bound in
    let now = c.add.new.self in
    let old = c.loop-j.lists in
    let new = c.add.new.lists in
    let job = c.in_ok-job.job in
    let keys = c.in_ok-add.ensures.keys in
    let numbers = c.in_ok-add.ensures.lists in
    let said : ℕ → JobBindings → Type 0 = λ k kept. (planned : PlannedJob) → slice_get (plan_of identity.event.body) k ≡ Some planned
    → JobSays identity k planned kept in
    let is_plan : plan ≡ plan_of identity.event.body =
    c.as_slice-plan.ensures ∙ c.plan.ensures ∙ ap (λ a. plan_of a.body) c.prepared.ensures in
    let within : c.loop-j.j < length plan = omega arith in
    let at : slice_get plan c.loop-j.j ≡ Some c.index-plan-j.result =
    slice_get_read plan (length plan) c.loop-j.j c.index-plan-j.result refl within c.index-plan-j.is in
    let pushed = one_pushed said was.jobs.items now.jobs.items job c.loop-j.j c.in_ok-add.ensures.jobs c.loop-j.invariant.0
    c.loop-j.invariant.1
    (λ planned is.
    let same = same_Some c.index-plan-j.result planned (sym at ∙ ap (λ p. slice_get p c.loop-j.j) is_plan ∙ is) in
    subst (λ (x : PlannedJob). JobSays identity c.loop-j.j x job) same c.in_ok-job.ensures.says) in
    let beside = one_beside old new c.add.ensures.grows c.args.r was.jobs.items was.keys.items was.lists.items c.loop-j.invariant.2 job
    keys.0 numbers.0 keys.2 numbers.2 in (
      pushed.0,
      pushed.1,
      subst (λ (js : List JobBindings). AreBeside new c.args.r js now.keys.items now.lists.items) (sym c.in_ok-add.ensures.jobs)
          (subst (λ (ks : List (List HolderKey)). AreBeside new c.args.r (was.jobs.items ++ job ∷ []) ks now.lists.items) (sym keys.1)
          (subst (λ (ns : List ListNumbers). AreBeside new c.args.r (was.jobs.items ++ job ∷ []) (was.keys.items ++ keys.0 ∷ []) ns)
          (sym numbers.1) beside)),
      grows_more c.args.lists.now old new c.loop-j.invariant.3 c.add.ensures.grows,
    )

pub add-requires : goal.add-requires
add-requires c = c.loop-j.invariant.3.places 0 c.args.r c.requires
