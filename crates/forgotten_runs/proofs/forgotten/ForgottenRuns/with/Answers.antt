use Rattle.std.specs.Prelude.{◌≡◌, ◌+◌, ◌++◌, length}
use Rattle.std.proofs.Common.{arith, ap, subst, sym, ◌∙◌}
use Rattle.wf_value.proofs.PassedOn.{same_Ok}
use Rattle.table_model.specs.Forgotten.{ForgottenRuns, with_forgotten}
use Rattle.table_model.specs.Sound.{ForgottenFit}
use Rattle.table_model.proofs.ForgottenMore.{more_fit}
use Rattle.forgotten_runs.proofs.forgotten.ForgottenRuns.with.Goals as goal

pub invariant_of-result : goal.invariant_of-result
invariant_of-result c =
    let runs = c.args.runs.now in
    let was : ForgottenRuns
    = record { through = c.self.inside.through; counts = c.self.inside.counts; deliveries = c.self.inside.deliveries } in
    let is : with_forgotten was runs
    ≡ record { through = c.self.inside.through + length runs; counts = c.in_ok-with.field-0; deliveries = c.in_ok-with-2.field-0 } =
    ap (λ cs. record { through = c.self.inside.through + length runs; counts = cs; deliveries = (with_forgotten was runs).deliveries })
    (same_Ok _ _ c.in_ok-with.ensures)
    ∙ ap (λ ds. record { through = c.self.inside.through + length runs; counts = c.in_ok-with.field-0; deliveries = ds })
    (same_Ok _ _ c.in_ok-with-2.ensures) in
    let through = ap (λ (f : ForgottenRuns). f.through) c.self.view_is in
    (subst ForgottenFit is (more_fit was runs c.self.invariant.0), omega (arith, through, c.requires))
