-- What is kept of forgotten runs fits once more runs are forgotten.
use Rattle.std.specs.Prelude.{◌≡◌, ◌+◌, ◌-◌, ◌++◌, ℕ, List, [], length, min}
use Rattle.std.proofs.Common.{arith, ap, ◌∙◌, length-append}
use Rattle.std.proofs.lemmas.List.{length-drop, length-map}
use Rattle.table_model.specs.Forgotten.{ForgottenRuns, deliveries_of, max_kept_deliveries, with_forgotten}
use Rattle.table_model.specs.Runs.{RunState}
use Rattle.table_model.specs.Sound.{ForgottenFit}
use Rattle.table_model.proofs.Counts.{are_counted}

pub kept_length : (deliveries : List (List ℕ)) (runs : List RunState)
    → length (with_forgotten (record { through = 0; counts = []; deliveries = deliveries }) runs).deliveries
    ≡ min (length deliveries + length runs) max_kept_deliveries
kept_length deliveries runs =
    let all = length-append deliveries (deliveries_of runs) ∙ ap (λ n. length deliveries + n) (length-map runs (λ x. x.admitted.delivery)) in
    let less = length-drop (length (deliveries ++ deliveries_of runs) - max_kept_deliveries) (deliveries ++ deliveries_of runs) in
    omega (arith, all, less)

pub more_fit : (forgotten : ForgottenRuns) (runs : List RunState) → ForgottenFit forgotten → ForgottenFit (with_forgotten forgotten runs)
more_fit forgotten runs fit =
    let counts = are_counted forgotten.counts runs fit.counts_in_order fit.each_counts in
    let sum = counts.sum in
    let all = fit.all_counted in
    let kept = kept_length forgotten.deliveries runs in
    let before = fit.last_are_kept in
    record {
      counts_in_order = counts.in_order;
      each_counts = counts.each;
      all_counted = omega (arith, sum, all);
      last_are_kept = omega (arith, kept, before);
    }
