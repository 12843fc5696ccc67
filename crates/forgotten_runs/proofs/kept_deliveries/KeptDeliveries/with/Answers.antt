use Rattle.std.specs.Prelude.{◌≡◌, ◌-◌, ◌++◌, List, ℕ, drop, length, take, Ok}
use Rattle.std.proofs.Common.{arith, ap, subst, sym, ◌∙◌}
use Rattle.std.proofs.lemmas.List.{length-drop, take_all}
use Rattle.wf_value.specs.Gives.{Gives}
use Rattle.wf_value.proofs.PassedOn.{same_Ok}
use Rattle.table_model.specs.Forgotten.{deliveries_of, last_of, max_kept_deliveries}
use Rattle.table_model.specs.Runs.{RunState}
use Rattle.forgotten_runs.proofs.KeptDeliveries.{last_kept}
use Rattle.forgotten_runs.proofs.kept_deliveries.KeptDeliveries.with.Goals as goal

-- the elements from an index on
all_after : {X : Type 0} (k : ℕ) (xs : List X) → take (length xs - k) (drop k xs) ≡ drop k xs
all_after k xs = let long = length-drop k xs in take_all (length xs - k) (drop k xs) (omega (arith, long))

pub returns : goal.returns
returns c =
    let had = c.self.inside.deliveries.items in
    let runs = c.args.runs.now in
    let past = c.saturating_sub-past.result in
    let low = c.min.result in
    let over = c.saturating_sub.result in
    let long = ap (λ (ds : List (List ℕ)). length ds) c.deref.ensures.value in
    let kept = last_kept had runs past low over (omega (arith, c.saturating_sub-past.ensures, c.len-had.ensures, c.deref.ensures.len, long))
    (omega (arith, c.min.ensures, c.len-had.ensures, c.deref.ensures.len, long))
    (omega (arith, c.saturating_sub.ensures, c.len-had.ensures, c.deref.ensures.len, long)) in
    let copied : c.in_ok-kept.kept.items ≡ drop low had =
    sym (same_Ok _ _ c.in_ok-kept.ensures.gives) ∙ all_after low c.deref.result.now
    ∙ ap (λ (ds : List (List ℕ)). drop low ds) c.deref.ensures.value in
    let pushed : c.push_deliveries.new.kept.items ≡ last_of max_kept_deliveries (had ++ deliveries_of runs) =
    sym (same_Ok _ _ c.in_ok-push_deliveries.ensures)
    ∙ ap (λ (rs : List RunState). c.in_ok-kept.kept.items ++ deliveries_of rs) (all_after over runs)
    ∙ ap (λ (ds : List (List ℕ)). ds ++ deliveries_of (drop over runs)) copied ∙ sym kept in
    subst (λ (ds : List (List ℕ)). Gives (λ k. k) c.of.result (Ok ds))
    (pushed ∙ ap (λ (ds : List (List ℕ)). last_of max_kept_deliveries (ds ++ deliveries_of runs)) c.self.view_is) c.of.ensures
