-- A table without its first runs says of each other run, of its legs and of their groups what it said before.
use Rattle.std.specs.Prelude.{◌≡◌, ℕ, zero, suc, ◌+◌, ◌&&◌, List, [], ◌∷◌, drop, length, filter_map, Bool, true, false, Option, Some, None}
use Rattle.std.specs.Prelude.{option_map, option_and_then, slice_get, refl}
use Rattle.std.specs.Fmt.{decimal}
use Rattle.std.specs.List.{cons_option}
use Rattle.std.specs.Option.{option_map_or}
use Rattle.std.proofs.Common.{arith, ap, sym, ◌∙◌}
use Rattle.group_name.specs.Group.{Group, same_group}
use Rattle.needs_graph.specs.Needs.{gathered, needs_at}
use Rattle.run_plan.specs.PlanOf.{plan_of}
use Rattle.run_plan.specs.declared.planned.PlannedJob.{PlannedJob}
use Rattle.run_plan.specs.declared.reply.Lease.{Lease as Leased}
use Rattle.table_model.specs.Fitting.{most_at_work}
use Rattle.table_model.specs.Groups.{HasOneEach, cancels_in_progress, group_at, holds, is_in, is_in_progress_in, is_pending_in, leg_cancels, leg_group}
use Rattle.table_model.specs.Groups.{leg_holds, leg_waits, run_cancels, run_facts, run_facts_at, run_group, run_waits, waits}
use Rattle.table_model.specs.LegContext.{LegFacts, all_have_results, combo_at, context_at, context_of, continues_on_error, facts_at, id_at}
use Rattle.table_model.specs.LegContext.{is_set_for, job_id, needs_have_finished, needs_in, nothing, planned_legs, results_so_far}
use Rattle.table_model.specs.Runs.{JobState, LegState, RunState, direct_needs, is_live, job_at, leg_at, outcome_of, placed, plan_at, run_at}
use Rattle.table_model.specs.Settling.{leg_end, result_at}
use Rattle.table_model.specs.Step.{lease_at}
use Rattle.table_model.specs.declared.holder.Holder.{Holder}
use Rattle.table_model.specs.declared.holder.Holder.TheVariants.{Run, Leg}
use Rattle.table_model.specs.declared.sites.LegSite.{LegSite}
use Rattle.settling_laws.specs.Moved.{moved, moved_leg}
use Rattle.settling_laws.proofs.MovedHolders.{moved_apart}

-- ---- reading

pub get_dropped : {X : Type 0} (k : ℕ) (xs : List X) (i : ℕ) → slice_get (drop k xs) i ≡ slice_get xs (k + i)
get_dropped zero xs i = let at : i ≡ 0 + i = omega arith in ap (slice_get xs) at
get_dropped (suc k) [] i = refl
get_dropped (suc k) (x ∷ xs) i =
    let at : suc (k + i) ≡ suc k + i = omega arith in get_dropped k xs i ∙ ap (slice_get (x ∷ xs)) at

module _ (k : ℕ) (runs : List RunState) where
  pub run_dropped : (r : ℕ) → run_at (drop k runs) r ≡ run_at runs (k + r)
  run_dropped r = get_dropped k runs r

  pub job_dropped : (r j : ℕ) → job_at (drop k runs) r j ≡ job_at runs (k + r) j
  job_dropped r j = ap (option_and_then (λ (x : RunState). slice_get x.jobs j)) (run_dropped r)

  pub leg_dropped : (p : LegSite) → leg_at (drop k runs) p ≡ leg_at runs (moved_leg k p)
  leg_dropped p = ap (option_and_then (λ (y : JobState). slice_get y.legs p.leg)) (job_dropped p.run p.job)

  pub plan_dropped : (r j : ℕ) → plan_at (drop k runs) r j ≡ plan_at runs (k + r) j
  plan_dropped r j = ap (option_and_then (λ (x : RunState). slice_get (plan_of x.admitted.body) j)) (run_dropped r)

  -- ---- a run and a leg ask for what their run says

  facts_in : LegSite → RunState → Option LegFacts
  facts_in p x =
      option_map (λ job. record {
        event = x.admitted;
        run_id = decimal x.id;
        run_number = decimal x.number;
        run_attempt = decimal x.attempt;
        job = job;
        leg = p.leg;
        needs = direct_needs x p.job;
      }) (slice_get (plan_of x.admitted.body) p.job)

  pub facts_dropped : (p : LegSite) → facts_at (drop k runs) p ≡ facts_at runs (moved_leg k p)
  unfolding facts_at facts_in
  facts_dropped p = ap (option_and_then (facts_in p)) (run_dropped p.run)

  pub run_facts_dropped : (r : ℕ) → run_facts_at (drop k runs) r ≡ run_facts_at runs (k + r)
  unfolding run_facts_at
  run_facts_dropped r = ap (option_map run_facts) (run_dropped r)

  pub flag_dropped : (p : LegSite) → continues_on_error (drop k runs) p ≡ continues_on_error runs (moved_leg k p)
  unfolding context_at
  flag_dropped p =
      ap (λ o. option_map_or (λ (job : PlannedJob). is_set_for (option_map_or context_of o nothing) job p.leg)
      (plan_at (drop k runs) p.run p.job) false) (facts_dropped p)
      ∙ ap (λ o. option_map_or
      (λ (job : PlannedJob). is_set_for (option_map_or context_of (facts_at runs (moved_leg k p)) nothing) job p.leg) o false)
      (plan_dropped p.run p.job)

  -- ---- groups

  pub group_dropped : (h : Holder) → group_at (drop k runs) h ≡ group_at runs (moved k h)
  unfolding group_at
  group_dropped (Run r) = ap (option_and_then run_group) (run_facts_dropped r)
  group_dropped (Leg p) = ap (option_and_then leg_group) (facts_dropped p)

  pub cancels_dropped : (h : Holder) → cancels_in_progress (drop k runs) h ≡ cancels_in_progress runs (moved k h)
  unfolding cancels_in_progress
  cancels_dropped (Run r) = ap (λ o. option_map_or run_cancels o false) (run_facts_dropped r)
  cancels_dropped (Leg p) = ap (λ o. option_map_or leg_cancels o false) (facts_dropped p)

  pub waits_dropped : (h : Holder) → waits (drop k runs) h ≡ waits runs (moved k h)
  waits_dropped (Run r) = ap (λ o. option_map_or (λ (x : RunState). run_waits x.phase) o false) (run_dropped r)
  waits_dropped (Leg p) = ap (λ o. option_map_or (λ (x : LegState). leg_waits x.phase) o false) (leg_dropped p)

  pub holds_dropped : (h : Holder) → holds (drop k runs) h ≡ holds runs (moved k h)
  holds_dropped (Run r) = ap (λ o. option_map_or (λ (x : RunState). is_live x.phase) o false) (run_dropped r)
  holds_dropped (Leg p) = ap (λ o. option_map_or (λ (x : LegState). leg_holds x.phase) o false) (leg_dropped p)

  pub in_dropped : (g : Group) (h : Holder) → is_in (drop k runs) g h ≡ is_in runs g (moved k h)
  in_dropped g h = ap (λ o. option_map_or (same_group g) o false) (group_dropped h)

  pub pending_dropped : (g : Group) (h : Holder) → is_pending_in (drop k runs) g h ≡ is_pending_in runs g (moved k h)
  pending_dropped g h =
      ap (λ b. b && waits (drop k runs) h) (in_dropped g h) ∙ ap (λ b. is_in runs g (moved k h) && b) (waits_dropped h)

  pub in_progress_dropped : (g : Group) (h : Holder) → is_in_progress_in (drop k runs) g h ≡ is_in_progress_in runs g (moved k h)
  in_progress_dropped g h =
      ap (λ b. b && holds (drop k runs) h) (in_dropped g h) ∙ ap (λ b. is_in runs g (moved k h) && b) (holds_dropped h)

  pub one_each_dropped : HasOneEach runs → HasOneEach (drop k runs)
  one_each_dropped each = record {
    pending = (λ g h i e f.
        moved_apart k h i (each.pending g (moved k h) (moved k i) (sym (pending_dropped g h) ∙ e) (sym (pending_dropped g i) ∙ f)));
    in_progress = (λ g h i e f.
        moved_apart k h i
        (each.in_progress g (moved k h) (moved k i) (sym (in_progress_dropped g h) ∙ e) (sym (in_progress_dropped g i) ∙ f)));
  }

  -- ---- jobs and legs

  pub needs_dropped : (r j : ℕ) → needs_have_finished (drop k runs) r j ≡ needs_have_finished runs (k + r) j
  needs_dropped r j =
      ap (λ o. all_have_results (option_map_or (λ (x : RunState). results_so_far x.jobs) o []) (needs_at (option_map_or needs_in o []) j))
      (run_dropped r)

  pub planned_dropped : (r j : ℕ) → planned_legs (drop k runs) r j ≡ planned_legs runs (k + r) j
  planned_dropped r j = ap (λ o. option_map_or (λ (job : PlannedJob). length job.legs) o 0) (plan_dropped r j)

  pub most_dropped : (r j : ℕ) → most_at_work (drop k runs) r j ≡ most_at_work runs (k + r) j
  most_dropped r j = ap (option_and_then (λ (job : PlannedJob). job.max_parallel)) (plan_dropped r j)

  filter_same : {X Y : Type 0} (f g : X → Option Y) → ((x : X) → f x ≡ g x) → (xs : List X) → filter_map f xs ≡ filter_map g xs
  filter_same f g same [] = refl
  filter_same f g same (x ∷ xs) = ap (λ o. cons_option o (filter_map f xs)) (same x) ∙ ap (cons_option (g x)) (filter_same f g same xs)

  end_dropped : (r j : ℕ) (l : ℕ × LegState) → leg_end (drop k runs) r j l ≡ leg_end runs (k + r) j l
  end_dropped r j l =
      ap (λ b. option_map (λ o. record { outcome = o; continue_on_error = b }) (outcome_of l.1.phase))
      (flag_dropped (record { run = r; job = j; leg = l.0 }))

  pub result_dropped : (r j : ℕ) (y : JobState) → result_at (drop k runs) r j y ≡ result_at runs (k + r) j y
  result_dropped r j y =
      ap gathered (filter_same (leg_end (drop k runs) r j) (leg_end runs (k + r) j) (end_dropped r j) (placed y.legs))

  -- ---- leases

  pub id_dropped : (r : ℕ) → id_at (drop k runs) r ≡ id_at runs (k + r)
  id_dropped r = ap (λ o. option_map_or (λ (x : RunState). x.id) o 0) (run_dropped r)

  planned_lease : LegSite → ℕ → ℕ → Option PlannedJob → Leased
  planned_lease p id lease o = record {
    lease = lease;
    run = id;
    job = option_map_or (λ (job : PlannedJob). job.id) o [];
    leg = p.leg;
    combo = option_map_or (λ leg. leg.combo) (option_and_then (λ (job : PlannedJob). slice_get job.legs p.leg) o) [];
  }

  pub lease_dropped : (p : LegSite) (lease : ℕ) → lease_at (drop k runs) p lease ≡ lease_at runs (moved_leg k p) lease
  unfolding planned_lease
  lease_dropped p lease =
      ap (λ id. planned_lease p id lease (plan_at (drop k runs) p.run p.job)) (id_dropped p.run)
      ∙ ap (planned_lease p (id_at runs (k + p.run)) lease) (plan_dropped p.run p.job)
