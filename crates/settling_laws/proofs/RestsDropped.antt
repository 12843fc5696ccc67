-- Without the first runs, which have ended, no rule applies where none did before.
use Rattle.std.specs.Prelude.{◌≡◌, ◌<◌, ◌≤◌, ◌+◌, ◌++◌, ◌&&◌, ◌||◌, ℕ, List, [], ◌∷◌, drop, find, flat_map, map, not, Bool, true, false}
use Rattle.std.specs.Prelude.{is_some, option_and_then, Option, Some, None, slice_get, if◌then◌else◌, refl}
use Rattle.std.specs.List.{AllByRecursion, list_all, list_any}
use Rattle.std.specs.Option.{option_map_or}
use Rattle.std.proofs.Common.{ap, subst, sym, ◌∙◌, ltb}
use Rattle.std.proofs.lemmas.Bool.{and_parts, ltb-false, ltb-true, not-true, true≢false}
use Rattle.std.proofs.lemmas.List.{map-append}
use Rattle.group_name.specs.Group.{Group}
use Rattle.table_model.specs.Groups.{all_holders, group_at, holds, is_in, is_in_progress_in, is_taken, may_start}
use Rattle.table_model.specs.Holders.{run_of}
use Rattle.table_model.specs.LegContext.{needs_have_finished}
use Rattle.table_model.specs.Runs.{JobState, LegState, RunState, is_blocked, is_done, is_finished, is_live, job_at, leg_at, placed, run_at}
use Rattle.table_model.specs.Settling.{applies, closing_rule, first_site, job_sites, leg_rule, leg_rule_in, opening_rule, rule_sites, run_sites}
use Rattle.table_model.specs.Settling.{whole_rule, whole_rule_in}
use Rattle.table_model.specs.declared.holder.Holder.{Holder}
use Rattle.table_model.specs.declared.holder.Holder.TheVariants.{Run, Leg}
use Rattle.table_model.specs.declared.phases.LegPhase.{LegPhase}
use Rattle.table_model.specs.declared.phases.LegPhase.TheVariants as leg
use Rattle.table_model.specs.declared.phases.RunPhase.{RunPhase}
use Rattle.table_model.specs.declared.phases.RunPhase.TheVariants as run
use Rattle.table_model.specs.declared.sites.LegSite.{LegSite}
use Rattle.table_model.specs.declared.sites.RuleSite.{RuleSite}
use Rattle.table_model.specs.declared.sites.RuleSite.TheVariants.{Opening, AtLeg, Closing, Whole}
use Rattle.table_model.proofs.Found.{all_flat_map, all_of, all_weaken, each_of_flat_map, each_of_map, each_of_placed, none_found, placed_get}
use Rattle.settling_laws.specs.Moved.{moved, moved_leg, moved_site}
use Rattle.settling_laws.proofs.Dropped.{get_dropped, group_dropped, in_progress_dropped, job_dropped, leg_dropped, needs_dropped, run_dropped}
use Rattle.settling_laws.proofs.HaveEnded.{HaveEnded, holds_not}
use Rattle.settling_laws.proofs.MovedHolders.{moved_back, moved_down}
use Rattle.settling_laws.proofs.OneEach.{not_taken}

-- ---- tests of all elements

none_any : {X : Type 0} (test : X → Bool) (xs : List X) → AllByRecursion (λ x. test x ≡ false) xs → list_any test xs ≡ false
none_any test [] all = refl
none_any test (x ∷ xs) all = ap (λ b. b || list_any test xs) all.0 ∙ none_any test xs all.1

none_where : {X : Type 0} (test : X → Bool) (xs : List X) → AllByRecursion (λ x. test x ≡ false) xs → find test xs ≡ None
none_where test [] all = refl
none_where test (x ∷ xs) all = ap (λ b. if b then Some x else find test xs) all.0 ∙ none_where test xs all.1

some_if : {X : Type 0} (b : Bool) (x : X) → is_some (if b then Some x else None) ≡ b
some_if true x = refl
some_if false x = refl

-- ---- the sites of a run, as far on as it has moved

legs_moved : (k r j : ℕ) (legs : List (ℕ × LegState))
    → map (λ (l : ℕ × LegState). AtLeg (record { run = k + r; job = j; leg = l.0 })) legs ++ Closing (k + r) j ∷ []
    ≡ map (moved_site k) (map (λ (l : ℕ × LegState). AtLeg (record { run = r; job = j; leg = l.0 })) legs ++ Closing r j ∷ [])
legs_moved k r j [] = refl
legs_moved k r j (l ∷ legs) = ap (λ rest. AtLeg (record { run = k + r; job = j; leg = l.0 }) ∷ rest) (legs_moved k r j legs)

job_moved : (k r : ℕ) (j : ℕ × JobState) → job_sites (k + r) j ≡ map (moved_site k) (job_sites r j)
job_moved k r j = ap (λ rest. Opening (k + r) j.0 ∷ rest) (legs_moved k r j.0 (placed j.1.legs))

jobs_moved : (k r : ℕ) (jobs : List (ℕ × JobState)) → flat_map (job_sites (k + r)) jobs ≡ map (moved_site k) (flat_map (job_sites r) jobs)
jobs_moved k r [] = refl
jobs_moved k r (j ∷ jobs) =
    ap (λ s. s ++ flat_map (job_sites (k + r)) jobs) (job_moved k r j)
    ∙ ap (λ s. map (moved_site k) (job_sites r j) ++ s) (jobs_moved k r jobs)
    ∙ sym (map-append (moved_site k) (job_sites r j) (flat_map (job_sites r) jobs))

live_moved : (k r : ℕ) (live : Bool) (jobs : List (ℕ × JobState))
    → (if live then flat_map (job_sites (k + r)) jobs else []) ≡ map (moved_site k) (if live then flat_map (job_sites r) jobs else [])
live_moved k r true jobs = jobs_moved k r jobs
live_moved k r false jobs = refl

sites_moved : (k r : ℕ) (x : RunState) → run_sites (k + r, x) ≡ map (moved_site k) (run_sites (r, x))
sites_moved k r x =
    ap (λ s. s ++ Whole (k + r) ∷ []) (live_moved k r (is_live x.phase) (placed x.jobs))
    ∙ sym (map-append (moved_site k) (if is_live x.phase then flat_map (job_sites r) (placed x.jobs) else []) (Whole r ∷ []))

module _ (k : ℕ) (runs : List RunState) (ended : HaveEnded k runs) where
  -- ---- a group that is free then was free before

  none_in_progress : (g : Group) → is_taken (drop k runs) g ≡ false → (h : Holder) → is_in_progress_in runs g h ≡ true → ⊥
  none_in_progress g free h e =
      elim (ltb (run_of h) k) as (λ b. ltb (run_of h) k ≡ b → ⊥) [
        | true ↦ λ is.
            true≢false (sym (and_parts (is_in runs g h) (holds runs h) e).1 ∙ holds_not k runs ended h (ltb-true (run_of h) k is))
        | false ↦ λ is.
            not_taken (drop k runs) g (moved_down k h) free
            (in_progress_dropped k runs g (moved_down k h)
            ∙ ap (is_in_progress_in runs g) (moved_back k h (ltb-false (run_of h) k is)) ∙ e)
      ] refl

  nobody : (g : Group) → is_taken (drop k runs) g ≡ false → (h : Holder) → is_in_progress_in runs g h ≡ false
  nobody g free h =
      elim (is_in_progress_in runs g h) as (λ b. is_in_progress_in runs g h ≡ b → b ≡ false) [
        | true ↦ λ is. absurd (none_in_progress g free h is)
        | false ↦ λ is. refl
      ] refl

  was_free : (g : Group) → is_taken (drop k runs) g ≡ false → is_taken runs g ≡ false
  was_free g free =
      none_any (is_in_progress_in runs g) (all_holders runs)
      (all_of (λ h. is_in_progress_in runs g h ≡ false) (nobody g free) (all_holders runs))

  starts_in : (o : Option Group) → option_map_or (λ g. not (is_taken (drop k runs) g)) o true ≡ true
      → option_map_or (λ g. not (is_taken runs g)) o true ≡ true
  starts_in None e = refl
  starts_in (Some g) e = ap not (was_free g (not-true (is_taken (drop k runs) g) e))

  might_start : (h : Holder) → may_start (drop k runs) h ≡ true → may_start runs (moved k h) ≡ true
  might_start h e =
      starts_in (group_at runs (moved k h))
      (sym (ap (λ o. option_map_or (λ g. not (is_taken (drop k runs) g)) o true) (group_dropped k runs h)) ∙ e)

  -- ---- a rule that applies then applied before

  opening_in : (r j : ℕ) (o : Option JobState) → is_some (option_and_then (opening_rule (drop k runs) r j) o) ≡ true
      → is_some (option_and_then (opening_rule runs (k + r) j) o) ≡ true
  opening_in r j None e = cc
  opening_in r j (Some y) e =
      some_if (is_blocked y.phase && needs_have_finished runs (k + r) j) _
      ∙ ap (λ b. is_blocked y.phase && b) (sym (needs_dropped k runs r j))
      ∙ sym (some_if (is_blocked y.phase && needs_have_finished (drop k runs) r j) _)
      ∙ e

  closing_in : (r j : ℕ) (o : Option JobState) → is_some (option_and_then (closing_rule (drop k runs) r j) o) ≡ true
      → is_some (option_and_then (closing_rule runs (k + r) j) o) ≡ true
  closing_in r j None e = cc
  closing_in r j (Some y) e = some_if (is_done y) _ ∙ sym (some_if (is_done y) _) ∙ e

  leg_in : (p : LegSite) (phase : LegPhase) → is_some (leg_rule_in phase (drop k runs) p) ≡ true
      → is_some (leg_rule_in phase runs (moved_leg k p)) ≡ true
  leg_in p leg.New e = refl
  leg_in p leg.Waiting e =
      some_if (may_start runs (Leg (moved_leg k p))) _
      ∙ might_start (Leg p) (sym (some_if (may_start (drop k runs) (Leg p)) _) ∙ e)
  leg_in p leg.Ready e = cc
  leg_in p leg.Running e = cc
  leg_in p leg.Stopping e = cc
  leg_in p (leg.Ended r) e = cc

  at_leg_in : (p : LegSite) (o : Option LegState) → is_some (option_and_then (leg_rule (drop k runs) p) o) ≡ true
      → is_some (option_and_then (leg_rule runs (moved_leg k p)) o) ≡ true
  at_leg_in p None e = cc
  at_leg_in p (Some z) e = leg_in p z.phase e

  whole_in : (r : ℕ) (x : RunState) (phase : RunPhase) → is_some (whole_rule_in phase (drop k runs) r x) ≡ true
      → is_some (whole_rule_in phase runs (k + r) x) ≡ true
  whole_in r x run.Waiting e =
      some_if (may_start runs (Run (k + r))) _ ∙ might_start (Run r) (sym (some_if (may_start (drop k runs) (Run r)) _) ∙ e)
  whole_in r x run.Live e = some_if (list_all is_finished x.jobs) _ ∙ sym (some_if (list_all is_finished x.jobs) _) ∙ e
  whole_in r x run.Ended e = cc

  at_whole_in : (r : ℕ) (o : Option RunState) → is_some (option_and_then (whole_rule (drop k runs) r) o) ≡ true
      → is_some (option_and_then (whole_rule runs (k + r)) o) ≡ true
  at_whole_in r None e = cc
  at_whole_in r (Some x) e = whole_in r x x.phase e

  applied : (s : RuleSite) → applies (drop k runs) s ≡ true → applies runs (moved_site k s) ≡ true
  applied (Opening r j) e =
      opening_in r j (job_at runs (k + r) j)
      (sym (ap (λ o. is_some (option_and_then (opening_rule (drop k runs) r j) o)) (job_dropped k runs r j)) ∙ e)
  applied (AtLeg p) e =
      at_leg_in p (leg_at runs (moved_leg k p))
      (sym (ap (λ o. is_some (option_and_then (leg_rule (drop k runs) p) o)) (leg_dropped k runs p)) ∙ e)
  applied (Closing r j) e =
      closing_in r j (job_at runs (k + r) j)
      (sym (ap (λ o. is_some (option_and_then (closing_rule (drop k runs) r j) o)) (job_dropped k runs r j)) ∙ e)
  applied (Whole r) e =
      at_whole_in r (run_at runs (k + r))
      (sym (ap (λ o. is_some (option_and_then (whole_rule (drop k runs) r) o)) (run_dropped k runs r)) ∙ e)

  rests_there : (s : RuleSite) → applies runs (moved_site k s) ≡ false → applies (drop k runs) s ≡ false
  rests_there s none =
      elim (applies (drop k runs) s) as (λ b. applies (drop k runs) s ≡ b → b ≡ false) [
        | true ↦ λ is. absurd (true≢false (sym (applied s is) ∙ none))
        | false ↦ λ is. refl
      ] refl

  run_rests : first_site runs ≡ None → (e : ℕ × RunState) → slice_get (drop k runs) e.0 ≡ Some e.1
      → AllByRecursion (λ s. applies (drop k runs) s ≡ false) (run_sites e)
  run_rests rest e at =
      let everywhere = none_found (applies runs) (rule_sites runs) rest in
      let by_run = each_of_flat_map (λ s. applies runs s ≡ false) run_sites (placed runs) everywhere in
      let here = each_of_placed (λ (x : ℕ × RunState). AllByRecursion (λ s. applies runs s ≡ false) (run_sites x)) runs (k + e.0) e.1 by_run
      (sym (get_dropped k runs e.0) ∙ at) in
      let there = subst (AllByRecursion (λ s. applies runs s ≡ false)) (sites_moved k e.0 e.1) here in
      all_weaken (λ s. applies runs (moved_site k s) ≡ false) (λ s. applies (drop k runs) s ≡ false) rests_there (run_sites e)
      (each_of_map (λ s. applies runs s ≡ false) (moved_site k) (run_sites e) there)

  pub rests_dropped : first_site runs ≡ None → first_site (drop k runs) ≡ None
  rests_dropped rest =
      none_where (applies (drop k runs)) (rule_sites (drop k runs))
      (all_flat_map (λ s. applies (drop k runs) s ≡ false) run_sites (placed (drop k runs))
      (all_weaken (λ (e : ℕ × RunState). slice_get (drop k runs) e.0 ≡ Some e.1)
      (λ (e : ℕ × RunState). AllByRecursion (λ s. applies (drop k runs) s ≡ false) (run_sites e)) (run_rests rest) (placed (drop k runs))
      (placed_get (drop k runs))))
